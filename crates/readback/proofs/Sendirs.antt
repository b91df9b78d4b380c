-- What the hub reads behind the address of a sendir that is spelled out: its fields, then its counts, each with the fault that the composer finds.
use Prim.Native.Nat.{ℕ, ◌+◌, ◌*◌, ◌%◌, ◌≤◌, ◌<◌}
use mathlib.Core.Path.{◌≡◌, refl, sym, ap, ◌∙◌}
use mathlib.Core.Bool.{true, false, cond}
use mathlib.Core.List.{List, [], ◌∷◌, ◌++◌, map, append-nil}
use mathlib.Core.Option.{some-ne-none, some-injective}
use native.Mathlib.Omega.{arith}
use borrow.Author.Tests.{le-ltb, leb-true}
use lib.Dec.{ltb, leb, eqb}
use lib.ListN.{length}
use Rattle.std.proofs.Common.{Ok, Err}
use Rattle.laws.specs.Checks.{between}
use Rattle.laws.specs.Lists.{all, part, behind, joined}
use Rattle.laws.proofs.Choice.{by_test}
use Rattle.laws.proofs.Lists.{all_append}
use Rattle.laws.proofs.Cutting.{behind_next, behind_all}
use Rattle.laws.proofs.Joining.{behind_joined}
use Rattle.words.specs.Digits.{is_digit, worth}
use Rattle.words.specs.Decimal.{decimal}
use Rattle.words.specs.Pairs.{pairs_of}
use Rattle.words.specs.declared.Pair.{Pair}
use Rattle.text.specs.Field.{after_comma}
use Rattle.text.proofs.Decimals.{decimal_digits}
use Rattle.meaning.specs.Line as table
use Rattle.meaning.specs.Line.{within, code_in}
use Rattle.code.specs.Limits.{most_id, least_freq, most_freq, most_repeat, most_offset}
use Rattle.code.specs.Read.{Reading, pairs, fault, read_code}
use Rattle.request.specs.Address.{beyond}
use Rattle.request.specs.declared.name.Name.TheVariants.{SendIr}
use Rattle.request.specs.Name.{name_of}
use Rattle.command.specs.declared.given.Given.{Given}
use Rattle.command.specs.declared.given.Command.{Command}
use Rattle.command.specs.Fields.{fields_at}
use Rattle.command.specs.Given.{taken_as}
use Rattle.command.specs.Read.{faulty, code_read, code_at, command_at}
use Rattle.reads.specs.Readings.{reading_of}
use Rattle.reads.proofs.Cursor.{Cursor, next, within_is}
use Rattle.reads.proofs.Bytewise.{code_bytewise}
use Rattle.composer.specs.Fault.{fields_fault, counts_fault}
use Rattle.readback.specs.Composed.{Wide, EachWide, WideCommand, spelled_out}
use Rattle.readback.proofs.Counts.{number_back, counts_read}
use Rattle.readback.proofs.Placed.{decimal_within, fair, decimal_fair, decimals_fair, fair_free, address_of, address_fair, Line, line_of}

-- a field that is a decimal of a machine's number
pub record Holds (field : List ℕ) (n : ℕ) : Type 0 where
  pub is : field ≡ decimal n
  pub wide : Wide n

module _ {field : List ℕ} {n : ℕ} (h : Holds field n) where
  field_within_law : (least most : ℕ) → most < beyond → within least most field ≡ between least most n
  field_within_law least most small = rw h.is (decimal_within n h.wide least most small)

  field_value : worth 0 field ≡ n
  field_value = rw h.is (number_back n h.wide)

-- the fields of a sendir behind its address, and its counts
pub record Spelt (s : List ℕ) (f : Given) (counts : List ℕ) : Type 0 where
  pub id : Holds (part 44 2 s) f.id
  pub freq : Holds (part 44 3 s) f.freq
  pub repeat : Holds (part 44 4 s) f.repeat
  pub offset : Holds (part 44 5 s) f.offset
  pub code : behind 44 6 s ≡ joined 44 (map decimal counts)
  pub wide : EachWide counts

-- ---- a sendir spelled out is such a line
module _ (c : Command) where
  abbrev front : List (List ℕ)
  front = name_of SendIr ∷ address_of c.place ∷ map decimal (c.fields.id ∷ c.fields.freq ∷ c.fields.repeat ∷ [])

  front_fair : all (all fair) front ≡ true
  front_fair = rw (address_fair c.place, decimal_fair c.fields.id, decimal_fair c.fields.freq, decimal_fair c.fields.repeat)

  -- the counts stand behind the sixth comma, and where there is none, nothing does
  code_stands : (counts : List ℕ) → behind 44 6 (spelled_out c counts) ≡ joined 44 (map decimal counts)
  unfolding spelled_out
  code_stands [] =
      let offset = decimal c.fields.offset in
      sym (behind_next 44 5 (joined 44 (front ++ (offset ∷ []))))
      ∙ ap (behind 44 1) (behind_joined 44 front offset (fair_free front front_fair))
      ∙ (rw append-nil at (behind_all is_digit 44 refl offset [] (decimal_digits c.fields.offset)))
  code_stands (n ∷ l) =
      let fields = front ++ (decimal c.fields.offset ∷ []) in
      behind_joined 44 fields (joined 44 (map decimal (n ∷ l)))
      (fair_free fields (all_append (all fair) front (decimal c.fields.offset ∷ []) front_fair (rw (decimal_fair c.fields.offset))))

  module _ (counts : List ℕ) where
    abbrev rest : List (List ℕ)
    rest = map decimal (c.fields.id ∷ c.fields.freq ∷ c.fields.repeat ∷ c.fields.offset ∷ counts)

    pub spelled_line : Line (spelled_out c counts) SendIr c.place rest
    unfolding spelled_out
    spelled_line = line_of SendIr c.place rest (decimals_fair (c.fields.id ∷ c.fields.freq ∷ c.fields.repeat ∷ c.fields.offset ∷ counts))

    pub spelled_fields : WideCommand c counts → Spelt (spelled_out c counts) c.fields counts
    spelled_fields w =
        record {
          id = record { is = rw spelled_line.cuts; wide = w.id };
          freq = record { is = rw spelled_line.cuts; wide = w.freq };
          repeat = record { is = rw spelled_line.cuts; wide = w.repeat };
          offset = record { is = rw spelled_line.cuts; wide = w.offset };
          code = code_stands counts;
          wide = w.each;
        }

-- what the code reader has read, by what the table reads
fault_of : (r : Reading) {n : ℕ} → reading_of r ≡ table.faulty n → (ps : List Pair) × (r ≡ fault n ps)
fault_of (pairs ps) {n} e = absurd (some-ne-none n (sym (ap (λ (x : table.Reading). x.fault) e)))
fault_of (fault k ps) {n} e =
    let alike : k ≡ n = some-injective k n (ap (λ (x : table.Reading). x.fault) e) in
    (ps, ap (λ (m : ℕ). fault m ps) alike)

pairs_of_law : (r : Reading) {ps : List Pair} → reading_of r ≡ table.sound ps → r ≡ pairs ps
pairs_of_law (pairs qs) e = ap (λ (x : table.Reading). pairs x.pairs) e
pairs_of_law (fault k qs) e = absurd (some-ne-none k (ap (λ (x : table.Reading). x.fault) e))

-- an on count without an off count is no pair
pairs_most : (l : List ℕ) → 2 * length (pairs_of l) ≤ length l
pairs_most [] = omega arith
pairs_most (a ∷ []) = omega arith
pairs_most (a ∷ b ∷ l) = omega (arith, pairs_most l)

module _ {s : List ℕ} {at : ℕ} {f : Given} {counts : List ℕ} (c : Cursor s 2 at) (x : Spelt s f counts) where
  -- where the code begins
  abbrev code_begins : ℕ
  code_begins =
      let freq = after_comma s (at + length (part 44 2 s)) in
      let repeat = after_comma s (freq + length (part 44 3 s)) in
      let offset = after_comma s (repeat + length (part 44 4 s)) in
      after_comma s (offset + length (part 44 5 s))

  behind_fields : Cursor s 6 code_begins
  behind_fields = next (next (next (next c)))

  -- the fields, or the fault of the first that is out of range
  fields_read : fields_at s at ≡ cond (eqb (fields_fault f) 0) (Ok (taken_as f, code_begins)) (Err (fields_fault f))
  unfolding fields_at fields_fault
  fields_read =
      rw (within_is c 0 most_id, field_within_law x.id 0 most_id (omega arith), field_value x.id)
      (by_test (between 0 most_id f.id) (λ i. rw (
        i,
        within_is (next c) least_freq most_freq,
        field_within_law x.freq least_freq most_freq (omega arith),
        field_value x.freq,
      )
      (by_test (between least_freq most_freq f.freq) (λ q. rw (
        q,
        within_is (next (next c)) 1 most_repeat,
        field_within_law x.repeat 1 most_repeat (omega arith),
        field_value x.repeat,
      )
      (by_test (between 1 most_repeat f.repeat) (λ r. rw (
        r,
        within_is (next (next (next c))) 1 most_offset,
        field_within_law x.offset 1 most_offset (omega arith),
        field_value x.offset,
      )
      (by_test (between 1 most_offset f.offset) (λ o. rw o (by_test (eqb (f.offset % 2) 0) (λ v. rw v) (λ v. rw v))) (λ o. rw o)))
      (λ r. rw r))) (λ q. rw q))) (λ i. rw i))

  -- the code is read as the counts spelled one by one
  code_read_law : reading_of (read_code f.freq s code_begins)
      ≡ cond (eqb (counts_fault f.freq counts) 0) (table.sound (pairs_of counts)) (table.faulty (counts_fault f.freq counts))
  code_read_law =
      code_bytewise f.freq s code_begins ∙ ap (code_in f.freq) (behind_fields.stands ∙ x.code) ∙ counts_read f.freq counts x.wide

  -- ---- the faults in their order
  pub fields_refused : eqb (fields_fault f) 0 ≡ false → command_at s at ≡ faulty (fields_fault f) []
  unfolding command_at
  fields_refused e = rw (fields_read, e)

  module _ (good : eqb (fields_fault f) 0 ≡ true) where
    command_is : command_at s at ≡ code_read (taken_as f) (read_code f.freq s code_begins)
    unfolding command_at code_at
    command_is = rw (fields_read, good)

    pub code_refused : eqb (counts_fault f.freq counts) 0 ≡ false
        → (ps : List Pair) × (command_at s at ≡ faulty (counts_fault f.freq counts) ps)
    code_refused e =
        let r = fault_of (read_code f.freq s code_begins) (rw e at code_read_law) in
        (r.0, command_is ∙ ap (code_read (taken_as f)) r.1)

    pub offset_refused : eqb (counts_fault f.freq counts) 0 ≡ true → leb (length counts) f.offset ≡ true
        → command_at s at ≡ faulty 7 (pairs_of counts)
    offset_refused e over =
        let r = pairs_of_law (read_code f.freq s code_begins) (rw e at code_read_law) in
        let beyond_code : ltb f.offset (2 * length (pairs_of counts)) ≡ false =
        le-ltb f.offset _ (omega (arith, leb-true (length counts) f.offset over, pairs_most counts)) in
        command_is ∙ ap (code_read (taken_as f)) r ∙ rw beyond_code
