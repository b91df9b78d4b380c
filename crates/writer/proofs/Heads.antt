-- The line reader reads a written head: the name, the address, and the place where the fields begin; from there they are read as written, up to the code.
use Prim.Native.Nat.{ℕ, ◌+◌, ◌%◌, ◌≤◌, ◌<◌}
use mathlib.Core.Path.{◌≡◌, refl, sym, ap}
use mathlib.Core.Bool.{true}
use mathlib.Core.List.{List, [], ◌∷◌, ◌++◌, append_assoc}
use native.Mathlib.Omega.{arith}
use borrow.Author.Tests.{lt-ltb, le-ltb, lt-leb, ne_eqb}
use Rattle.std.specs.Prelude.{Some}
use lib.ListN.{length, drop}
use Rattle.std.proofs.Common.{Ok}
use Rattle.laws.specs.Bytes.{bytes}
use Rattle.laws.specs.Lists.{all}
use Rattle.laws.proofs.Lists.{stands_at, stands_below, stands_behind}
use Rattle.text.specs.declared.number.Number.TheVariants.{Value}
use Rattle.text.specs.Number.{number_at}
use Rattle.text.specs.Field.{after_comma}
use Rattle.words.specs.Decimal.{decimal}
use Rattle.words.specs.declared.Fields.{Fields}
use Rattle.text.proofs.Behind.{number_behind, field_ends, field_comma, field_behind, field_good}
use Rattle.code.specs.Limits.{most_id, least_freq, most_freq, most_repeat, most_offset}
use Rattle.request.specs.declared.Place.{Place}
use Rattle.request.specs.declared.Ask.TheVariants.{Send}
use Rattle.request.specs.declared.Request.TheVariants.{Connector}
use Rattle.request.specs.declared.name.Name.TheVariants.{SendIr}
use Rattle.request.specs.declared.name.Word.TheVariants.{Named}
use Rattle.request.specs.Place.{place_of}
use Rattle.request.specs.Name.{word_at}
use Rattle.request.specs.Address.{part_at, port_at, address_at, address_fault}
use Rattle.request.specs.Request.{is_printable, addressed, read_request}
use Rattle.request.specs.Accepted.{ConnectorAt}
use Rattle.command.specs.Fields.{capped, fields_at, FieldsWithin}
use Rattle.writer.specs.Sendir.{sendir_head}
use Rattle.writer.proofs.Limits.{small}

-- numbers with a comma behind each, and what stands behind them
abbrev pub listed : List ℕ → List ℕ → List ℕ
listed [] rest = rest
listed (n ∷ ns) rest = decimal n ++ (44 ∷ listed ns rest)

abbrev pub fields_in : Fields → List ℕ
fields_in f = f.id ∷ f.freq ∷ f.repeat ∷ f.offset ∷ []

-- a line byte by byte: the head's fixed part, the numbers, the code
pub line_is : (port : ℕ) (f : Fields) (code : List ℕ) → sendir_head port f ++ code ≡ bytes "sendir,1:" ++ listed (port ∷ fields_in f) code
unfolding sendir_head
line_is port f code = simp append_assoc

-- ---- the fields
-- a repeat that was capped is taken as it is
pub capped_same : (n : ℕ) → n ≤ 20 → capped n ≡ n
unfolding capped
capped_same n h = rw (le-ltb 20 n h)

pub record FieldsBack (s : List ℕ) (at : ℕ) (f : Fields) (code : List ℕ) : Type 0 where
  pub end : ℕ
  pub fields : fields_at s at ≡ Ok (f, end)
  pub behind : drop end s ≡ code

fields_back : {f : Fields} (s : List ℕ) (at : ℕ) (code : List ℕ) → FieldsWithin f → drop at s ≡ listed (fields_in f) code → FieldsBack s at f code
unfolding fields_at
fields_back {f} s at code l e =
    let a = at + length (decimal f.id) + 1 in
    let b = a + length (decimal f.freq) + 1 in
    let c = b + length (decimal f.repeat) + 1 in
    let ea = field_behind s at f.id (listed (f.freq ∷ f.repeat ∷ f.offset ∷ []) code) e in
    let eb = field_behind s a f.freq (listed (f.repeat ∷ f.offset ∷ []) code) ea in
    let ec = field_behind s b f.repeat (listed (f.offset ∷ []) code) eb in
    record {
      end = c + length (decimal f.offset) + 1;
      fields =
          rw (
            field_good s at f.id _ e 0 most_id (omega arith) l.id_most (omega (arith, l.id_most)),
            field_comma s at f.id _ e,
            field_good s a f.freq _ ea least_freq most_freq l.freq_least l.freq_most (omega (arith, l.freq_most)),
            field_comma s a f.freq _ ea,
            field_good s b f.repeat _ eb 1 most_repeat l.repeat_least (omega (arith, l.repeat_most)) (omega (arith, l.repeat_most)),
            field_comma s b f.repeat _ eb,
            field_good s c f.offset code ec 1 most_offset l.offset_least l.offset_most (omega (arith, l.offset_most)),
            field_comma s c f.offset code ec,
            ne_eqb (f.offset % 2) 0 (λ z. omega (arith, l.offset_odd)),
            capped_same f.repeat l.repeat_most,
          );
      behind = field_behind s c f.offset code ec;
    }

-- ---- the address: 49 is the digit 1, 58 the colon
one : decimal 1 ≡ 49 ∷ []
unfolding decimal
one = refl

address_back : (s : List ℕ) (port : ℕ) (rest : List ℕ) → port < 1000000 → drop 7 s ≡ 49 ∷ 58 ∷ (decimal port ++ (44 ∷ rest))
    → address_at s 7 ≡ Some (place_of 1 port, 9 + length (decimal port))
unfolding address_at port_at part_at
address_back s port rest h e =
    let m : number_at s 7 ≡ Value 1 8 =
    rw one at (number_behind s 7 1 (58 ∷ (decimal port ++ (44 ∷ rest))) (rw one e) (omega arith) refl) in
    let colon : drop 8 s ≡ 58 ∷ (decimal port ++ (44 ∷ rest)) = stands_behind s 7 (49 ∷ []) _ e in
    let p : drop 9 s ≡ decimal port ++ (44 ∷ rest) = stands_behind s 8 (58 ∷ []) _ colon in
    rw (
      m,
      lt-leb (length s) 8 (stands_below s 8 58 _ colon),
      stands_at s 8 58 _ 0 colon,
      number_behind s 9 port (44 ∷ rest) p h refl,
      field_ends s 9 port rest p,
    )

-- ---- the whole line
pub record HeadBack (s : List ℕ) (place : Place) (f : Fields) (code : List ℕ) : Type 0 where
  pub start : ℕ
  pub request : read_request s ≡ Connector place (Send start)
  pub back : FieldsBack s start f code

addressed_back : {place : Place} {f : Fields} (s code : List ℕ) → ConnectorAt place → FieldsWithin f
    → drop 6 s ≡ 44 ∷ 49 ∷ 58 ∷ listed (place.port ∷ fields_in f) code
    → addressed s SendIr ≡ Connector place (Send (9 + length (decimal place.port) + 1))
unfolding addressed after_comma address_fault
addressed_back {place} {f} s code a l e =
    let port = place.port in
    let d = stands_behind s 6 (44 ∷ []) _ e in
    let p : drop 9 s ≡ listed (port ∷ fields_in f) code = stands_behind s 7 (49 ∷ 58 ∷ []) _ d in
    let is_one = sym a.infrared in
    let here : place_of 1 port ≡ place = λ i. record { m = is_one i; port = port } in
    rw (
      lt-ltb 6 (length s) (stands_below s 6 44 _ e),
      address_back s port _ (small a l).port_small d,
      le-ltb port 1 a.least,
      le-ltb 3 port a.most,
      field_comma s 9 port _ p,
      here,
    )

pub head_back : {place : Place} {f : Fields} (s code : List ℕ) → ConnectorAt place → FieldsWithin f → length s ≤ 4096
    → all is_printable s ≡ true → s ≡ bytes "sendir,1:" ++ listed (place.port ∷ fields_in f) code → HeadBack s place f code
unfolding read_request word_at
head_back {place} {f} s code a l few fine e =
    let port = place.port in
    let named : word_at s ≡ Some (Named SendIr) = rw e in
    let behind : drop 9 s ≡ listed (port ∷ fields_in f) code = rw e in
    record {
      start = 9 + length (decimal port) + 1;
      request = rw (le-ltb 4096 (length s) few, fine, named, addressed_back s code a l (ap (drop 6) e));
      back = fields_back s (9 + length (decimal port) + 1) code l (field_behind s 9 port (listed (fields_in f) code) behind);
    }
