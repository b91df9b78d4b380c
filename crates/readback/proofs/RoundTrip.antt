-- Every line that the writer gives is read, from its buffer, as the command and the pairs that were given.
use Prim.Native.Nat.{ℕ, ◌+◌, ◌*◌, ◌≤◌}
use mathlib.Core.Path.{◌≡◌, refl, ◌∙◌, subst}
use mathlib.Core.Bool.{true}
use mathlib.Core.List.{List, [], ◌∷◌, append_assoc}
use native.Mathlib.Omega.{arith}
use borrow.Author.Tests.{ltb-true, lt-ltb, le-ltb, le-leb}
use lib.Dec.{ltb}
use lib.ListN.{length, take}
use Rattle.std.proofs.Common.{Ok, Err}
use Rattle.laws.specs.Bytes.{bytes}
use Rattle.laws.specs.Lists.{all}
use Rattle.laws.specs.Put.{over}
use Rattle.laws.proofs.Choice.{cond_case, clash}
use Rattle.laws.proofs.Put.{over_front}
use Rattle.words.specs.Digits.{is_digit, Spells}
use Rattle.words.specs.Decimal.{decimal}
use Rattle.words.specs.Pairs.{pairs_of}
use Rattle.words.specs.declared.Pair.{Pair}
use Rattle.words.specs.declared.Fields.{Fields}
use Rattle.text.proofs.Reading.{digit_range}
use Rattle.text.proofs.Decimals.{decimal_spells}
use Rattle.theorems.specs.Spelled.{fields, at, Legal, command, IsSendir}
use Rattle.theorems.specs.Spelled as spelled
use Rattle.theorems.proofs.Spelled.{sendir_spelled}
use Rattle.code.specs.Accepted.{Accepted}
use Rattle.request.specs.declared.Place.{Place}
use Rattle.request.specs.Request.{is_printable}
use Rattle.command.specs.declared.given.Command.{Command}
use Rattle.command.specs.Fields.{capped}
use Rattle.command.specs.Read.{CommandReading, sent, faulty, code_at, command_at}
use Rattle.command.specs.Given.{taken_as, command_given}
use Rattle.command.proofs.Capping.{capped_high}
use Rattle.reads.proofs.Codes.{means_accepted}
use Rattle.writer.specs.declared.Form.{Form}
use Rattle.writer.specs.CodeText.{items, code_text}
use Rattle.writer.specs.Sendir.{sendir_head, sendir_line, Outcome, refused, line, command_outcome, outcome, Wrote}
use Rattle.readback.specs.RoundTrip.{ReadsBack}
use Rattle.writer.proofs.Limits.{Taken, given_taken, small}
use Rattle.writer.proofs.ReadBack.{code_means, code_back}
use Rattle.writer.proofs.Heads.{capped_same, fields_in, line_is, head_back}
use Rattle.writer.proofs.Bytes.{listed_all, text_all, head_few, code_few}
use Rattle.writer.proofs.Forms.{items_low}

-- ---- what is written was taken
record LineTaken (form : Form) (c : Command) (given text : List ℕ) : Type 0 where
  taken : Taken c given (taken_as c.fields) (pairs_of given)
  written : text ≡ sendir_line form c.place (taken_as c.fields) (pairs_of given)

no_line : {A : Type 0} {number : ℕ} {text : List ℕ} → refused number ≡ line text → A
no_line e = clash (cc)

line_taken : (room : ℕ) (form : Form) (c : Command) (given text : List ℕ) → outcome room form c given ≡ line text → LineTaken form c given text
unfolding outcome
line_taken room form c given text =
    cond_case (λ (o : Outcome). o ≡ line text → LineTaken form c given text) (ltb room 4096) _ _ (λ _ z. no_line z) λ _.
    go (command_given c given) refl
  where
    go : (r : CommandReading) → command_given c given ≡ r → command_outcome form c.place r ≡ line text → LineTaken form c given text
    go (faulty number ps) e z = no_line z
    go (sent f ps) e z =
        let t = given_taken c given f ps e in
        let is : text ≡ sendir_line form c.place f ps = cc in
        record { taken = rw (t.fields, t.pairs) at t; written = rw (t.fields, t.pairs) at is }

-- ---- the bytes of a line are printable, and few
digit_printable : (b : ℕ) → is_digit b ≡ true → is_printable b ≡ true
digit_printable b e =
    let r = digit_range b e in
    rw (le-ltb b 32 (omega (arith, r.0)), le-leb b 126 (omega (arith, r.1)))

letter_printable : (i : ℕ) → ltb i 15 ≡ true → is_printable (65 + i) ≡ true
letter_printable i e = rw (le-ltb (65 + i) 32 (omega arith), le-leb (65 + i) 126 (omega (arith, ltb-true i 15 e)))

code_printable : (form : Form) (ps : List Pair) → all is_printable (code_text form ps) ≡ true
unfolding code_text
code_printable form ps =
    text_all is_printable digit_printable refl (λ i. ltb i 15) letter_printable (items form [] ps) (items_low form ps)

code_fits : (form : Form) {freq : ℕ} {ps : List Pair} → Accepted freq ps → length (code_text form ps) ≤ 3640
code_fits form {freq} {ps} a = omega (arith, code_few form freq ps a.allowed, a.most)

few : (room : ℕ) (form : Form) (c : Command) (given text : List ℕ) → outcome room form c given ≡ line text → length text ≤ 4096
few room form c given text e =
    let w = line_taken room form c given text e in
    let t = w.taken in
    let code = code_text form (pairs_of given) in
    rw (w.written ∙ line_is c.place.port (taken_as c.fields) code)
    (omega (arith, head_few code (small t.place t.accepts.fields), code_fits form t.accepts.code))

pub line_back : (room : ℕ) (form : Form) (c : Command) (given text : List ℕ) → outcome room form c given ≡ line text
    → ReadsBack c (pairs_of given) text
unfolding command_at code_at
line_back room form c given text e =
    let w = line_taken room form c given text e in
    let t = w.taken in
    let f = taken_as c.fields in
    let code = code_text form (pairs_of given) in
    let is = w.written ∙ line_is c.place.port f code in
    let short = few room form c given text e in
    let fine : all is_printable text ≡ true =
    rw is (listed_all is_printable digit_printable refl (c.place.port ∷ fields_in f) code (code_printable form (pairs_of given))) in
    let h = head_back text code t.place t.accepts.fields short fine is in
    let b = h.back in
    record {
      place = h.start;
      request = h.request;
      command =
          rw (
            b.fields,
            code_back form text b.end t.accepts.code b.behind,
            lt-ltb c.fields.offset (2 * length (pairs_of given)) t.accepts.offset,
          );
    }

-- what holds of a line that the writer has to write holds of the buffer's bytes up to the length that it answered
from_buffer : {before : List ℕ} {form : Form} {c : Command} {given after : List ℕ} {n : ℕ} (P : List ℕ → Type 0)
    → ((text : List ℕ) → outcome (length before) form c given ≡ line text → P text) → Wrote before form c given after (Ok n) → P (take n after)
from_buffer {before} {form} {c} {given} {after} {n} P holds w = go (outcome (length before) form c given) refl
  where
    go : (o : Outcome) → outcome (length before) form c given ≡ o → P (take n after)
    go (refused number) e =
        let f : Ok n ≡ Err number = rw e at w.answer in
        let z : ◌≡◌ {A = ℕ} 0 1 = cc in
        absurd (omega arith)
    go (line text) e =
        let f : Ok n ≡ Ok (length text) = rw e at w.answer in
        let k : n ≡ length text = cc in
        let m : n ≡ 0 + length text = omega arith in
        let l : after ≡ over before 0 text = rw e at w.laid in
        rw (l, m, over_front before 0 text (omega arith)) (holds text e)

-- the line reader and the command reader find the command and the pairs
pub round_trip : {before : List ℕ} {form : Form} {c : Command} {given after : List ℕ} {n : ℕ} → Wrote before form c given after (Ok n)
    → ReadsBack c (pairs_of given) (take n after)
round_trip {before} {form} {c} {given} w = from_buffer (ReadsBack c (pairs_of given)) (line_back (length before) form c given) w

-- ---- and the table does: it is a sendir without a fault, with these fields and pairs
spelled_line : (form : Form) (place : Place) (f : Fields) (ps : List Pair)
    → sendir_line form place f ps
    ≡ fields
    (bytes "sendir" ∷ at (bytes "1") (decimal place.port) ∷ decimal f.id ∷ decimal f.freq
    ∷ decimal f.repeat ∷ decimal f.offset ∷ code_text form ps ∷ [])
unfolding sendir_head
spelled_line form place f ps = simp append_assoc

capped_again : (repeat : ℕ) → spelled.capped (capped repeat) ≡ spelled.capped repeat
unfolding capped
capped_again repeat = capped_same (capped repeat) (capped_high repeat)

pub line_meant : (room : ℕ) (form : Form) (c : Command) (given text : List ℕ) → outcome room form c given ≡ line text
    → IsSendir text c.place.port (command c.fields.id c.fields.freq c.fields.repeat c.fields.offset) (pairs_of given)
line_meant room form c given text e =
    let w = line_taken room form c given text e in
    let t = w.taken in
    let f = taken_as c.fields in
    let l = t.accepts.fields in
    let ps = pairs_of given in
    let is = w.written ∙ spelled_line form c.place f ps in
    let legal : Legal f.id f.freq f.repeat f.offset ps =
    record {
      most_id = l.id_most;
      least_freq = l.freq_least;
      most_freq = l.freq_most;
      least_repeat = l.repeat_least;
      most_repeat = omega (arith, l.repeat_most);
      odd = l.offset_odd;
      most_offset = l.offset_most;
      inside = t.accepts.offset;
    } in
    let one : Spells (bytes "1") 1 = record { some = omega arith; few = omega arith; decimal = refl; value = refl } in
    rw (is, ← capped_again c.fields.repeat)
    (sendir_spelled (decimal_spells f.id (omega (arith, l.id_most))) (decimal_spells f.freq (omega (arith, l.freq_most)))
    (decimal_spells f.repeat (omega (arith, l.repeat_most))) (decimal_spells f.offset (omega (arith, l.offset_most))) legal
    (code_text form ps) one
    (decimal_spells c.place.port (omega (arith, t.place.most))) t.place.least t.place.most
    (means_accepted f.freq (code_text form ps) ps (code_means form t.accepts.code))
    (subst (λ (x : List ℕ). length x ≤ 4096) is (few room form c given text e)))

pub round_trip_meant : {before : List ℕ} {form : Form} {c : Command} {given after : List ℕ} {n : ℕ} → Wrote before form c given after (Ok n)
    → IsSendir (take n after) c.place.port (command c.fields.id c.fields.freq c.fields.repeat c.fields.offset) (pairs_of given)
round_trip_meant {before} {form} {c} {given} w =
    from_buffer
    (λ text. IsSendir text c.place.port (command c.fields.id c.fields.freq c.fields.repeat c.fields.offset) (pairs_of given))
    (line_meant (length before) form c given) w
