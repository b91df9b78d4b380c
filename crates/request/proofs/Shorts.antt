-- An address of one digit, a colon and one digit is read at once.
use Prim.Native.Nat.{ℕ, ◌+◌, ◌-◌, ◌≤◌, ◌<◌}
use mathlib.Core.Path.{◌≡◌, refl, ap, ◌∙◌}
use mathlib.Core.List.{List, [], ◌∷◌}
use mathlib.Core.Bool.{Bool, true, false, cond, not}
use native.Mathlib.Omega.{arith}
use borrow.Author.Tests.{ltb-false, leb-true, leb-false, lt-leb, eqb-true}
use Rattle.std.specs.Prelude.{Some}
use lib.Dec.{ltb, leb, eqb}
use lib.ListN.{length, drop, get_or}
use Rattle.laws.proofs.Choice.{by_test, guard, not_both}
use Rattle.laws.proofs.Lists.{leading_more, leading_stop, leading_done}
use Rattle.words.specs.Digits.{is_digit, worth}
use Rattle.text.specs.declared.number.Number.TheVariants.{Value}
use Rattle.text.specs.Number.{run, number_of, number_at}
use Rattle.text.specs.Field.{ends_field}
use Rattle.request.specs.Place.{place_of}
use Rattle.request.specs.Address.{part_at, port_at, address_at, is_short}

-- a digit with no digit behind it is a number
one_digit : (s : List ℕ) (at : ℕ) → at < length s → is_digit (get_or s at 0) ≡ true → run (drop (at + 1) s) ≡ []
    → number_at s at ≡ Value (get_or s at 0 - 48) (at + 1)
unfolding number_at number_of
one_digit s at h d e =
    let r : run (drop at s) ≡ get_or s at 0 ∷ [] = leading_more is_digit s at h d ∙ ap (λ (l : List ℕ). get_or s at 0 ∷ l) e in
    let v : worth 0 (get_or s at 0 ∷ []) ≡ get_or s at 0 - 48 = omega arith in
    rw r (ap (λ (n : ℕ). Value n (at + 1)) v)

-- no digit stands where a field ends
field_stops : (s : List ℕ) (at : ℕ) → ends_field s at ≡ true → run (drop at s) ≡ []
unfolding ends_field
field_stops s at =
    by_test (leb (length s) at)
    (λ t e. leading_done is_digit s at (leb-true (length s) at t))
    (λ t e. leading_stop is_digit s at (leb-false (length s) at t) (rw (eqb-true (get_or s at 0) 44 (rw t at e))))

-- what is known of a short address
pub record Short (s : List ℕ) (at : ℕ) : Type 0 where
  pub room : at + 3 ≤ length s
  pub m : is_digit (get_or s at 0) ≡ true
  pub colon : eqb (get_or s (at + 1) 0) 58 ≡ true
  pub port : is_digit (get_or s (at + 2) 0) ≡ true
  pub end : ends_field s (at + 3) ≡ true

-- a check that was passed, and what comes behind it
passed : (t x : Bool) → cond (not t) false x ≡ true → (t ≡ true) × (x ≡ true)
passed true x e = (refl, e)
passed false x e = not_both e refl

-- the test finds all of it
pub short_is : (s : List ℕ) (at : ℕ) → is_short s at ≡ true → Short s at
unfolding is_short
short_is s at e =
    let room = guard (ltb (length s) (at + 3)) _ e in
    let m = passed (is_digit (get_or s at 0)) _ room.1 in
    let colon = passed (eqb (get_or s (at + 1) 0) 58) _ m.1 in
    let port = passed (is_digit (get_or s (at + 2) 0)) _ colon.1 in
    record { room = ltb-false (length s) (at + 3) room.0; m = m.0; colon = colon.0; port = port.0; end = port.1 }

-- its module and port are its digits
pub short_read : (s : List ℕ) (at : ℕ) → Short s at
    → address_at s at ≡ Some (place_of (get_or s at 0 - 48) (get_or s (at + 2) 0 - 48), at + 3)
unfolding address_at part_at port_at
short_read s at h =
    let room = h.room in
    let colon : get_or s (at + 1) 0 ≡ 58 = eqb-true _ _ h.colon in
    let m : number_at s at ≡ Value (get_or s at 0 - 48) (at + 1) =
    one_digit s at (omega arith) h.m (leading_stop is_digit s (at + 1) (omega arith) (rw colon)) in
    let two : (at + 1) + 1 ≡ at + 2 = omega arith in
    let three : (at + 2) + 1 ≡ at + 3 = omega arith in
    let port : number_at s (at + 2) ≡ Value (get_or s (at + 2) 0 - 48) (at + 3) =
    one_digit s (at + 2) (omega arith) h.port (rw three (field_stops s (at + 3) h.end)) ∙ rw three in
    rw (m, lt-leb (length s) (at + 1) (omega arith), h.colon, two, port, h.end)
