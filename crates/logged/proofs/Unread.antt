-- A contact that was not read is never heard as a number.
use Prim.Native.Nat.{ℕ}
use mathlib.Core.Path.{◌≡◌, refl}
use mathlib.Core.Bool.{true, not}
use mathlib.Core.List.{List, [], ◌∷◌, ◌++◌}
use borrow.Author.Tests.{eq-eqb, not-true}
use lib.Dec.{eqb}
use Rattle.laws.specs.Lists.{all}
use Rattle.laws.proofs.Choice.{not_both, and_left, and_right, and_true}
use Rattle.meaning.specs.Table.{Call, reading}
use Rattle.request.specs.Place.{place_of}
use Rattle.lines.specs.Cut.{Line}
use Rattle.logged.specs.Filed.{states_of, Readings, over, told, other, is_reading_of, Filed}

module _ (p : ℕ) where
  abbrev Without : List Call → Type 0
  Without calls = all (λ call. not (is_reading_of p call)) calls ≡ true

  -- calls among which a reading of p stands
  reading_among : {A : Type 0} (later earlier : List Call) (v : ℕ) → Without (later ++ (reading p v ∷ earlier)) → A
  reading_among [] earlier v e = not_both (eq-eqb p p refl) (not-true (eqb p p) (and_left (not (eqb p p)) _ e))
  reading_among (call ∷ later) earlier v e = reading_among later earlier v (and_right (not (is_reading_of p call)) _ e)

  none_told : {connection : ℕ} {h calls : List Call} {vs : List ℕ} → Readings connection p h calls vs → Without h → Without calls → vs ≡ []
  none_told over a b = refl
  none_told (told room s v asks e last rest) a b = reading_among last.later last.earlier v (rw last.splits at a)
  none_told {h = h} (other {calls = calls} call rest) a b =
      none_told rest
      (and_true (not (is_reading_of p call)) _ (and_left (not (is_reading_of p call)) _ b) a)
      (and_right (not (is_reading_of p call)) (all (λ x. not (is_reading_of p x)) calls) b)

  pub never_read_never_heard : {calls : List Call} {connection : ℕ} {texts : List (List ℕ)} {lines : List Line}
      (f : Filed [] calls connection texts lines) → all (λ call. not (is_reading_of p call)) calls ≡ true → states_of (place_of 1 p) f.heard ≡ []
  never_read_never_heard f unread = none_told (f.contacts p) refl unread
