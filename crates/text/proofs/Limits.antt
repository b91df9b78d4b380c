-- A field that is read within limits.
use Prim.Native.Nat.{ℕ, ◌≤◌}
use mathlib.Core.Path.{◌≡◌}
use mathlib.Core.List.{List}
use mathlib.Core.Bool.{not}
use borrow.Author.Tests.{ltb-false}
use lib.Dec.{ltb}
use Rattle.laws.proofs.Choice.{cond_case}
use Rattle.text.specs.declared.number.Number.{Number}
use Rattle.text.specs.declared.number.Number.TheVariants.{Missing, TooLong, Value}
use Rattle.std.proofs.Common.{Option, Some, None}
use Rattle.text.specs.Number.{number_at}
use Rattle.text.specs.Field as field
use Rattle.text.specs.Field.{ends_field, field_within}

-- what holds of a bad field, and of each value within the limits, holds of a field that is read
pub field_case : (P : Option (ℕ × ℕ) → Type 0) (least most : ℕ) (s : List ℕ) (at : ℕ) → P None
    → ((v end : ℕ) → least ≤ v → v ≤ most → P (Some (v, end))) → P (field_within least most s at)
unfolding field_within
field_case P least most s at bad good = go (number_at s at)
  where
    go : (n : Number) → P (field.within least most s n)
    go Missing = bad
    go (TooLong end) = bad
    go (Value v end) =
        cond_case P (not (ends_field s end)) None _ (λ _. bad) λ _.
        cond_case P (ltb v least) None _ (λ _. bad) λ l.
        cond_case P (ltb most v) None _ (λ _. bad) λ m.
        good v end (ltb-false v least l) (ltb-false most v m)

-- what a good field has at most
abbrev AtMost : ℕ → Option (ℕ × ℕ) → Type 0
AtMost most None = Unit
AtMost most (Some (v, end)) = v ≤ most

pub good_most : (least most : ℕ) (s : List ℕ) (at : ℕ) {v end : ℕ} → field_within least most s at ≡ Some (v, end) → v ≤ most
good_most least most s at e = rw e at (field_case (AtMost most) least most s at tt λ v end _ h. h)
