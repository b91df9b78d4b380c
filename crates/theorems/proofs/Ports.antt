-- Laws of what each of some numbers gives, one after the other.
use Prim.Native.Nat.{ℕ, zero, suc, ◌+◌, ◌≤◌, ◌<◌}
use mathlib.Core.Path.{◌≡◌, refl, ap, ap₂, ◌∙◌}
use mathlib.Core.Bool.{Bool, true}
use mathlib.Core.List.{List, [], ◌∷◌, ◌++◌, append-nil}
use native.Mathlib.Omega.{arith}
use borrow.Author.Tests.{eqb-true, eqb-false}
use lib.Dec.{eqb}
use Rattle.laws.specs.Lists.{all, up_from, gathered}
use Rattle.laws.proofs.Choice.{by_test}
use Rattle.laws.proofs.Lists.{all_append}

module _ {A : Type 0} (f : ℕ → List A) where
  -- a test that holds of all that each gives holds of the whole
  pub all_gathered : (test : A → Bool) → ((x : ℕ) → all test (f x) ≡ true) → (l : List ℕ) → all test (gathered f l) ≡ true
  all_gathered test h [] = refl
  all_gathered test h (x ∷ l) = all_append test (f x) (gathered f l) (h x) (all_gathered test h l)

  -- where none gives anything there is nothing
  pub gathered_none : (from n : ℕ) → ((x : ℕ) → from ≤ x → x < from + n → f x ≡ []) → gathered f (up_from from n) ≡ []
  gathered_none from zero h = refl
  gathered_none from (suc n) h =
      ap₂ (λ (a b : List A). a ++ b) (h from (omega arith) (omega arith))
      (gathered_none (suc from) n (λ x l m. h x (omega arith) (omega arith)))

  -- where one alone gives anything, it is that
  pub gathered_alone : (p from n : ℕ) → from ≤ p → p < from + n
      → ((x : ℕ) → from ≤ x → x < from + n → (x ≡ p → ⊥) → f x ≡ []) → gathered f (up_from from n) ≡ f p
  gathered_alone p from zero l m h = absurd (omega arith)
  gathered_alone p from (suc n) l m h =
      by_test (eqb from p)
      (λ e.
      let is = eqb-true from p e in
      ap₂ (λ (a b : List A). a ++ b) (ap f is)
      (gathered_none (suc from) n (λ x a b. h x (omega arith) (omega arith) (λ q. omega arith)))
      ∙ append-nil (f p))
      (λ e.
      let differs = eqb-false from p e in
      ap (λ (a : List A). a ++ gathered f (up_from (suc from) n)) (h from (omega arith) (omega arith) differs)
      ∙ gathered_alone p (suc from) n (omega arith) (omega arith) (λ x a b d. h x (omega arith) (omega arith) d))
