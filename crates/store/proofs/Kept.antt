-- What is kept is found again; lists that are alike are the same.
use mathlib.Core.Path.{◌≡◌, refl, sym, ap, ◌∙◌}
use mathlib.Core.Bool.{true}
use mathlib.Core.List.{List, [], ◌∷◌, ◌++◌}
use Prim.Native.Nat.{ℕ, ◌-◌, ◌*◌, ◌≤◌}
use native.Mathlib.Nat.{zero-add}
use native.Mathlib.Omega.{arith}
use lib.ListN.{length, take, drop}
use lib.Seq.{length-sets, length-take-le, take_all}
use lib.Dec.{eqb}
use lib.Pointwise.{pointwise}
use borrow.Author.Tests.{eq-eqb, eqb-true}
use Rattle.laws.specs.Put.{over, stored_in}
use Rattle.laws.proofs.Choice.{by_test, not_both}
use Rattle.laws.proofs.Storing.{stores_stored}
use Rattle.words.specs.declared.Pair.{Pair}
use Rattle.words.specs.Pairs.{counts_of, counts_in}
use Rattle.words.proofs.Pairs.{counts_stored}
use Rattle.words.proofs.Standing.{counts_first}
use Rattle.store.specs.Store.{alike}

-- ---- alike is equality
pub alike_refl : (xs : List ℕ) → alike xs xs ≡ true
alike_refl [] = refl
alike_refl (x ∷ xs) = rw (eq-eqb x x refl) (alike_refl xs)

pub alike_same : (xs ys : List ℕ) → alike xs ys ≡ true → xs ≡ ys
alike_same [] [] e = refl
alike_same [] (y ∷ ys) e = cc
alike_same (x ∷ xs) [] e = cc
alike_same (x ∷ xs) (y ∷ ys) e =
    by_test (eqb x y)
    (λ f. rw (eqb-true x y f, alike_same xs ys (rw f at e)))
    (λ f. not_both (rw f at e) refl)

-- and so is equality element by element
pub alike_is : (xs ys : List ℕ) → pointwise eqb xs ys ≡ alike xs ys
alike_is [] [] = refl
alike_is [] (y ∷ ys) = refl
alike_is (x ∷ xs) [] = refl
alike_is (x ∷ xs) (y ∷ ys) = by_test (eqb x y) (λ f. rw f (alike_is xs ys)) (λ f. rw f)

-- ---- the first n pairs laid over what is kept
pub kept_first : (kept counts : List ℕ) (n : ℕ) → 2 * n ≤ length kept → 2 * n ≤ length counts
    → take (2 * n) counts ++ drop (2 * n) kept ≡ stored_in kept 0 (counts_in counts n)
unfolding over
kept_first kept counts n h k =
    let size = length-take-le (2 * n) counts k in
    rw (counts_first n counts k, take_all (length kept - 0) (take (2 * n) counts) (omega arith), size, zero-add)

-- ---- what a connector keeps of a command's pairs
module _ (kept : List ℕ) (ps : List Pair) (size : length kept ≡ 520) (few : length ps ≤ 260) where
  pub kept_size : length (stored_in kept 0 (counts_of ps)) ≡ 520
  kept_size = ap length (sym (stores_stored kept 0 (counts_of ps))) ∙ length-sets kept 0 (counts_of ps) ∙ size

  pub kept_found : counts_in (stored_in kept 0 (counts_of ps)) (length ps) ≡ counts_of ps
  kept_found = counts_stored kept ps (omega arith)
