-- Laws of lists that are cut at an element: the parts, what stands behind each cut, and what a list begins with.
use Prim.Native.Nat.{ℕ, zero, suc, ◌-◌}
use mathlib.Core.Path.{◌≡◌, refl, ap, ◌∙◌}
use mathlib.Core.Bool.{Bool, true, false, cond}
use mathlib.Core.List.{List, [], ◌∷◌, ◌++◌}
use native.Mathlib.Omega.{arith}
use borrow.Author.Tests.{eqb-true, ne_eqb}
use lib.Dec.{eqb}
use lib.ListN.{length, drop, get_or}
use Rattle.laws.specs.Lists.{leading, all, onto, cut, part, behind}
use Rattle.laws.proofs.Choice.{by_test, not_both, and_left, and_right}

-- a list up to the first c, and from it on; how often c stands in it
abbrev pub up_to : ℕ → List ℕ → List ℕ
up_to c [] = []
up_to c (b ∷ s) = cond (eqb b c) [] (b ∷ up_to c s)

abbrev pub from : ℕ → List ℕ → List ℕ
from c [] = []
from c (b ∷ s) = cond (eqb b c) (b ∷ s) (from c s)

abbrev pub count : ℕ → List ℕ → ℕ
count c [] = 0
count c (b ∷ s) = cond (eqb b c) (suc (count c s)) (count c s)

module _ (c : ℕ) where
  pub split : (s : List ℕ) → s ≡ up_to c s ++ from c s
  split [] = refl
  split (b ∷ s) = by_test (eqb b c) (λ e. rw e) (λ e. rw (e, ← split s))

  -- no c follows, or one does and what is behind it
  pub data Ending (s : List ℕ) : Type 0 where
    ends : from c s ≡ [] → behind c 1 s ≡ [] → count c s ≡ 0 → Ending s
    goes : from c s ≡ c ∷ behind c 1 s → count c s ≡ suc (count c (behind c 1 s)) → Ending s

  pub ending : (s : List ℕ) → Ending s
  ending [] = ends refl refl refl
  ending (b ∷ s) =
      by_test (eqb b c) (λ e. goes (rw e (ap (λ (x : ℕ). x ∷ s) (eqb-true b c e))) (rw e)) (λ e. more e (ending s))
    where
      more : eqb b c ≡ false → Ending s → Ending (b ∷ s)
      more e (ends f g h) = ends (rw e f) (rw e g) (rw e h)
      more e (goes f h) = goes (rw e f) (rw e h)

  pub behind_next : (k : ℕ) (s : List ℕ) → behind c 1 (behind c k s) ≡ behind c (suc k) s
  behind_next zero s = refl
  behind_next (suc k) [] = refl
  behind_next (suc k) (b ∷ s) = by_test (eqb b c) (λ e. rw (e, behind_next k s)) (λ e. rw (e, behind_next (suc k) s))

  -- the k-th part is what stands up to the next c behind the k-th
  pub part_is : (k : ℕ) (s : List ℕ) → part c k s ≡ up_to c (behind c k s)
  part_is zero [] = refl
  part_is (suc k) [] = refl
  part_is zero (b ∷ s) = by_test (eqb b c) (λ e. rw e) (λ e. rw (e, ← part_is zero s) (first_onto (cut c s)))
    where
      first_onto : (parts : List (List ℕ)) → get_or (onto b parts) 0 [] ≡ b ∷ get_or parts 0 []
      first_onto [] = refl
      first_onto (x ∷ parts) = refl
  part_is (suc k) (b ∷ s) = by_test (eqb b c) (λ e. rw e (part_is k s)) (λ e. rw e (later_onto (cut c s) ∙ part_is (suc k) s))
    where
      later_onto : (parts : List (List ℕ)) → get_or (onto b parts) (suc k) [] ≡ get_or parts (suc k) []
      later_onto [] = refl
      later_onto (x ∷ parts) = refl

  -- there is one part more than there are cuts
  pub parts_are : (s : List ℕ) → length (cut c s) ≡ suc (count c s)
  parts_are [] = refl
  parts_are (b ∷ s) =
      by_test (eqb b c) (λ e. rw e (ap suc (parts_are s))) (λ e. rw e (same_length (cut c s) (parts_are s)))
    where
      same_length : (parts : List (List ℕ)) → length parts ≡ suc (count c s) → length (onto b parts) ≡ suc (count c s)
      same_length [] e = absurd (omega arith)
      same_length (x ∷ parts) e = e

  pub count_behind : (k : ℕ) (s : List ℕ) → count c (behind c k s) ≡ count c s - k
  count_behind zero s = omega arith
  count_behind (suc k) [] = omega arith
  count_behind (suc k) (b ∷ s) =
      by_test (eqb b c) (λ e. rw e (count_behind k s ∙ omega arith)) (λ e. rw e (count_behind (suc k) s))

-- ---- elements of which a test holds, and c, of which it does not
module _ (p : ℕ → Bool) (c : ℕ) (other : p c ≡ false) where
  passes_not : (b : ℕ) → p b ≡ true → eqb b c ≡ false
  passes_not b e = ne_eqb b c (λ same. not_both e (ap p same ∙ other))

  pub up_to_all : (l s : List ℕ) → all p l ≡ true → up_to c (l ++ s) ≡ l ++ up_to c s
  up_to_all [] s e = refl
  up_to_all (b ∷ l) s e = rw (passes_not b (and_left (p b) (all p l) e), up_to_all l s (and_right (p b) (all p l) e))

  pub behind_all : (l s : List ℕ) → all p l ≡ true → behind c 1 (l ++ s) ≡ behind c 1 s
  behind_all [] s e = refl
  behind_all (b ∷ l) s e = rw (passes_not b (and_left (p b) (all p l) e)) (behind_all l s (and_right (p b) (all p l) e))

  pub count_all : (l s : List ℕ) → all p l ≡ true → count c (l ++ s) ≡ count c s
  count_all [] s e = refl
  count_all (b ∷ l) s e = rw (passes_not b (and_left (p b) (all p l) e)) (count_all l s (and_right (p b) (all p l) e))

  -- what a list begins with is its whole first part exactly where the test holds of all of that
  abbrev pub ends_part : List ℕ → Bool
  ends_part [] = true
  ends_part (b ∷ s) = eqb b c

  pub whole_part : (s : List ℕ) → ends_part (drop (length (leading p s)) s) ≡ all p (up_to c s)
  whole_part [] = refl
  whole_part (b ∷ s) =
      by_test (p b)
      (λ e. rw (e, passes_not b e) (rw e (whole_part s)))
      (λ e. rw e (by_test (eqb b c) (λ f. rw f) (λ f. rw (f, e))))

  pub leading_part : (s : List ℕ) → all p (up_to c s) ≡ true → leading p s ≡ up_to c s
  leading_part [] e = refl
  leading_part (b ∷ s) e =
      by_test (p b)
      (λ f. rw (f, passes_not b f) (ap (λ (l : List ℕ). b ∷ l) (leading_part s (rw (passes_not b f, f) at e))))
      (λ f. rw f (by_test (eqb b c) (λ g. rw g) (λ g. not_both (rw (g, f) at e) refl)))

-- ---- what a list begins with
module _ (p : ℕ → Bool) where
  pub leading_passes : (s : List ℕ) → all p (leading p s) ≡ true
  leading_passes [] = refl
  leading_passes (b ∷ s) = by_test (p b) (λ e. rw (e, e) (leading_passes s)) (λ e. rw e)

  pub leading_split : (s : List ℕ) → s ≡ leading p s ++ drop (length (leading p s)) s
  leading_split [] = refl
  leading_split (b ∷ s) = by_test (p b) (λ e. rw e (ap (λ (l : List ℕ). b ∷ l) (leading_split s))) (λ e. rw e)

  pub leading_end : (s : List ℕ) {b : ℕ} {x : List ℕ} → drop (length (leading p s)) s ≡ b ∷ x → p b ≡ false
  leading_end [] e = absurd (omega (arith, ap length e))
  leading_end (a ∷ s) {b} {x} e =
      by_test (p a) (λ f. leading_end s (rw f at e))
      (λ f. rw (← rw f at (ap (λ (l : List ℕ). get_or l 0 0) e)) f)

  -- one element of which the test does not hold, among others
  pub all_broken : (l : List ℕ) (b : ℕ) (s : List ℕ) → p b ≡ false → all p (l ++ (b ∷ s)) ≡ false
  all_broken [] b s e = rw e
  all_broken (a ∷ l) b s e = by_test (p a) (λ f. rw f (all_broken l b s e)) (λ f. rw f)
