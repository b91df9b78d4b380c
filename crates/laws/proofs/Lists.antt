-- Laws of lists that the library lacks.
use Prim.Native.Nat.{ℕ, zero, suc, ◌+◌, ◌≤◌, ◌<◌}
use mathlib.Core.Path.{◌≡◌, refl, sym, ap, ◌∙◌}
use mathlib.Core.List.{List, [], ◌∷◌, ◌++◌}
use mathlib.Core.Bool.{Bool, true, false}
use native.Mathlib.Nat.{add-zero, add-suc, suc-add}
use native.Mathlib.Numerals.{add-one}
use native.Mathlib.Omega.{arith}
use borrow.Author.Tests.{eq-eqb, eqb-true}
use lib.Dec.{eqb}
use lib.ListN.{length, take, drop, get_or, set, length-drop, drop_of_length-le}
use lib.Seq.{drop-cons, drop-drop, drop-append_seam, get_or-drop, get_or-take, length-take-le, sets}
use Rattle.laws.specs.Lists.{leading, all, same}
use Rattle.laws.proofs.Choice.{cond_case, not_both, and_left, and_right, and_true}

-- one step of a scan: the element at i, and what is behind it
pub drop_next : {A : Type 0} (s : List A) (i : ℕ) (d : A) → i < length s → drop i s ≡ get_or s i d ∷ drop (i + 1) s
drop_next s i d h = rw (add-one, drop-cons s i d)

-- the same within the first n
pub drop_take_next : {A : Type 0} (s : List A) (n i : ℕ) (d : A) → n ≤ length s → i < n
    → drop i (take n s) ≡ get_or s i d ∷ drop (i + 1) (take n s)
drop_take_next s n i d hn h =
    let k : i < length (take n s) = rw (length-take-le n s hn) h in
    rw (drop_next (take n s) i d k, get_or-take n s i d h)

pub drop_take_end : {A : Type 0} (s : List A) (n i : ℕ) → n ≤ length s → n ≤ i → drop i (take n s) ≡ []
drop_take_end s n i hn h =
    let k : length (take n s) ≤ i = rw (length-take-le n s hn) h in
    drop_of_length-le (take n s) k

-- ---- what a list begins with
module _ (p : ℕ → Bool) where
  pub leading_more : (s : List ℕ) (i : ℕ) → i < length s → p (get_or s i 0) ≡ true
      → leading p (drop i s) ≡ get_or s i 0 ∷ leading p (drop (i + 1) s)
  leading_more s i h e = rw (drop_next s i 0 h, e)

  pub leading_stop : (s : List ℕ) (i : ℕ) → i < length s → p (get_or s i 0) ≡ false → leading p (drop i s) ≡ []
  leading_stop s i h e = rw (drop_next s i 0 h, e)

  pub leading_done : (s : List ℕ) (i : ℕ) → length s ≤ i → leading p (drop i s) ≡ []
  leading_done s i h = ap (leading p) (drop_of_length-le s h)

  pub leading_length : (l : List ℕ) → length (leading p l) ≤ length l
  leading_length [] = omega arith
  leading_length (b ∷ l) =
      cond_case (λ (x : List ℕ). length x ≤ suc (length l)) (p b) (b ∷ leading p l) []
      (λ e. omega (arith, leading_length l)) (λ e. omega arith)

  pub leading_all : (l rest : List ℕ) → all p l ≡ true → leading p (l ++ rest) ≡ l ++ leading p rest
  leading_all [] rest e = refl
  leading_all (b ∷ l) rest e =
      rw (and_left (p b) (all p l) e, leading_all l rest (and_right (p b) (all p l) e))

-- ---- a test of every element
pub all_append : {A : Type 0} (p : A → Bool) (l m : List A) → all p l ≡ true → all p m ≡ true → all p (l ++ m) ≡ true
all_append p [] m e f = f
all_append p (b ∷ l) m e f =
    and_true (p b) (all p (l ++ m)) (and_left (p b) (all p l) e) (all_append p l m (and_right (p b) (all p l) e) f)

pub all_at : {A : Type 0} (p : A → Bool) (l : List A) (i : ℕ) (d : A) → all p l ≡ true → i < length l → p (get_or l i d) ≡ true
all_at p [] i d e h = absurd (omega arith)
all_at p (b ∷ l) zero d e h = and_left (p b) (all p l) e
all_at p (b ∷ l) (suc i) d e h = all_at p l i d (and_right (p b) (all p l) e) (omega arith)

-- the loop that tests every element
module _ {A : Type 0} (p : A → Bool) (s : List A) (i : ℕ) (d : A) where
  pub all_more : i < length s → p (get_or s i d) ≡ true → all p (drop i s) ≡ all p (drop (i + 1) s)
  all_more h e = rw (drop_next s i d h, e)

  pub all_stop : i < length s → p (get_or s i d) ≡ false → all p (drop i s) ≡ false
  all_stop h e = rw (drop_next s i d h, e)

  pub all_done : length s ≤ i → all p (drop i s) ≡ true
  all_done h = ap (all p) (drop_of_length-le s h)

-- a test that another implies
pub all_weaker : {A : Type 0} (p q : A → Bool) → ((b : A) → p b ≡ true → q b ≡ true) → (l : List A) → all p l ≡ true → all q l ≡ true
all_weaker p q f [] e = refl
all_weaker p q f (b ∷ l) e =
    and_true (q b) (all q l) (f b (and_left (p b) (all p l) e)) (all_weaker p q f l (and_right (p b) (all p l) e))

-- two tests that agree
pub all_alike : {A : Type 0} (p q : A → Bool) → ((b : A) → p b ≡ q b) → (l : List A) → all p l ≡ all q l
all_alike p q f [] = refl
all_alike p q f (b ∷ l) = rw (f b, all_alike p q f l)

-- ---- lists that are the same numbers
pub same_is : (w l : List ℕ) → same w l ≡ true → w ≡ l
same_is [] [] e = refl
same_is [] (b ∷ l) e = not_both e refl
same_is (a ∷ w) [] e = not_both e refl
same_is (a ∷ w) (b ∷ l) e =
    rw (eqb-true b a (and_left (eqb b a) (same w l) e), same_is w l (and_right (eqb b a) (same w l) e))

pub same_self : (a : List ℕ) → same a a ≡ true
same_self [] = refl
same_self (a ∷ w) = and_true (eqb a a) (same w w) (eq-eqb a a refl) (same_self w)

pub none_is : {A : Type 0} (l : List A) → length l ≡ 0 → l ≡ []
none_is [] e = refl
none_is (b ∷ l) e = absurd (omega arith)

-- ---- stores one after the other
pub sets_append : {A : Type 0} (vs ws l : List A) (i : ℕ) → sets l i (vs ++ ws) ≡ sets (sets l i vs) (i + length vs) ws
sets_append [] ws l i = rw add-zero
sets_append (a ∷ vs) ws l i = sets_append vs ws (set l i a) (suc i) ∙ rw (suc-add, add-suc)

-- ---- what stands at a place of a list
module _ {A : Type 0} (s : List A) (at : ℕ) where
  pub stands_at : (b : A) (rest : List A) (d : A) → drop at s ≡ b ∷ rest → get_or s at d ≡ b
  stands_at b rest d e =
      ap (λ (i : ℕ). get_or s i d) (sym (add-zero at)) ∙ sym (get_or-drop at s 0 d) ∙ ap (λ (l : List A). get_or l 0 d) e

  pub stands_below : (b : A) (rest : List A) → drop at s ≡ b ∷ rest → at < length s
  stands_below b rest e = omega (arith, sym (length-drop at s) ∙ ap length e)

  pub stands_end : drop at s ≡ [] → length s ≤ at
  stands_end e = omega (arith, sym (length-drop at s) ∙ ap length e)

  pub stands_behind : (xs rest : List A) → drop at s ≡ xs ++ rest → drop (at + length xs) s ≡ rest
  stands_behind xs rest e = sym (drop-drop (length xs) at s) ∙ ap (drop (length xs)) e ∙ drop-append_seam xs rest
