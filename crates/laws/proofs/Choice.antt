-- Laws of choice by a Bool.
use Prim.Native.Nat.{ℕ, ◌≤◌}
use mathlib.Core.Path.{◌≡◌, refl, sym}
use mathlib.Core.Bool.{Bool, true, false, cond, ◌&&◌}
use native.Mathlib.Omega.{arith}
use borrow.Author.Tests.{ltb-true, ltb-false, leb-true, le-leb, lt-leb}
use lib.Dec.{ltb, leb}
use Rattle.laws.specs.Checks.{between}

-- what holds of both answers, each where its test says so, holds of the choice
pub cond_case : {A : Type 0} (P : A → Type 0) (t : Bool) (a b : A) → (t ≡ true → P a) → (t ≡ false → P b) → P (cond t a b)
cond_case P true a b f g = f refl
cond_case P false a b f g = g refl

-- by cases on a test that stays in sight
pub by_test : {A : Type 0} (t : Bool) → (t ≡ true → A) → (t ≡ false → A) → A
by_test true f g = f refl
by_test false f g = g refl

-- from two constructors that are told to be the same
pub clash : {A : Type 0} → ◌≡◌ {A = ℕ} 0 1 → A
clash e = absurd (omega arith)

pub not_both : {A : Type 0} {t : Bool} → t ≡ true → t ≡ false → A
not_both e f = clash (cc)

-- a check that did not refuse, and those behind it
pub guard : (t x : Bool) → cond t false x ≡ true → (t ≡ false) × (x ≡ true)
guard true x e = not_both e refl
guard false x e = (refl, e)

pub and_left : (a b : Bool) → a && b ≡ true → a ≡ true
and_left true b e = refl
and_left false b e = not_both e refl

pub and_right : (a b : Bool) → a && b ≡ true → b ≡ true
and_right true b e = e
and_right false b e = not_both e refl

pub and_false : (a : Bool) → a && false ≡ false
and_false true = refl
and_false false = refl

pub and_true : (a b : Bool) → a ≡ true → b ≡ true → a && b ≡ true
and_true a b e f = rw (e, f)

-- two tests that imply each other
pub same_test : (a b : Bool) → (a ≡ true → b ≡ true) → (b ≡ true → a ≡ true) → a ≡ b
same_test true b f g = sym (f refl)
same_test false b f g = by_test b (λ e. not_both (g e) refl) (λ e. sym e)

-- a function of a choice is the choice of its values
pub cond_map : {A B : Type 0} (f : A → B) (t : Bool) (a b : A) → f (cond t a b) ≡ cond t (f a) (f b)
cond_map f true a b = refl
cond_map f false a b = refl

-- ---- a range
module _ (least most n : ℕ) where
  pub between_true : least ≤ n → n ≤ most → between least most n ≡ true
  between_true l m = and_true (leb least n) (leb n most) (le-leb least n l) (le-leb n most m)

  pub between_least : between least most n ≡ true → least ≤ n
  between_least e = leb-true least n (and_left (leb least n) (leb n most) e)

  pub between_most : between least most n ≡ true → n ≤ most
  between_most e = leb-true n most (and_right (leb least n) (leb n most) e)

  -- tested end by end
  pub between_is : cond (ltb n least) false (leb n most) ≡ between least most n
  between_is =
      by_test (ltb n least)
      (λ e. rw (e, lt-leb least n (ltb-true n least e)))
      (λ e. rw (e, le-leb least n (ltb-false n least e)))

  pub between_checks : {A : Type 0} (bad good : A) → cond (ltb n least) bad (cond (ltb most n) bad good) ≡ cond (between least most n) good bad
  between_checks bad good =
      by_test (ltb n least)
      (λ e. rw (e, lt-leb least n (ltb-true n least e)))
      (λ e. rw (e, le-leb least n (ltb-false n least e))
      (by_test (ltb most n)
      (λ f. rw (f, lt-leb n most (ltb-true most n f)))
      (λ f. rw (f, le-leb n most (ltb-false most n f)))))
