-- Laws of an order of checks, and of what there is or is not.
use Prim.Native.Nat.{ℕ}
use mathlib.Core.Path.{◌≡◌, refl}
use mathlib.Core.Bool.{Bool, true, false, ◌&&◌}
use mathlib.Core.List.{List, [], ◌∷◌}
use mathlib.Core.Option.{Option, none, some}
use lib.Dec.{eqb}
use borrow.Author.Tests.{eqb-true}
use Rattle.laws.specs.Checks.{Check, first, FirstThat, holding, failing, otherwise, is_some, one_of}
use Rattle.laws.specs.Lists.{all}
use Rattle.laws.proofs.Choice.{by_test, cond_case, not_both, and_left, and_right, and_true}

-- P of each answer where its test holds and none before it does, and of the other where none holds
abbrev pub Through : {A : Type 0} → (A → Type 0) → List (Check A) → A → Type 0
Through P [] other = P other
Through P (k ∷ ks) other = (k.test ≡ true → P k.gives) × (k.test ≡ false → Through P ks other)

pub through : {A : Type 0} (P : A → Type 0) (ks : List (Check A)) (other : A) → Through P ks other → P (first ks other)
through P [] other h = h
through P (k ∷ ks) other h = cond_case P k.test k.gives (first ks other) h.0 (λ e. through P ks other (h.1 e))

-- past a check of whose answer it holds anyway
pub past : {A B C D : Type 0} → B → (C → D) → (A → B) × (C → D)
past b rest = (λ _. b, rest)

-- a test of every answer
module _ {A : Type 0} (test : A → Bool) where
  pub first_all : (ks : List (Check A)) (other : A) → all (λ k. test k.gives) ks && test other ≡ true → test (first ks other) ≡ true
  first_all [] other e = e
  first_all (k ∷ ks) other e =
      let a = and_left (test k.gives && all (λ j. test j.gives) ks) (test other) e in
      let b = and_right (test k.gives && all (λ j. test j.gives) ks) (test other) e in
      cond_case (λ (x : A). test x ≡ true) k.test k.gives (first ks other)
      (λ _. and_left (test k.gives) _ a)
      (λ _. first_all ks other (and_true (all (λ j. test j.gives) ks) (test other) (and_right (test k.gives) _ a) b))

-- ---- what there is or is not
pub none_of : {A : Type 0} (o : Option A) → is_some o ≡ false → o ≡ none
none_of none e = refl
none_of (some x) e = not_both refl e

pub some_of : {A : Type 0} (o : Option A) → is_some o ≡ true → (x : A) × (o ≡ some x)
some_of none e = not_both e refl
some_of (some x) e = (x, refl)

-- what is taken is the answer of the first check that holds, and nothing else is
pub first_that : {A : Type 0} (ks : List (Check A)) (other : A) → FirstThat ks other (first ks other)
first_that [] other = otherwise
first_that (k ∷ ks) other =
    cond_case (FirstThat (k ∷ ks) other) k.test k.gives (first ks other) (λ e. holding e) (λ e. failing e (first_that ks other))

pub that_first : {A : Type 0} {ks : List (Check A)} {other a : A} → FirstThat ks other a → first ks other ≡ a
that_first (holding e) = rw e
that_first (failing e t) = rw e (that_first t)
that_first otherwise = refl

-- ---- one of a list
pub one_of_all : (test : ℕ → Bool) (l : List ℕ) (n : ℕ) → all test l ≡ true → one_of l n ≡ true → test n ≡ true
one_of_all test [] n e o = not_both o refl
one_of_all test (x ∷ l) n e o =
    by_test (eqb n x)
    (λ f. rw (eqb-true n x f) (and_left (test x) (all test l) e))
    (λ f. one_of_all test l n (and_right (test x) (all test l) e) (rw f at o))
