-- An order of checks, as document 01 writes one: a list of tests, each with its answer, of which the first that holds
-- is taken, and the answer where none does.
use Rattle.std.specs.Prelude.{ℕ, ◌≡◌, Bool, true, false, cond, ◌&&◌, ◌||◌, List, [], ◌∷◌, leb, eqb}
use Rattle.std.proofs.Math.Option.{Option, none, some}

pub record Check (A : Type 0) : Type 0 where
  pub test : Bool
  pub gives : A

infixr 40 ◌⇒◌
abbrev pub ◌⇒◌ : {A : Type 0} → Bool → A → Check A
test ⇒ answer = record { test = test; gives = answer }

abbrev pub first : {A : Type 0} → List (Check A) → A → A
first [] other = other
first (k ∷ ks) other = cond k.test k.gives (first ks other)

-- the first check that holds gives this answer, and those before it do not hold; or none holds, and it is the other
pub data FirstThat {A : Type 0} : List (Check A) → A → A → Type 0 where
  holding : {k : Check A} {ks : List (Check A)} {other : A} → k.test ≡ true → FirstThat (k ∷ ks) other k.gives
  failing : {k : Check A} {ks : List (Check A)} {other a : A} → k.test ≡ false → FirstThat ks other a → FirstThat (k ∷ ks) other a
  otherwise : {other : A} → FirstThat [] other other

-- ---- tests

abbrev pub between : ℕ → ℕ → ℕ → Bool
between least most n = leb least n && leb n most

-- whether there is something of which a test holds
abbrev pub holds : {A : Type 0} → (A → Bool) → Option A → Bool
holds test none = false
holds test (some x) = test x

abbrev pub is_some : {A : Type 0} → Option A → Bool
is_some o = holds (λ x. true) o

-- whether a number is one of a list
abbrev pub one_of : List ℕ → ℕ → Bool
one_of [] n = false
one_of (x ∷ l) n = eqb n x || one_of l n
