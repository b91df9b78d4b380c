-- What the library's look-up in a list says, in the words of a table of numbers.
use Prim.Native.Nat.{ℕ}
use mathlib.Core.Path.{◌≡◌, refl}
use mathlib.Core.List.{List, [], ◌∷◌}
use native.Mathlib.Omega.{arith}
use Rattle.std.specs.Prelude.{nat_eq}
use Rattle.std.specs.List.{list_any}
use Rattle.std.proofs.lemmas.Bool.Decides.{nat_tests}
use lib.Dec.{eqb}
use Rattle.laws.specs.Checks.{one_of}

eqb_swap : (x n : ℕ) → eqb x n ≡ eqb n x
eqb_swap x n = grind (arith, nat_tests)

-- whether a list has a number
pub has : (l : List ℕ) (n : ℕ) → list_any (λ y. nat_eq y n) l ≡ one_of l n
has [] n = refl
has (x ∷ l) n = rw (has l n, eqb_swap x n)
