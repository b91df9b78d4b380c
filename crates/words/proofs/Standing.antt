-- Pairs that stand in memory as counts, on and off in turn.
use Prim.Native.Nat.{ℕ, zero, suc, ◌*◌, ◌≤◌}
use mathlib.Core.Path.{◌≡◌, refl, ap}
use mathlib.Core.List.{List, [], ◌∷◌}
use native.Mathlib.Omega.{arith}
use lib.ListN.{length, take}
use Rattle.laws.specs.Lists.{numbers}
use Rattle.laws.proofs.Numbers.{numbers_part}
use Rattle.words.specs.declared.Pair.{Pair}
use Rattle.words.specs.Pairs.{counts_of, pairs_of, counts_in}

-- pairs are found again in their counts
pub pairs_back : (ps : List Pair) → pairs_of (counts_of ps) ≡ ps
pairs_back [] = refl
pairs_back (p ∷ ps) = rw (pairs_back ps)

-- the first counts, where memory has so many
pub counts_first : (n : ℕ) (memory : List ℕ) → 2 * n ≤ length memory → counts_in memory n ≡ take (2 * n) memory
unfolding counts_in
counts_first n memory h = numbers_part memory 0 (2 * n) (omega arith)

twice : (n : ℕ) → 2 * suc n ≡ suc (suc (2 * n))
twice n = omega arith

pairs_from : (n : ℕ) (memory : List ℕ) (at : ℕ)
    → (length (pairs_of (numbers memory at (2 * n))) ≡ n) × (counts_of (pairs_of (numbers memory at (2 * n))) ≡ numbers memory at (2 * n))
pairs_from zero memory at = (refl, refl)
pairs_from (suc n) memory at =
    let rest = pairs_from n memory (suc (suc at)) in
    (rw (twice n) (ap suc rest.0), rw (twice n, rest.1))

module _ (n : ℕ) (memory : List ℕ) where
  -- as many pairs as are asked for
  pub pairs_many : length (pairs_of (counts_in memory n)) ≡ n
  unfolding counts_in
  pairs_many = (pairs_from n memory 0).0

  -- whose counts are what stands there
  pub pairs_counts : counts_of (pairs_of (counts_in memory n)) ≡ counts_in memory n
  unfolding counts_in
  pairs_counts = (pairs_from n memory 0).1
