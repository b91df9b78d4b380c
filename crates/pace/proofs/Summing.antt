-- The loop that sums what counts last, and what that is of pairs.
use Prim.Native.Nat.{ℕ, ◌+◌, ◌-◌, ◌*◌, ◌≤◌, ◌<◌}
use mathlib.Core.Path.{◌≡◌, refl, ap, ◌∙◌}
use mathlib.Core.List.{List, [], ◌∷◌}
use native.Mathlib.Omega.{arith}
use lib.ListN.{length, take, drop, get_or}
use Rattle.laws.specs.Lists.{numbers}
use Rattle.laws.proofs.Numbers.{numbers_next, numbers_none}
use Rattle.words.specs.declared.Pair.{Pair}
use Rattle.words.specs.Pairs.{counts_of, counts_in}
use Rattle.words.proofs.Pairs.{counts_between}
use Rattle.meaning.specs.Time.{lasts}
use Rattle.pace.specs.Pace.{periods_of}

-- the sum, with what is left of the counts, is what they all last
pub record Summing (counts : List ℕ) (start end sum i : ℕ) : Type 0 where
  pub low : start ≤ i
  pub high : i ≤ end
  pub rest : sum + lasts (numbers counts i (end - i)) ≡ lasts (numbers counts start (end - start))
  pub small : sum ≤ (i - start) * 65535

pub summing_start : (counts : List ℕ) (start end : ℕ) → start ≤ end → Summing counts start end 0 start
summing_start counts start end h = record { low = omega arith; high = h; rest = omega arith; small = omega arith }

module _ {counts : List ℕ} {start end sum i : ℕ} (s : Summing counts start end sum i) where
  pub summing_more : i < end → {x : ℕ} → x ≡ get_or counts i 0 → x ≤ 65535 → Summing counts start end (sum + x) (i + 1)
  summing_more h e k =
      record {
        low = omega arith;
        high = omega arith;
        rest = omega (arith, ap lasts (numbers_next counts i end h), s.rest);
        small = omega (arith, s.small, s.low);
      }

  pub summing_end : end ≤ i → sum ≡ lasts (numbers counts start (end - start))
  summing_end h = omega (arith, ap lasts (numbers_none counts i end h), s.rest)

-- ---- what the counts of pairs last
pub lasts_counts : (ps : List Pair) → lasts (counts_of ps) ≡ periods_of ps
lasts_counts [] = refl
lasts_counts (p ∷ ps) = omega (arith, lasts_counts ps)

-- the pairs from one to before another, of those whose counts stand in memory
pub periods_between : (memory : List ℕ) (ps : List Pair) (from to : ℕ) → from ≤ to → to ≤ length ps → counts_in memory (length ps) ≡ counts_of ps
    → lasts (numbers memory (2 * from) (2 * (to - from))) ≡ periods_of (drop from (take to ps))
periods_between memory ps from to h k e = ap lasts (counts_between memory ps from to h k e) ∙ lasts_counts (drop from (take to ps))
