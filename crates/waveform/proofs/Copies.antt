-- The copies written out: what they last, and where each begins in the pairs.
use Prim.Native.Nat.{ℕ, zero, suc, ◌+◌, ◌-◌, ◌*◌, ◌/◌, ◌%◌, ◌≤◌}
use mathlib.Core.Path.{◌≡◌, sym, ap, ◌∙◌}
use mathlib.Core.List.{List, [], ◌∷◌, ◌++◌}
use native.Mathlib.Nat.{mul_assoc}
use native.Mathlib.Omega.{arith}
use lib.ListN.{take, drop}
use Rattle.words.specs.declared.Pair.{Pair}
use Rattle.words.specs.declared.Fields.{Fields}
use Rattle.words.specs.Pairs.{counts_of}
use Rattle.meaning.specs.Time.{in_ticks, further_copy, waveform, lasts}
use Rattle.words.proofs.Pairs.{counts_drop}
use Rattle.pace.specs.Pace.{periods_of}
use Rattle.pace.proofs.Summing.{lasts_counts}
use Rattle.pace.proofs.Lasting.{periods_split}
use Rattle.laws.specs.Lists.{times}

lasts_append : (a b : List ℕ) → lasts (a ++ b) ≡ lasts a + lasts b
lasts_append [] b = omega arith
lasts_append (x ∷ a) b = omega (arith, lasts_append a b)

lasts_times : (n : ℕ) (l : List ℕ) → lasts (times n l) ≡ n * lasts l
lasts_times zero l = omega arith
lasts_times (suc n) l = omega (arith, lasts_append l (times n l), lasts_times n l)

pub first_lasts : (k : ℕ) (ps : List Pair) → lasts (counts_of ps) ≡ periods_of (take k ps) + periods_of (drop k ps)
first_lasts k ps = lasts_counts ps ∙ sym (periods_split k ps)

module _ (f : Fields) (ps : List Pair) (odd : f.offset % 2 ≡ 1) where
  -- a further copy is the pairs from the offset on
  pub further_is : further_copy f ps ≡ counts_of (drop (f.offset / 2) ps)
  further_is =
      let e : f.offset - 1 ≡ 2 * (f.offset / 2) = omega arith in
      ap (λ (n : ℕ). drop n (counts_of ps)) e ∙ counts_drop (f.offset / 2) ps

  -- "The first copy is all pairs; each further copy runs from the on count at the offset."
  pub copies_are : (n : ℕ) → waveform f ps (suc n) ≡ counts_of ps ++ times n (counts_of (drop (f.offset / 2) ps))
  copies_are n = ap (λ (l : List ℕ). counts_of ps ++ times n l) further_is

  pub further_lasts : lasts (further_copy f ps) ≡ periods_of (drop (f.offset / 2) ps)
  further_lasts = ap lasts further_is ∙ lasts_counts (drop (f.offset / 2) ps)

  lasts_waveform : (n : ℕ) → 1 ≤ n
      → lasts (waveform f ps n) ≡ periods_of (take (f.offset / 2) ps) + n * periods_of (drop (f.offset / 2) ps)
  lasts_waveform zero h = absurd (omega arith)
  lasts_waveform (suc n) h =
      let e = ap (λ (k : ℕ). n * k) further_lasts in
      omega (
        arith,
        lasts_append (counts_of ps) (times n (further_copy f ps)),
        lasts_times n (further_copy f ps),
        first_lasts (f.offset / 2) ps,
      )

  -- what so many copies last: the pairs before the offset, and in each copy those from it on
  pub waveform_ticks : (n : ℕ) → 1 ≤ n
      → in_ticks (lasts (waveform f ps n))
      ≡ in_ticks (periods_of (take (f.offset / 2) ps)) + n * in_ticks (periods_of (drop (f.offset / 2) ps))
  waveform_ticks n h = omega (arith, lasts_waveform n h, mul_assoc n (periods_of (drop (f.offset / 2) ps)) 1000000)
