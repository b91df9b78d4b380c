-- What the times mean: the moment is the first, waits add up, and the copies finished are those whose end is reached.
use Prim.Native.Nat.{ℕ, ◌+◌, ◌-◌, ◌*◌, ◌≤◌, ◌<◌}
use mathlib.Core.Path.{◌≡◌}
use native.Mathlib.Nat.{add-mul, mul_assoc, mul-le-mul, div-lt_iff_lt-mul, le-div_iff_mul-le, lt-div-mul-add, mul-add-div_right}
use native.Mathlib.Omega.{arith}
use borrow.Author.Tests.{le-leb, lt-leb}
use Rattle.pace.specs.declared.Pace.{Pace}
use Rattle.pace.specs.declared.Passed.TheVariants.{Complete}
use Rattle.meaning.specs.Time.{in_ticks, first_micro}
use Rattle.pace.specs.Pace.{SoundPace, micros, end_of, finished, moved_to, passed}

-- ---- the moment of completion
module _ (left freq : ℕ) (f : 1 ≤ freq) where
  reached : left ≤ first_micro left freq * freq
  unfolding first_micro
  reached = omega (arith, lt-div-mul-add {a = left + (freq - 1)} {b = freq} f)

  least : (m : ℕ) → left ≤ m * freq → first_micro left freq ≤ m
  unfolding first_micro
  least m h =
      let k = (div-lt_iff_lt-mul {k = freq} {x = left + (freq - 1)} {y = m + 1} f).1 (omega (arith, add-mul m 1 freq)) in
      omega arith

  some : 1 ≤ left → 1 ≤ first_micro left freq
  unfolding first_micro
  some h = (le-div_iff_mul-le {k = freq} {x = 1} {y = left + (freq - 1)} f).1 (omega arith)

  -- by then so many ticks have passed, and at no earlier whole microsecond
  pub first_micro_law : (left ≤ first_micro left freq * freq) × ((m : ℕ) → left ≤ m * freq → first_micro left freq ≤ m)
  first_micro_law = (reached, least)

-- a wait that completes holds the moment, and a pace that is under way is not complete at once
pub moment_within : {p : Pace} {freq wait : ℕ} → SoundPace p → 1 ≤ freq → end_of p ≤ p.at.0 + wait * freq
    → (1 ≤ first_micro (end_of p - p.at.0) freq) × (first_micro (end_of p - p.at.0) freq ≤ wait)
moment_within s f h = (some _ _ f (omega (arith, s.under_way)), least _ _ f _ (omega arith))

-- ---- one wait after the other
module _ (p : Pace) (freq a b : ℕ) where
  sum_way : p.at.0 + a * freq + b * freq ≡ p.at.0 + (a + b) * freq
  sum_way = omega (arith, add-mul a b freq)

  -- two waits that do not reach the end are one
  pub wait_wait : p.at.0 + (a + b) * freq < end_of p
      → passed (moved_to p (p.at.0 + a * freq)) freq b ≡ passed p freq (a + b)
  unfolding passed end_of
  wait_wait h = rw (sum_way, lt-leb _ _ h)

-- after a wait that does not complete, the moment comes that much sooner
pub moment_wait : (p : Pace) (freq a : ℕ) → 1 ≤ freq → p.at.0 + a * freq < end_of p
    → first_micro (end_of p - p.at.0) freq ≡ a + first_micro (end_of p - (p.at.0 + a * freq)) freq
unfolding first_micro
moment_wait p freq a f h =
    let rest = end_of p - (p.at.0 + a * freq) + (freq - 1) in
    let e : end_of p - p.at.0 + (freq - 1) ≡ a * freq + rest = omega arith in
    rw e (mul-add-div_right f a rest)

-- so the second of two waits completes at the moment at which one of both does
pub wait_complete : (p : Pace) (freq a b : ℕ) → 1 ≤ freq → p.at.0 + a * freq < end_of p → end_of p ≤ p.at.0 + (a + b) * freq
    → let m = first_micro (end_of p - (p.at.0 + a * freq)) freq in
    (passed (moved_to p (p.at.0 + a * freq)) freq b ≡ Complete (micros m)) × (passed p freq (a + b) ≡ Complete (micros (a + m)))
unfolding passed end_of
wait_complete p freq a b f h k =
    (rw (sum_way p freq a b, le-leb _ _ k), rw (le-leb _ _ k, moment_wait p freq a f h))

-- ---- the copies finished
-- those whose end is reached, and no other: copy n of the record ends with the n-th time that the pairs from the offset on are done
pub finished_is : {p : Pace} → SoundPace p → (n : ℕ) → 1 ≤ n
    → (n ≤ finished p → in_ticks (p.lead.0 + n * p.tail.0) ≤ p.at.0)
    × (in_ticks (p.lead.0 + n * p.tail.0) ≤ p.at.0 → n ≤ finished p)
unfolding finished
finished_is {p} s n some =
    let by = le-div_iff_mul-le {k = in_ticks p.tail.0} {x = n} {y = p.at.0 - in_ticks p.lead.0} (omega (arith, s.tail_low)) in
    let low = mul-le-mul some s.tail_low in
    (λ h. let k = by.0 h in omega (arith, mul_assoc n p.tail.0 1000000), λ h. by.1 (omega (arith, mul_assoc n p.tail.0 1000000)))
