-- Bounds of a sound pace, and the part of its way that the finished copies take.
use Prim.Native.Nat.{ℕ, ◌+◌, ◌-◌, ◌*◌, ◌%◌, ◌≤◌, ◌<◌}
use mathlib.Core.Path.{◌≡◌}
use native.Mathlib.Nat.{mul-le-mul, mod-le, div-mul-le_self, zero-div, lt-div-mul-add}
use native.Mathlib.Omega.{arith}
use Rattle.pace.specs.declared.Pace.{Pace}
use Rattle.meaning.specs.Time.{in_ticks}
use Rattle.pace.specs.Pace.{SoundPace, end_of, finished}

pub copies_high : {p : Pace} → SoundPace p → p.copies * p.tail.0 ≤ 520000000
copies_high s = mul-le-mul s.copies_high s.tail_high

pub end_high : {p : Pace} → SoundPace p → end_of p ≤ 546000000000000
unfolding end_of
end_high s = omega (arith, copies_high s)

pub wait_high : {freq wait : ℕ} → freq ≤ 500000 → wait ≤ 1000000000 → wait * freq ≤ 500000000000000
wait_high f w = mul-le-mul w f

pub within_high : {p : Pace} → SoundPace p → (p.at.0 - in_ticks p.lead.0) % in_ticks p.tail.0 ≤ 546000000000000
within_high {p} s =
    omega (arith, end_high s, s.under_way, mod-le (p.at.0 - in_ticks p.lead.0) (in_ticks p.tail.0))

-- up to the offset no copy is finished
pub finished_none : (p : Pace) → p.at.0 ≤ in_ticks p.lead.0 → finished p ≡ 0
unfolding finished
finished_none p h =
    let e : p.at.0 - in_ticks p.lead.0 ≡ 0 = omega arith in
    rw (e, zero-div)

-- the finished copies lie behind the offset
pub finished_within : (p : Pace) → finished p * in_ticks p.tail.0 ≤ p.at.0 - in_ticks p.lead.0
unfolding finished
finished_within p = div-mul-le_self (p.at.0 - in_ticks p.lead.0) (in_ticks p.tail.0)

-- and the rest of the way within the pairs
pub unfinished_below : {p : Pace} → SoundPace p
    → p.at.0 < finished p * in_ticks p.tail.0 + in_ticks (p.lead.0 + p.tail.0)
unfolding finished
unfinished_below {p} s =
    let h = lt-div-mul-add {a = p.at.0 - in_ticks p.lead.0} {b = in_ticks p.tail.0} (omega (arith, s.tail_low)) in
    omega arith
