-- Soundness is kept: by a start, a renewal and a wait that does not reach the end.
use Prim.Native.Nat.{ℕ, ◌+◌, ◌*◌, ◌≤◌, ◌<◌}
use native.Mathlib.Nat.{mul-le-mul, mul-le-mul_right}
use native.Mathlib.Omega.{arith}
use Rattle.pace.specs.declared.Pace.{Pace}
use Rattle.pace.specs.Pace.{SoundPace, periods, started, end_of, renewed, moved_to}
use Rattle.pace.proofs.Bounds.{unfinished_below}

pub started_sound : (lead tail repeat : ℕ) → lead ≤ 26000000 → 1 ≤ tail → tail ≤ 26000000 → 1 ≤ repeat → repeat ≤ 20
    → SoundPace (started (periods lead) (periods tail) repeat)
unfolding end_of
started_sound lead tail repeat l t₁ t₂ r₁ r₂ =
    let h : 1 * 1 ≤ repeat * tail = mul-le-mul r₁ t₁ in
    record { lead_high = l; tail_low = t₁; tail_high = t₂; copies_high = omega arith; under_way = omega arith }

pub renewed_sound : {p : Pace} {repeat : ℕ} → SoundPace p → 1 ≤ repeat → repeat ≤ 20 → SoundPace (renewed p repeat)
unfolding end_of renewed
renewed_sound {p} {repeat} s r₁ r₂ =
    record {
      lead_high = s.lead_high;
      tail_low = s.tail_low;
      tail_high = s.tail_high;
      copies_high = omega arith;
      under_way = omega (arith, unfinished_below s, mul-le-mul_right {m = 1} {n = repeat} p.tail.0 r₁);
    }

pub moved_sound : {p : Pace} (freq wait : ℕ) → SoundPace p → p.at.0 + wait * freq < end_of p
    → SoundPace (moved_to p (p.at.0 + wait * freq))
unfolding end_of
moved_sound freq wait s h =
    record {
      lead_high = s.lead_high;
      tail_low = s.tail_low;
      tail_high = s.tail_high;
      copies_high = s.copies_high;
      under_way = h;
    }
