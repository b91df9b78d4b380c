-- Soundness is kept: a lamp is dark, gets another target, or moves on.
use Prim.Native.Nat.{ℕ, ◌+◌, ◌≤◌}
use mathlib.Core.Path.{◌≡◌, refl}
use mathlib.Core.Bool.{true, false, cond}
use native.Mathlib.Omega.{arith}
use borrow.Author.Tests.{ltb-false}
use lib.Dec.{ltb, eqb}
use Rattle.laws.proofs.Choice.{cond_case, not_both}
use Rattle.lamp.specs.declared.Lamp.{Lamp}
use Rattle.meaning.specs.Lamp.{exactly}
use Rattle.lamp.specs.Lamp.{SoundLamp, dark, level_of, apart, turned, passed}

pub dark_sound : SoundLamp dark
dark_sound = record { target_most = omega arith; ramp_most = omega arith; level_least = λ e. not_both {t = false} e refl; level_most = λ _. omega arith }

-- a level is from 0 to 100 percent
pub level_most : {x : Lamp} → SoundLamp x → level_of x ≤ exactly 100
unfolding level_of
level_most {x} s =
    cond_case (λ n. n ≤ exactly 100) x.rises _ _ (λ _. omega (arith, s.target_most)) (λ e. s.level_most e)

-- the gap to a goal below the level, or above it
gap_least : (level goal ramp : ℕ) → ltb level goal ≡ true → cond (eqb ramp 0) 0 (apart level goal) ≤ goal
unfolding apart
gap_least level goal ramp e = cond_case (λ n. n ≤ goal) (eqb ramp 0) _ _ (λ _. omega arith) (λ _. rw e (omega arith))

gap_most : (level goal ramp : ℕ) → level ≤ exactly 100 → goal ≤ exactly 100 → ltb level goal ≡ false
    → goal + cond (eqb ramp 0) 0 (apart level goal) ≤ exactly 100
unfolding apart
gap_most level goal ramp l g e =
    cond_case (λ n. goal + n ≤ exactly 100) (eqb ramp 0) _ _ (λ _. omega arith) (λ _. rw e (omega (arith, ltb-false level goal e)))

pub turned_sound : {x : Lamp} {target ramp : ℕ} → SoundLamp x → target ≤ 100 → ramp ≤ 10 → SoundLamp (turned x target ramp)
unfolding turned
turned_sound {x} {target} {ramp} s t r =
    record {
      target_most = t;
      ramp_most = r;
      level_least = λ e. gap_least (level_of x) (exactly target) ramp e;
      level_most = λ e. gap_most (level_of x) (exactly target) ramp (level_most s) (omega arith) e;
    }

pub passed_sound : {x : Lamp} (n : ℕ) → SoundLamp x → SoundLamp (passed x n)
unfolding passed
passed_sound {x} n s =
    record {
      target_most = s.target_most;
      ramp_most = s.ramp_most;
      level_least = λ e. omega (arith, s.level_least e);
      level_most = λ e. omega (arith, s.level_most e);
    }
