-- A lamp as the hub keeps it: by the gap to its target. Document 02, request 3: "Ramp r moves r percent in each 100,000 µs, exactly and without
-- steps, and stops at the target".
use Rattle.std.specs.Prelude.{ℕ, ◌+◌, ◌-◌, ◌*◌, ◌/◌, ◌≤◌, ◌≡◌, Bool, true, false, cond, ltb, eqb}
use Rattle.meaning.specs.Lamp.{exactly}
use Rattle.lamp.specs.declared.Points.{Points}
use Rattle.lamp.specs.declared.Lamp.{Lamp}

abbrev pub points : ℕ → Points
points n = record { 0 = n }

abbrev pub lamp_of : ℕ → ℕ → ℕ → Bool → Lamp
lamp_of gap target ramp rises = record { gap = points gap; target = target; ramp = ramp; rises = rises }

-- "A connector entering this mode is at 0 with target 0."
abbrev pub dark : Lamp
dark = lamp_of 0 0 0 false

-- the exact level: so far below the target, or above it
unfoldable pub level_of : Lamp → ℕ
level_of x = cond x.rises (exactly x.target - x.gap.0) (exactly x.target + x.gap.0)

-- "the level shown is the exact one rounded down"
unfoldable pub percent_of : Lamp → ℕ
percent_of x = level_of x / 100000

unfoldable pub apart : ℕ → ℕ → ℕ
apart a b = cond (ltb a b) (b - a) (a - b)

-- "A new target starts from the exact level." "Ramp 0 is instant."
unfoldable pub turned : Lamp → ℕ → ℕ → Lamp
turned x target ramp =
    let goal = exactly target in
    lamp_of (cond (eqb ramp 0) 0 (apart (level_of x) goal)) target ramp (ltb (level_of x) goal)

-- some microseconds later
unfoldable pub passed : Lamp → ℕ → Lamp
passed x n = lamp_of (x.gap.0 - x.ramp * n) x.target x.ramp x.rises

-- what every lamp of a hub has: its level is from 0 to 100 percent
pub record SoundLamp (x : Lamp) : Type 0 where
  pub target_most : x.target ≤ 100
  pub ramp_most : x.ramp ≤ 10
  pub level_least : x.rises ≡ true → x.gap.0 ≤ exactly x.target
  pub level_most : x.rises ≡ false → exactly x.target + x.gap.0 ≤ exactly 100
