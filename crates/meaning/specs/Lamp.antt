-- Dimmable lamps (document 02, request 3): how bright a lamp is at a moment, counted from its last target. Nothing is rounded and carried on.
use Rattle.std.specs.Prelude.{ℕ, ◌+◌, ◌-◌, ◌*◌, ◌/◌, cond, ltb, eqb}

-- a level is exact in hundred-thousandths of a percent: "Ramp r moves r percent in each 100,000 µs, exactly and without steps", so r of them in
-- each microsecond
abbrev pub exactly : ℕ → ℕ
exactly percent = percent * 100000

-- a lamp since its last target: its exact level then, the target and the ramp, and the moment
pub record Lamp : Type 0 where
  pub from : ℕ
  pub target : ℕ
  pub ramp : ℕ
  pub since : ℕ

-- "A connector entering this mode is at 0 with target 0."
abbrev pub dark : Lamp
dark = record { from = 0; target = 0; ramp = 0; since = 0 }

-- from a level some way up or down towards a goal, "and stops at the target"
unfoldable pub towards : ℕ → ℕ → ℕ → ℕ
towards from goal way =
    cond (ltb from goal) (cond (ltb (from + way) goal) (from + way) goal) (cond (ltb (goal + way) from) (from - way) goal)

-- the exact level at a moment: "Ramp 0 is instant."
unfoldable pub exact_level : Lamp → ℕ → ℕ
exact_level x t =
    cond (eqb x.ramp 0) (exactly x.target) (towards x.from (exactly x.target) (x.ramp * (t - x.since)))

-- "the level shown is the exact one rounded down"
unfoldable pub level : Lamp → ℕ → ℕ
level x t = exact_level x t / 100000

-- "A new target starts from the exact level."
unfoldable pub turned : Lamp → ℕ → ℕ → ℕ → Lamp
turned x target ramp t = record { from = exact_level x t; target = target; ramp = ramp; since = t }
