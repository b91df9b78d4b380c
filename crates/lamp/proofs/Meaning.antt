-- What the hub keeps of a lamp at a moment is what the meaning's lamp shows then: by the gap that is left of the way from its last target on.
use Prim.Native.Nat.{ℕ, ◌+◌, ◌-◌, ◌*◌, ◌≤◌}
use mathlib.Core.Path.{◌≡◌, refl, ap}
use mathlib.Core.Bool.{true, cond}
use native.Mathlib.Nat.{mul-add}
use native.Mathlib.Omega.{arith}
use borrow.Author.Tests.{ltb-true, ltb-false, eqb-true}
use lib.Dec.{ltb, eqb}
use Rattle.laws.proofs.Choice.{by_test}
use Rattle.meaning.specs.Lamp.{exactly, towards, exact_level, level}
use Rattle.meaning.specs.Lamp as meant
use Rattle.lamp.specs.declared.Lamp.{Lamp}
use Rattle.lamp.specs.Lamp.{lamp_of, dark, level_of, percent_of, apart, turned, passed}

-- the way that is left at a moment
abbrev pub left_of : meant.Lamp → ℕ → ℕ
left_of x t = cond (eqb x.ramp 0) 0 (apart x.from (exactly x.target) - x.ramp * (t - x.since))

-- the record of the meaning's lamp at a moment
unfoldable pub shown_at : meant.Lamp → ℕ → Lamp
shown_at x t = lamp_of (left_of x t) x.target x.ramp (ltb x.from (exactly x.target))

pub dark_shown : (t : ℕ) → shown_at meant.dark t ≡ dark
unfolding shown_at
dark_shown t = refl

-- on a way the level is the goal less, or more, what is left
gone : (from goal way : ℕ)
    → cond (ltb from goal) (goal - (apart from goal - way)) (goal + (apart from goal - way)) ≡ towards from goal way
unfolding apart towards
gone from goal way =
    by_test (ltb from goal)
    (λ e. rw e (by_test (ltb (from + way) goal) (λ f. rw f (omega (arith, ltb-true from goal e, ltb-true (from + way) goal f)))
    (λ f. rw f (omega (arith, ltb-true from goal e, ltb-false (from + way) goal f)))))
    (λ e. rw e (by_test (ltb (goal + way) from) (λ f. rw f (omega (arith, ltb-false from goal e, ltb-true (goal + way) from f)))
    (λ f. rw f (omega (arith, ltb-false from goal e, ltb-false (goal + way) from f)))))

pub level_shown : (x : meant.Lamp) (t : ℕ) → level_of (shown_at x t) ≡ exact_level x t
unfolding shown_at level_of exact_level
level_shown x t =
    by_test (eqb x.ramp 0)
    (λ e. rw e (by_test (ltb x.from (exactly x.target)) (λ f. rw f (omega arith)) (λ f. rw f (omega arith))))
    (λ e. rw e (gone x.from (exactly x.target) (x.ramp * (t - x.since))))

pub percent_shown : (x : meant.Lamp) (t : ℕ) → percent_of (shown_at x t) ≡ level x t
unfolding percent_of level
percent_shown x t = rw (level_shown x t)

-- at its start nothing of the way is gone, and later by each microsecond as much as the ramp is
at_start : (gap ramp t : ℕ) → gap - ramp * (t - t) ≡ gap
at_start gap ramp t =
    let none : t - t ≡ 0 = omega arith in
    rw none (omega arith)

going_on : (gap ramp since t n : ℕ) → since ≤ t
    → cond (eqb ramp 0) 0 (gap - ramp * (t - since)) - ramp * n ≡ cond (eqb ramp 0) 0 (gap - ramp * (t + n - since))
going_on gap ramp since t n h =
    let later : t + n - since ≡ t - since + n = omega arith in
    by_test (eqb ramp 0) (λ e. rw e (omega arith)) (λ e. rw (e, later) (omega (arith, mul-add ramp (t - since) n)))

-- one that is at its target stays as it is
pub at_rest : (x : Lamp) (n : ℕ) → eqb x.gap.0 0 ≡ true → passed x n ≡ x
unfolding passed
at_rest x n e =
    let none : x.gap.0 - x.ramp * n ≡ x.gap.0 = omega (arith, eqb-true x.gap.0 0 e) in
    ap (λ gap. lamp_of gap x.target x.ramp x.rises) none

-- "A new target starts from the exact level."
pub turned_shown : (x : meant.Lamp) (t target ramp : ℕ) → shown_at (meant.turned x target ramp t) t ≡ turned (shown_at x t) target ramp
unfolding shown_at turned meant.turned
turned_shown x t target ramp = rw (level_shown x t, at_start (apart (exact_level x t) (exactly target)) ramp t)

-- a wait of the record is one of the moment
pub passed_shown : (x : meant.Lamp) (t n : ℕ) → x.since ≤ t → passed (shown_at x t) n ≡ shown_at x (t + n)
unfolding shown_at passed
passed_shown x t n h = rw (going_on (apart x.from (exactly x.target)) x.ramp x.since t n h)
