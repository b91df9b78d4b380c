-- One lamp as time passes: each sentence of request 3 of document 02 on levels is one theorem.
use Prim.Native.Nat.{ℕ, suc, ◌+◌, ◌-◌, ◌*◌, ◌≤◌, ◌<◌}
use mathlib.Core.Path.{◌≡◌, refl, sym, ap, ◌∙◌}
use mathlib.Core.Bool.{cond}
use native.Mathlib.Nat.{mul-add, mul-zero, sub_self, mul-le-mul}
use native.Mathlib.Omega.{arith}
use borrow.Author.Tests.{ltb-true, ltb-false, leb-true, leb-false, le-ltb, eq-eqb, ne_eqb, eqb-true, eqb-false}
use lib.Dec.{ltb, leb, eqb}
use Rattle.laws.proofs.Choice.{by_test, cond_case}
use Rattle.meaning.specs.Lamp.{Lamp, exactly, towards, exact_level, level, turned}
use Rattle.theorems.specs.Lamps.{Moved, LampWithin}

-- "the level shown is the exact one rounded down"
pub level_rounded_down : (x : Lamp) (t : ℕ) → (exactly (level x t) ≤ exact_level x t) × (exact_level x t < exactly (suc (level x t)))
unfolding level
level_rounded_down x t = (omega arith, omega arith)

-- ---- towards a goal
moved_up : {from goal way to : ℕ} → from ≤ goal → (from + way ≤ goal → to ≡ from + way) → (goal ≤ from + way → to ≡ goal) → Moved from goal way to
moved_up l up top = record { rises = up; falls = λ h. omega (arith, up (omega arith)); risen = λ _ h. top h; fallen = λ g h. top (omega arith) }

moved_down : {from goal way to : ℕ} → goal ≤ from → (goal + way ≤ from → to + way ≡ from) → (from ≤ goal + way → to ≡ goal) → Moved from goal way to
moved_down l down low = record { rises = λ h. omega (arith, down (omega arith)); falls = down; risen = λ g h. low (omega arith); fallen = λ _ h. low h }

-- there is one such level
pub moved_alone : {from goal way a b : ℕ} → Moved from goal way a → Moved from goal way b → a ≡ b
moved_alone {from} {goal} {way} {a} {b} x y =
    by_test (leb from goal)
    (λ e.
    let l = leb-true from goal e in
    by_test (leb (from + way) goal)
    (λ f. let m = leb-true (from + way) goal f in x.rises m ∙ sym (y.rises m))
    (λ f. let m = leb-false (from + way) goal f in x.risen l (omega arith) ∙ sym (y.risen l (omega arith))))
    (λ e.
    let l = leb-false from goal e in
    by_test (leb (goal + way) from)
    (λ f. let m = leb-true (goal + way) from f in omega (arith, x.falls m, y.falls m))
    (λ f. let m = leb-false (goal + way) from f in x.fallen (omega arith) (omega arith) ∙ sym (y.fallen (omega arith) (omega arith))))

-- and `towards` is it
pub towards_moves : (from goal way : ℕ) → Moved from goal way (towards from goal way)
unfolding towards
towards_moves from goal way =
    by_test (ltb from goal)
    (λ a.
    let l = ltb-true from goal a in
    rw a
    (moved_up (omega arith)
    (λ h. cond_case (λ (to : ℕ). to ≡ from + way) (ltb (from + way) goal) _ _ (λ _. refl) (λ b. omega (arith, ltb-false (from + way) goal b)))
    (λ h. rw (le-ltb (from + way) goal h))))
    (λ a.
    let l = ltb-false from goal a in
    rw a
    (moved_down l
    (λ h. cond_case (λ (to : ℕ). to + way ≡ from) (ltb (goal + way) from) _ _ (λ _. omega arith) (λ b. omega (arith, ltb-false (goal + way) from b)))
    (λ h. rw (le-ltb (goal + way) from h))))

-- some way and then some more way is their sum
pub moved_on : (from goal way more : ℕ) → Moved (towards from goal way) goal more (towards from goal (way + more))
moved_on from goal way more =
    let a = towards_moves from goal way in
    let b = towards_moves from goal (way + more) in
    by_test (ltb from goal)
    (λ e.
    let l = ltb-true from goal e in
    by_test (ltb (from + way) goal)
    (λ f.
    let m = ltb-true (from + way) goal f in
    let is = a.rises (omega arith) in
    moved_up (omega arith) (λ h. omega (arith, b.rises (omega arith))) (λ h. b.risen (omega arith) (omega arith)))
    (λ f.
    let m = ltb-false (from + way) goal f in
    let is = a.risen (omega arith) m in
    let be = b.risen (omega arith) (omega arith) in
    moved_up (omega arith) (λ h. omega arith) (λ h. be)))
    (λ e.
    let l = ltb-false from goal e in
    by_test (ltb (goal + way) from)
    (λ f.
    let m = ltb-true (goal + way) from f in
    let is = a.falls (omega arith) in
    moved_down (omega arith) (λ h. omega (arith, b.falls (omega arith))) (λ h. b.fallen (omega arith) (omega arith)))
    (λ f.
    let m = ltb-false (goal + way) from f in
    let is = a.fallen l m in
    let be = b.fallen l (omega arith) in
    moved_down (omega arith) (λ h. omega arith) (λ h. be)))

-- it stays between where it began and its goal
towards_most : (from goal way most : ℕ) → from ≤ most → goal ≤ most → towards from goal way ≤ most
unfolding towards
towards_most from goal way most f g =
    cond_case (λ (to : ℕ). to ≤ most) (ltb from goal) _ _
    (λ _. cond_case (λ (to : ℕ). to ≤ most) (ltb (from + way) goal) _ _ (λ b. omega (arith, ltb-true (from + way) goal b)) (λ _. g))
    (λ _. cond_case (λ (to : ℕ). to ≤ most) (ltb (goal + way) from) _ _ (λ _. omega arith) (λ _. g))

-- ---- a lamp
ramped : (x : Lamp) (t : ℕ) → 1 ≤ x.ramp → exact_level x t ≡ towards x.from (exactly x.target) (x.ramp * (t - x.since))
unfolding exact_level
ramped x t r = rw (ne_eqb x.ramp 0 (λ e. omega arith))

-- "Ramp 0 is instant."
pub instant : (x : Lamp) (t : ℕ) → x.ramp ≡ 0 → exact_level x t ≡ exactly x.target
unfolding exact_level
instant x t e = rw (eq-eqb x.ramp 0 e)

module _ (x : Lamp) (t : ℕ) (begun : x.since ≤ t) where
  -- "Ramp r moves r percent in each 100,000 µs, exactly and without steps, and stops at the target": so over any n µs it moves r × n
  -- hundred-thousandths of a percent
  pub moves_exactly : (n : ℕ) → 1 ≤ x.ramp → Moved (exact_level x t) (exactly x.target) (x.ramp * n) (exact_level x (t + n))
  moves_exactly n r =
      let way : x.ramp * (t + n - x.since) ≡ x.ramp * (t - x.since) + x.ramp * n =
      ap (λ (k : ℕ). x.ramp * k) (omega arith) ∙ mul-add x.ramp (t - x.since) n in
      rw (ramped x t r, ramped x (t + n) r, way) (moved_on x.from (exactly x.target) (x.ramp * (t - x.since)) (x.ramp * n))

  -- the same as an equation, whatever the ramp: who keeps the exact level and moves it on keeps what the log says
  pub exact_moves : (n : ℕ) → exact_level x (t + n) ≡ towards (exact_level x t) (exactly x.target) (x.ramp * n)
  exact_moves n =
      by_test (eqb x.ramp 0)
      (λ z.
      let e = eqb-true x.ramp 0 z in
      rw (instant x (t + n) e, instant x t e)
      (sym ((towards_moves (exactly x.target) (exactly x.target) (x.ramp * n)).risen (omega arith) (omega arith))))
      (λ z.
      let d = eqb-false x.ramp 0 z in
      moved_alone (moves_exactly n (omega arith)) (towards_moves (exact_level x t) (exactly x.target) (x.ramp * n)))

  -- the same in the percents that are shown: exactly r more, or r less, after 100,000 µs
  pub percents_risen : 1 ≤ x.ramp → exact_level x t + exactly x.ramp ≤ exactly x.target → level x (t + 100000) ≡ level x t + x.ramp
  unfolding level
  percents_risen r h = omega (arith, (moves_exactly 100000 r).rises h)

  pub percents_fallen : 1 ≤ x.ramp → exactly x.target + exactly x.ramp ≤ exact_level x t → level x (t + 100000) + x.ramp ≡ level x t
  unfolding level
  percents_fallen r h = omega (arith, (moves_exactly 100000 r).falls h)

  -- "and stops at the target"
  pub stops_at_target : (n : ℕ) → exact_level x t ≡ exactly x.target → exact_level x (t + n) ≡ exactly x.target
  stops_at_target n e =
      by_test (eqb x.ramp 0)
      (λ z. instant x (t + n) (eqb-true x.ramp 0 z))
      (λ z. (moves_exactly n (let d = eqb-false x.ramp 0 z in omega arith)).risen (omega arith) (omega arith))

-- what is shown there is the target
pub target_shown : (x : Lamp) (t : ℕ) → exact_level x t ≡ exactly x.target → level x t ≡ x.target
unfolding level
target_shown x t e = omega arith

-- "A new target starts from the exact level."
pub from_exact_level : (x : Lamp) (target ramp t : ℕ) → 1 ≤ ramp → exact_level (turned x target ramp t) t ≡ exact_level x t
unfolding turned
from_exact_level x target ramp t r =
    let none : ramp * (t - t) ≡ 0 = ap (λ (k : ℕ). ramp * k) (sub_self t) ∙ mul-zero ramp in
    ramped (turned x target ramp t) t r ∙ rw none (still (exact_level x t) (exactly target))
  where
    still : (from goal : ℕ) → towards from goal 0 ≡ from
    still from goal =
        let m = towards_moves from goal 0 in
        by_test (ltb from goal)
        (λ e. omega (arith, ltb-true from goal e, m.rises (omega (arith, ltb-true from goal e))))
        (λ e. omega (arith, m.falls (omega (arith, ltb-false from goal e))))

-- and with ramp 0 it is there
pub turned_exact : (x : Lamp) (target ramp t : ℕ) → exact_level (turned x target ramp t) t ≡ cond (eqb ramp 0) (exactly target) (exact_level x t)
unfolding turned
turned_exact x target ramp t =
    by_test (eqb ramp 0)
    (λ z. rw z (instant (turned x target ramp t) t (eqb-true ramp 0 z)))
    (λ z. rw z (let d = eqb-false ramp 0 z in from_exact_level x target ramp t (omega arith)))

-- ---- a lamp within the limits
module _ {x : Lamp} {t : ℕ} (w : LampWithin x t) where
  -- no level is above 100 percent
  pub exact_most : (u : ℕ) → exact_level x u ≤ exactly 100
  unfolding exact_level
  exact_most u =
      cond_case (λ (e : ℕ). e ≤ exactly 100) (eqb x.ramp 0) _ _
      (λ _. omega (arith, w.target_most))
      (λ _. towards_most x.from (exactly x.target) (x.ramp * (u - x.since)) (exactly 100) w.from_most (omega (arith, w.target_most)))

  pub level_most : (u : ℕ) → level x u ≤ 100
  unfolding level
  level_most u = omega (arith, exact_most u)

  -- the slowest ramp over the whole scale takes 10 seconds, and no lamp longer
  pub reached_in_10_seconds : (n : ℕ) → 10000000 ≤ n → exact_level x (x.since + n) ≡ exactly x.target
  reached_in_10_seconds n h =
      by_test (eqb x.ramp 0)
      (λ z. instant x (x.since + n) (eqb-true x.ramp 0 z))
      (λ z.
      let r : 1 ≤ x.ramp = let d = eqb-false x.ramp 0 z in omega arith in
      let far : 10000000 ≤ x.ramp * n = omega (arith, mul-le-mul {n₁ = 1} {m₁ = 10000000} r h) in
      let way : x.ramp * (x.since + n - x.since) ≡ x.ramp * n = ap (λ (k : ℕ). x.ramp * k) (omega arith) in
      let m = towards_moves x.from (exactly x.target) (x.ramp * n) in
      ramped x (x.since + n) r ∙ rw way
      (by_test (ltb x.from (exactly x.target))
      (λ e. m.risen (omega (arith, ltb-true x.from (exactly x.target) e)) (omega (arith, w.target_most)))
      (λ e. m.fallen (ltb-false x.from (exactly x.target) e) (omega (arith, w.from_most)))))
