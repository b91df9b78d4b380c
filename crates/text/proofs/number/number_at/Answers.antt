use Prim.Native.Nat.{ℕ, ◌+◌, ◌-◌, ◌<◌}
use mathlib.Core.Path.{◌≡◌, sym, ap, ◌∙◌}
use mathlib.Core.List.{List, []}
use native.Mathlib.Omega.{arith}
use lib.ListN.{length, drop, get_or, length-drop}
use lib.Seq.{get_or-drop}
use Rattle.laws.proofs.Lists.{leading_stop, leading_done}
use Rattle.words.specs.Digits.{is_digit}
use Rattle.text.specs.Number.{run}
use Rattle.text.proofs.Reading.{reading_more, reading_stop, reading_small, digit_range}
use Rattle.text.proofs.number.number_at.Goals as goal
use Rattle.text.proofs.number.number_at.Goals.{else-loop-b-test, then-loop-b-test+then-not-is_digit}

-- the byte in hand, where it stands
stands : (s : List ℕ) (at n i : ℕ) {r : List ℕ} → r ≡ drop at s → n ≡ i → get_or r i 0 ≡ get_or s (at + n) 0
stands s at n i e h = rw (e, h) (get_or-drop at s i 0)

pub grown-value-requires : goal.grown-value-requires
grown-value-requires c =
    let d = digit_range _ (sym c.is_digit.ensures ∙ c.if-not-is_digit.false) in
    (reading_small c.loop-b.invariant.1, d.0, d.1)

pub loop-b-preserved : goal.loop-b-preserved
loop-b-preserved c =
    let byte = stands c.args.s.now c.args.at _ _ c.onward-b-items.ensures c.loop-b.invariant.0 in
    let inside : c.args.at + c.loop-b.digits < length c.args.s.now =
    omega (arith, ap length c.onward-b-items.ensures, length-drop c.args.at c.args.s.now) in
    let next : c.args.at + (c.loop-b.digits + 1) ≡ c.args.at + c.loop-b.digits + 1 = omega arith in
    (omega arith, rw next (reading_more c.loop-b.invariant.1 inside (rw byte at (sym c.is_digit.ensures ∙ c.if-not-is_digit.false)) (rw byte at c.grown-value.ensures)))

pub returns : goal.returns
returns c = c.found.ensures ∙ sym (reading_stop c.loop-b.invariant.1 stop)
  where
    long : length c.onward-b-items.result.now ≡ length c.args.s.now - c.args.at
    long = ap length c.onward-b-items.ensures ∙ length-drop c.args.at c.args.s.now

    stop : run (drop (c.args.at + c.loop-b.digits) c.args.s.now) ≡ []
    stop = elim c.loop-b-test.branch [
      | else-loop-b-test w ↦ leading_done is_digit c.args.s.now (c.args.at + c.loop-b.digits) (omega (arith, long))
      | then-loop-b-test+then-not-is_digit w ↦
          let byte = stands c.args.s.now c.args.at _ _ c.onward-b-items.ensures c.loop-b.invariant.0 in
          leading_stop is_digit c.args.s.now (c.args.at + c.loop-b.digits) (omega (arith, long)) (rw byte at (sym w.is_digit.ensures ∙ w.if-not-is_digit.true))
    ]
