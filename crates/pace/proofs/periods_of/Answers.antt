use Prim.Native.Nat.{◌*◌, ◌-◌}
use mathlib.Core.Path.{◌≡◌, ap}
use native.Mathlib.Omega.{arith}
use Rattle.pace.specs.Pace.{periods}
use Rattle.pace.proofs.Summing.{summing_start, summing_more, summing_end}
use borrow.Author.Rules.{rules}
use Rattle.pace.proofs.periods_of.Goals as goal

pub loop-i-init : goal.loop-i-init
loop-i-init c = summing_start _ _ _ (omega (arith, c.requires.0))

pub overflow_add-sum : goal.overflow_add-sum
overflow_add-sum c =
    let s = c.loop-i.invariant.small in
    let n = c.wide-sum.ensures.small in
    search rules

pub loop-i-preserved : goal.loop-i-preserved
loop-i-preserved c = summing_more c.loop-i.invariant c.loop-i-test.true c.wide-sum.ensures.result c.wide-sum.ensures.small

pub returns : goal.returns
returns c =
    let all : 2 * c.args.to - 2 * c.args.from ≡ 2 * (c.args.to - c.args.from) = omega arith in
    ap periods (rw all at (summing_end c.loop-i.invariant c.loop-i-test.false))
