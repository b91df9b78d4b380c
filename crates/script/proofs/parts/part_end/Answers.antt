use mathlib.Core.Path.{refl}
use native.Mathlib.Omega.{arith}
use Rattle.script.proofs.Parting.{up_to_more, up_to_stop, up_to_done}
use Rattle.script.proofs.parts.part_end.Goals as goal

pub loop-i-init : goal.loop-i-init
loop-i-init c = (c.requires, refl)

pub returns-then-s-i : goal.returns-then-s-i
returns-then-s-i c =
    omega (arith, c.loop-i.invariant.1, up_to_stop c.args.c c.args.s.now c.loop-i.i c.loop-i-test.true c.if-s-i.true)

pub loop-i-preserved : goal.loop-i-preserved
loop-i-preserved c =
    (omega arith, omega (arith, c.loop-i.invariant.1, up_to_more c.args.c c.args.s.now c.loop-i.i c.loop-i-test.true c.if-s-i.false))

pub returns : goal.returns
returns c =
    omega (arith, c.loop-i.invariant.1, up_to_done c.args.c c.args.s.now c.loop-i.i c.loop-i-test.false)
