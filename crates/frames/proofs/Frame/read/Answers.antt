use mathlib.Core.Path.{sym, ◌∙◌}
use native.Mathlib.Omega.{arith}
use Rattle.frames.proofs.Reading.{runs_on}
use Rattle.frames.proofs.Frame.read.Goals as goal

pub loop-b-preserved : goal.loop-b-preserved
loop-b-preserved c = (runs_on c.loop-b.invariant.0 c.next-step.ensures c.loop-b-test.true (omega (arith, c.type_inv.s c.loop-b.b-index)) (sym c.goes_on.ensures ∙ c.if-not-goes_on.false), omega arith)
