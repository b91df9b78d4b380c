use mathlib.Core.Path.{◌≡◌}
use Rattle.frames.proofs.Reading.{Runs}
use Rattle.frames.proofs.Frame.read.Given as goal

abbrev pub invariant-loop-b : goal.invariant-loop-b
invariant-loop-b l = Runs l.initial.frame l.s l.frame l.b-index × (l.used ≡ l.b-index)
