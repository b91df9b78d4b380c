use Rattle.hub.proofs.Waiting.{Waiting}
use Rattle.hub.proofs.wait.passed.Given as goal

abbrev pub invariant-loop-slot : goal.invariant-loop-slot
invariant-loop-slot l = Waiting l.initial.c-items l.n.0 l.c-items l.completions l.slot
