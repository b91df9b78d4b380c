use Rattle.output.proofs.Laying.{Laying}
use Rattle.output.proofs.put_completions.Given as goal

abbrev pub invariant-loop-i : goal.invariant-loop-i
invariant-loop-i l = Laying l.initial.out l.at l.items l.count l.out l.o l.i
