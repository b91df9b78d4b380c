use Rattle.script.proofs.Figures.{Figured}
use Rattle.script.proofs.input.figures_of.Given as goal

abbrev pub invariant-loop-b : goal.invariant-loop-b
invariant-loop-b l = Figured l.w l.value l.b-index
