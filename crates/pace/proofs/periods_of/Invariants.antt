use Prim.Native.Nat.{◌*◌}
use Rattle.pace.proofs.Summing.{Summing}
use Rattle.pace.proofs.periods_of.Given as goal

abbrev pub invariant-loop-i : goal.invariant-loop-i
invariant-loop-i l = Summing l.counts (2 * l.from) (2 * l.to) l.sum l.i
