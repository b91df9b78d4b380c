use native.Mathlib.Omega.{arith}
use lib.ListN.{length-set}
use Rattle.script.proofs.output.put_around.Goals as goal

pub bounds-out-at-2 : goal.bounds-out-at-2
bounds-out-at-2 c = simp length-set (omega arith)

pub bounds-out-last : goal.bounds-out-last
bounds-out-last c = simp length-set (omega arith)
