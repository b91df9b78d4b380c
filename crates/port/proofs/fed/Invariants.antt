use Rattle.port.proofs.Feeding.{Feeding}
use Prim.Native.Nat.{◌-◌}
use lib.ListN.{length}
use Rattle.port.specs.Turn.{whole}
use Rattle.port.proofs.fed.Given as goal

abbrev pub invariant-loop-i : goal.invariant-loop-i
invariant-loop-i l =
    Feeding l.block l.from (whole l.initial.next l.initial.store l.initial.buffers) l.initial.out (whole l.next l.store l.buffers) l.out l.i l.o

abbrev pub decreases-loop-i : goal.decreases-loop-i
decreases-loop-i l = length l.block - l.i
