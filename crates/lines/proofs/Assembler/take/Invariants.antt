use Prim.Native.Nat.{◌≤◌}
use mathlib.Core.Path.{◌≡◌}
use lib.ListN.{length, drop}
use Rattle.lines.proofs.Taking.{step_from}
use Rattle.lines.proofs.Assembler.take.Given as goal

abbrev pub invariant-loop-i : goal.invariant-loop-i
invariant-loop-i l =
    (l.size ≤ 4097) × (length l.buf ≡ 4096)
    × (step_from 0 l.initial.size l.initial.buf l.piece ≡ step_from l.i l.size l.buf (drop l.i l.piece))
