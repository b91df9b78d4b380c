use Prim.Native.Nat.{◌+◌}
use Rattle.decoder.proofs.Shorts.{Shortly}
use Rattle.decoder.proofs.quick.short_at.Given as goal

abbrev pub invariant-loop-i : goal.invariant-loop-i
invariant-loop-i l = Shortly l.s (l.comma + 1) l.value l.i
