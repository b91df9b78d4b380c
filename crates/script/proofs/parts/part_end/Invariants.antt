use Prim.Native.Nat.{◌+◌, ◌-◌, ◌≤◌}
use mathlib.Core.Path.{◌≡◌}
use lib.ListN.{length, drop}
use Rattle.laws.proofs.Cutting.{up_to}
use Rattle.script.proofs.parts.part_end.Given as goal

abbrev pub invariant-loop-i : goal.invariant-loop-i
invariant-loop-i l = (l.i ≤ length l.s) × (l.i + length (up_to l.c (drop l.i l.s)) ≡ l.at + length (up_to l.c (drop l.at l.s)))
