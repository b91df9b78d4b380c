use lib.ListN.{take, drop}
use Prim.Native.Nat.{◌+◌, ◌*◌, ◌≤◌}
use Rattle.script.specs.Output.{printed_completions}
use Rattle.script.proofs.Putting.{Putting}
use Rattle.script.proofs.output.put_completions.Given as goal

abbrev pub invariant-loop-i : goal.invariant-loop-i
invariant-loop-i l = (l.i ≤ 3) × (l.o ≤ l.at + 256 * l.i) × Putting l.initial.out l.at (printed_completions (take l.count l.items)) (printed_completions (drop l.i (take l.count l.items))) l.out l.o
