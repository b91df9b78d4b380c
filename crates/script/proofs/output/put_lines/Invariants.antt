use Prim.Native.Nat.{◌-◌, ◌≤◌}
use lib.ListN.{length, drop}
use Rattle.laws.specs.Lists.{cut}
use Rattle.script.specs.Output.{lines_for, printed_reply, who_text}
use Rattle.script.proofs.Putting.{Putting}
use Rattle.script.proofs.output.put_lines.Given as goal

abbrev pub invariant-loop-i : goal.invariant-loop-i
invariant-loop-i l = (l.i ≤ length l.text) × Putting l.initial.out l.at (printed_reply (who_text l.who) l.text) (lines_for (who_text l.who) (cut 13 (drop l.i l.text))) l.out l.o

abbrev pub decreases-loop-i : goal.decreases-loop-i
decreases-loop-i l = length l.text - l.i
