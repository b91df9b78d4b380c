use Prim.Native.Nat.{◌+◌, ◌≤◌}
use lib.ListN.{length}
use Rattle.log_book.proofs.item.counts.Given as goal

-- each number has a byte at least
abbrev pub invariant-loop-left : goal.invariant-loop-left
invariant-loop-left l = l.n + length l.left ≤ length l.s

abbrev pub decreases-loop-left : goal.decreases-loop-left
decreases-loop-left l = length l.left
