use Prim.Native.Nat.{◌≤◌}
use mathlib.Core.Path.{◌≡◌}
use lib.ListN.{length}
use Rattle.request.proofs.Covering.{Left}
use Rattle.request.specs.Request.{is_printable}
use Rattle.request.proofs.read.all_printable.Given as goal

-- what is left of the text gives the answer
abbrev pub invariant-loop-piece : goal.invariant-loop-piece
invariant-loop-piece l = Left is_printable l.s l.left × (l.size ≡ length l.s) × (16 ≤ length l.s)

abbrev pub decreases-loop-piece : goal.decreases-loop-piece
decreases-loop-piece l = length l.left
