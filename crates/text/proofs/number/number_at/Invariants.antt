use Prim.Native.Nat.{◌+◌}
use mathlib.Core.Path.{◌≡◌}
use Rattle.text.proofs.Reading.{Reading}
use Rattle.text.proofs.number.number_at.Given as goal

abbrev pub invariant-loop-b : goal.invariant-loop-b
invariant-loop-b l = (l.digits ≡ l.b-index) × Reading l.s l.at l.value l.digits (l.at + l.digits)
