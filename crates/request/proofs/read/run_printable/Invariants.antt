use mathlib.Core.Path.{◌≡◌}
use lib.ListN.{take}
use Rattle.laws.specs.Lists.{all}
use Rattle.request.specs.Request.{is_printable}
use Rattle.request.proofs.read.run_printable.Given as goal

abbrev pub invariant-loop-b : goal.invariant-loop-b
invariant-loop-b l = l.good ≡ all is_printable (take l.b-index l.s)
