use mathlib.Core.Path.{◌≡◌}
use lib.ListN.{drop}
use Rattle.text.specs.Field.{field_is}
use Rattle.text.proofs.field.field_is.Given as goal

abbrev pub invariant-loop-i : goal.invariant-loop-i
invariant-loop-i l = field_is (drop l.i l.w) (drop l.i l.field) ≡ field_is l.w l.field
