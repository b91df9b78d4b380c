use native.Mathlib.Omega.{arith}
use Rattle.std.proofs.lemmas.Bool.Decides.{nat_tests}
use Rattle.command.specs.Fields.{capped}
use Rattle.command.proofs.fields.capped.Goals as goal

pub returns : goal.returns
unfolding capped
returns c = grind (arith, nat_tests)
