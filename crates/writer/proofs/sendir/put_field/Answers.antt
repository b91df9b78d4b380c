use Prim.Native.Nat.{◌≤◌}
use native.Mathlib.Omega.{arith}
use lib.ListN.{length}
use Rattle.words.specs.Decimal.{decimal}
use Rattle.text.proofs.Decimals.{decimal_few}
use Rattle.text.proofs.Appended.{and_then}
use Rattle.writer.proofs.sendir.put_field.Goals as goal
use Rattle.writer.proofs.sendir.put_field.Goals.{Start}

few : (c : Start) → length (decimal c.args.n) ≤ 6
few c = decimal_few c.args.n c.requires.0

pub number-requires : goal.number-requires
number-requires c = omega (arith, few (goal.at.number-requires c).Start, c.requires.1)

pub byte-requires : goal.byte-requires
byte-requires c = omega (arith, few (goal.at.byte-requires c).Start, c.requires.1)

pub returns-clause-field : goal.returns-clause-field
returns-clause-field c = and_then c.number.ensures c.byte.ensures

pub returns-clause-within : goal.returns-clause-within
returns-clause-within c = omega (arith, few (goal.at.returns-clause-within c).Start)
