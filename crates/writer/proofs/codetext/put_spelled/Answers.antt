use Prim.Native.Nat.{◌≤◌}
use native.Mathlib.Omega.{arith}
use lib.ListN.{length}
use Rattle.words.specs.Decimal.{decimal}
use Rattle.text.proofs.Decimals.{decimal_few}
use Rattle.text.proofs.Appended.{and_then}
use Rattle.writer.proofs.Writing.{comma_few}
use Rattle.writer.proofs.codetext.put_spelled.Goals as goal
use Rattle.writer.proofs.codetext.put_spelled.Goals.{Start}

on_few : (c : Start) → length (decimal c.args.on) ≤ 6
on_few c = decimal_few c.args.on (omega (arith, c.ranges.on.fits))

off_few : (c : Start) → length (decimal c.args.off) ≤ 6
off_few c = decimal_few c.args.off (omega (arith, c.ranges.off.fits))

pub number-requires : goal.number-requires
number-requires c = omega (arith, comma_few c.args.after, on_few (goal.at.number-requires c).Start)

pub byte-requires : goal.byte-requires
byte-requires c = omega (arith, comma_few c.args.after, on_few (goal.at.byte-requires c).Start)

pub number-requires-2 : goal.number-requires-2
number-requires-2 c =
    let start = (goal.at.number-requires-2 c).Start in
    omega (arith, comma_few c.args.after, on_few start, off_few start)

pub returns-clause-spelled : goal.returns-clause-spelled
returns-clause-spelled c =
    and_then c.put_comma.ensures (and_then (and_then c.number.ensures c.byte.ensures) c.number-2.ensures)

pub returns-clause-within : goal.returns-clause-within
returns-clause-within c =
    let start = (goal.at.returns-clause-within c).Start in
    omega (arith, comma_few c.args.after, on_few start, off_few start)
