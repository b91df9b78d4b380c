use native.Mathlib.Omega.{arith}
use Rattle.text.proofs.Decimals.{decimal_most}
use Rattle.text.proofs.Appended.{and_then}
use Rattle.reply.proofs.put_two.Goals as goal

pub number-requires : goal.number-requires
number-requires c = omega (arith, decimal_most c.args.n)

pub byte-requires-2 : goal.byte-requires-2
byte-requires-2 c = omega (arith, decimal_most c.args.n)

pub number-requires-2 : goal.number-requires-2
number-requires-2 c = omega (arith, decimal_most c.args.n, decimal_most c.args.last)

pub byte-requires-3 : goal.byte-requires-3
byte-requires-3 c = omega (arith, decimal_most c.args.n, decimal_most c.args.last)

pub returns : goal.returns
returns c =
    and_then (and_then c.byte.ensures (and_then (and_then c.number.ensures c.byte-2.ensures) c.number-2.ensures)) c.byte-3.ensures
