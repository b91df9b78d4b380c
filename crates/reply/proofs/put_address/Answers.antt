use native.Mathlib.Omega.{arith}
use Rattle.text.proofs.Decimals.{decimal_most}
use Rattle.text.proofs.Appended.{and_then}
use Rattle.reply.proofs.put_address.Goals as goal

pub number-requires : goal.number-requires
number-requires c = omega (arith, decimal_most c.args.place.m)

pub byte-requires : goal.byte-requires
byte-requires c = omega (arith, decimal_most c.args.place.m)

pub number-requires-2 : goal.number-requires-2
number-requires-2 c = omega (arith, decimal_most c.args.place.m, decimal_most c.args.place.port)

pub returns : goal.returns
returns c = (
  and_then (and_then (and_then c.word.ensures c.number.ensures) c.byte.ensures) c.number-2.ensures,
  omega (arith, decimal_most c.args.place.m, decimal_most c.args.place.port),
)
