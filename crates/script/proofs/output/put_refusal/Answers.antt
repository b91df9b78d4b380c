use native.Mathlib.Omega.{arith}
use Rattle.laws.proofs.Put.{then}
use Rattle.text.proofs.Decimals.{decimal_most}
use Rattle.script.specs.Output.{printed_refusal}
use Rattle.script.proofs.output.put_refusal.Goals as goal

pub put_number-b-requires : goal.put_number-b-requires
put_number-b-requires c = omega (arith, decimal_most c.args.number)

pub put_word-requires : goal.put_word-requires
put_word-requires c = omega (arith, decimal_most c.args.number)

pub returns : goal.returns
unfolding printed_refusal
returns c =
    then (then c.put_word-a.ensures c.put_number-b.ensures) c.put_word.ensures
