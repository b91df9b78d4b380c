use native.Mathlib.Omega.{arith}
use Rattle.laws.proofs.Put.{then}
use Rattle.script.specs.Output.{who_text}
use Rattle.script.proofs.Printing.{line_length}
use Rattle.script.proofs.output.put_line.Goals as goal

pub put_who-a-requires : goal.put_who-a-requires
put_who-a-requires c =
    omega (arith, c.requires, line_length (who_text c.args.who) c.args.line.now)

pub put_word-b-requires : goal.put_word-b-requires
put_word-b-requires c =
    omega (arith, c.requires, line_length (who_text c.args.who) c.args.line.now)

pub put_word-c-requires : goal.put_word-c-requires
put_word-c-requires c =
    omega (arith, c.requires, line_length (who_text c.args.who) c.args.line.now)

pub put_word-requires : goal.put_word-requires
put_word-requires c =
    omega (arith, c.requires, line_length (who_text c.args.who) c.args.line.now)

pub returns : goal.returns
returns c =
    then (then (then c.put_who-a.ensures c.put_word-b.ensures) c.put_word-c.ensures) c.put_word.ensures
