use native.Mathlib.Omega.{arith}
use Rattle.script.specs.Output.{who_text}
use Rattle.script.proofs.output.put_who.Goals as goal

pub put_word-requires : goal.put_word-requires
unfolding who_text
put_word-requires c = let h = rw c.in-Nobody.is at c.requires in omega (arith, h)

pub put_number-requires : goal.put_number-requires
unfolding who_text
put_number-requires c = let h = rw c.in-Connection.is at c.requires in rw c.from.ensures (omega (arith, h))

pub returns-in-Nobody : goal.returns-in-Nobody
unfolding who_text
returns-in-Nobody c = rw c.in-Nobody.is c.put_word.ensures

pub returns-in-Connection : goal.returns-in-Connection
unfolding who_text
returns-in-Connection c = rw c.in-Connection.is (rw c.from.ensures at c.put_number.ensures)
