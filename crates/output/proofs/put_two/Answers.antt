use Rattle.laws.proofs.Put.{then}
use Rattle.output.proofs.put_two.Goals as goal

pub returns : goal.returns
returns c = rw (← c.low_byte.ensures, ← c.low_byte-2.ensures) (then c.put_byte-a.ensures c.put_byte.ensures)
