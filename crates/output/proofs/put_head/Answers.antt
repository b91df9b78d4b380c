use Rattle.laws.proofs.Put.{then}
use Rattle.output.proofs.put_head.Goals as goal

pub returns : goal.returns
returns c = then (then c.put_byte-a.ensures c.put_byte-b.ensures) c.put_two.ensures
