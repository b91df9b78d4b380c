use Rattle.laws.proofs.Put.{then}
use Rattle.output.proofs.put_due.Goals as goal

pub returns : goal.returns
returns c = then c.put_head-a.ensures c.put_four.ensures
