use Rattle.laws.proofs.Put.{then}
use Rattle.output.proofs.put_four.Goals as goal

pub returns : goal.returns
returns c = then c.put_two-a.ensures c.put_two.ensures
