use Rattle.laws.proofs.Put.{then}
use Rattle.output.proofs.put_frame.Goals as goal

pub returns : goal.returns
returns c = then c.put_head-a.ensures c.put_word.ensures
