use Rattle.output.proofs.Laying.{moment_length}
use Rattle.laws.proofs.Put.{then}
use Rattle.output.proofs.put_completed.Goals as goal

pub returns : goal.returns
returns c = rw (moment_length, ← c.to_whom.ensures) (then (then c.put_head-a.ensures c.put_four-b.ensures) c.put_word.ensures)
