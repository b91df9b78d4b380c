use Rattle.laws.proofs.Put.{then}
use Rattle.output.proofs.put_reply.Goals as goal

pub returns-in-Nobody : goal.returns-in-Nobody
returns-in-Nobody c = rw c.in-Nobody.is c.put_frame-a.ensures

pub returns-in-Connection : goal.returns-in-Connection
returns-in-Connection c = rw c.in-Connection.is (then c.put_frame-a.ensures c.put_frame.ensures)
