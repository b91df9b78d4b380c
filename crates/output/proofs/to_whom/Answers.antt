use Rattle.output.proofs.to_whom.Goals as goal

pub returns-in-Nobody : goal.returns-in-Nobody
returns-in-Nobody c = rw c.in-Nobody.is

pub returns-in-Connection : goal.returns-in-Connection
returns-in-Connection c = rw c.in-Connection.is
