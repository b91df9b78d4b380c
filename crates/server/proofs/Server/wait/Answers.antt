use Rattle.server.proofs.Server.wait.Goals as goal

pub returns : goal.returns
returns c = rw c.wait-waited.ensures
