use Rattle.hub.proofs.Hub.fresh.Goals as goal

pub returns : goal.returns
returns c = rw c.connectors.ensures
