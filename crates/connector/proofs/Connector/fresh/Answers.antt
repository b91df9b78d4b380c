use Rattle.connector.proofs.Connector.fresh.Goals as goal

pub returns : goal.returns
returns c = rw c.dark.ensures
