use Rattle.hub.proofs.completions.Completions.none.Goals as goal

pub returns : goal.returns
returns c = rw c.nowhere.ensures
