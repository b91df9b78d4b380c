use Rattle.reader.proofs.Progress.fresh.Goals as goal

pub returns : goal.returns
returns c = cc
