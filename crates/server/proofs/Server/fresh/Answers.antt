use Rattle.server.proofs.Server.fresh.Goals as goal

pub returns : goal.returns
returns c = rw (c.fresh-assembler.ensures, c.fresh.ensures)
