use Rattle.hub.proofs.Keeps.{reading_in_range}
use Rattle.server.proofs.Server.reading.Goals as goal

pub applied-hub-requires : goal.applied-hub-requires
applied-hub-requires c = rw c.reading-decided.ensures (reading_in_range _ _ _)

pub returns : goal.returns
returns c = rw (c.applied-hub.ensures, c.reading-decided.ensures)
