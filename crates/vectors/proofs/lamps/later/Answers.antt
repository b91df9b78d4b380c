use Rattle.hub.proofs.Keeps.{wait_sound}
use Rattle.vectors.proofs.lamps.later.Goals as goal

pub returns : goal.returns
returns c = rw c.wait.ensures (wait_sound _ _ c.sent-told.ensures)
