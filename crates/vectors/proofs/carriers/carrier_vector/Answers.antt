use Rattle.hub.proofs.Keeps.{wait_sound}
use Rattle.vectors.proofs.carriers.carrier_vector.Goals as goal

pub carriers-carriers-requires : goal.carriers-carriers-requires
carriers-carriers-requires g c = rw c.wait-waited.ensures (wait_sound _ _ c.sent-started.ensures)
