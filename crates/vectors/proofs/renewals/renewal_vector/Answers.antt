use Rattle.hub.proofs.Keeps.{wait_sound}
use Rattle.vectors.proofs.renewals.renewal_vector.Goals as goal

pub sent-renewed-requires : goal.sent-renewed-requires
sent-renewed-requires g c = rw c.wait-waited.ensures (wait_sound _ _ c.sent-started.ensures)
