use Rattle.hub.proofs.Keeps.{reading_in_range}
use Rattle.script.specs.Turn.{reading_made}
use Rattle.script.proofs.turn.reading.Goals as goal

pub applied-requires : goal.applied-requires
applied-requires c = rw c.reading-decided.ensures (reading_in_range _ _ _)

pub returns : goal.returns
unfolding reading_made
returns c =
    record {
      hub = rw c.reading-decided.ensures at c.applied.ensures;
      printed = rw c.reading-decided.ensures at c.put_call.ensures.0;
    }
