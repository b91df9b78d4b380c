use mathlib.Core.Path.{ap}
use Rattle.hub.specs.declared.Moved.{Moved}
use Rattle.script.specs.Turn.{closing_made}
use Rattle.script.proofs.turn.closing.Goals as goal

pub returns : goal.returns
unfolding closing_made
returns c =
    record {
      hub = ap (λ (m : Moved). m.hub) c.closed-moved.ensures;
      printed = rw c.closed-moved.ensures at c.put_call.ensures.0;
    }
