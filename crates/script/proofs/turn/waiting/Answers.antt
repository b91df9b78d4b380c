use mathlib.Core.Path.{ap}
use Rattle.laws.proofs.Put.{then}
use Rattle.hub.specs.declared.Waited.{Waited}
use Rattle.script.specs.Turn.{waiting_made}
use Rattle.script.proofs.turn.waiting.Goals as goal

pub returns : goal.returns
unfolding waiting_made
returns c =
    record {
      hub = ap (λ (w : Waited). w.hub) c.wait-waited.ensures;
      printed = rw c.wait-waited.ensures at (then c.put_call-o.ensures.0 c.put_completions.ensures);
    }
