use mathlib.Core.Path.{refl}
use native.Mathlib.Omega.{arith}
use Rattle.laws.proofs.Put.{nothing}
use Rattle.port.specs.Event.{event_of}
use Rattle.port.proofs.event.answered.Goals as goal

pub returns-in_default : goal.returns-in_default
unfolding event_of
returns-in_default c = rw c.in_default.is (record { server = refl; put = nothing _ _ (omega arith) })
