use native.Mathlib.Omega.{arith}
use Rattle.hub.proofs.Hub.applied.Goals as goal

pub bounds-next-slot : goal.bounds-next-slot
bounds-next-slot c = omega (arith, rw c.in-Connector.is at c.requires)

pub bounds-next-slot-in-Relay : goal.bounds-next-slot-in-Relay
bounds-next-slot-in-Relay c = omega (arith, rw c.in-Relay.is at c.requires)

pub returns-in-Connector : goal.returns-in-Connector
returns-in-Connector c = rw c.in-Connector.is

pub returns-in-Relay : goal.returns-in-Relay
returns-in-Relay c = rw c.in-Relay.is
