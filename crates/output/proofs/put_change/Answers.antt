use Rattle.laws.proofs.Put.{nothing}
use native.Mathlib.Omega.{arith}
use Rattle.output.specs.Output.{change_frames}
use Rattle.output.proofs.put_change.Goals as goal

pub put_connector-requires : goal.put_connector-requires
put_connector-requires c = let h = rw c.in-Connector.is at c.requires.0 in (omega arith, omega arith)

pub put_relay-requires : goal.put_relay-requires
put_relay-requires c = let h = rw c.in-Relay.is at c.requires.0 in (omega arith, omega arith)

pub returns-in-Nothing : goal.returns-in-Nothing
unfolding change_frames
returns-in-Nothing c = rw c.in-Nothing.is (nothing _ _ (omega arith))

pub returns-in-Connector : goal.returns-in-Connector
unfolding change_frames
returns-in-Connector c = rw c.in-Connector.is c.put_connector.ensures

pub returns-in-Relay : goal.returns-in-Relay
unfolding change_frames
returns-in-Relay c = rw c.in-Relay.is c.put_relay.ensures
