use mathlib.Core.Path.{refl, ap, ◌∙◌}
use native.Mathlib.Omega.{arith}
use Rattle.request.specs.Accepted.{ConnectorAt, RelayAt, AskWithin}
use Rattle.hub.specs.Line.{placed}
use Rattle.hub.proofs.ask.asked.Goals as goal
use Rattle.hub.proofs.ask.asked.Goals.{In-Connector, In-Relay}

asked_within : (c : In-Connector) → ConnectorAt c.in-Connector.place × AskWithin c.in-Connector.place.port c.in-Connector.ask
asked_within c = rw c.in-Connector.is at c.requires.1

connector_at_law : (c : In-Connector) → ConnectorAt c.in-Connector.place
connector_at_law c = (asked_within c).0

relay_at_law : (c : In-Relay) → RelayAt c.in-Relay.place
relay_at_law c = (rw c.in-Relay.is at c.requires.1).0

pub overflow_sub-slot : goal.overflow_sub-slot
overflow_sub-slot c =
    let connector_at_law = connector_at_law (goal.at.overflow_sub-slot c).In-Connector in
    connector_at_law.least

pub bounds-hub-slot : goal.bounds-hub-slot
bounds-hub-slot c =
    let connector_at_law = connector_at_law (goal.at.bounds-hub-slot c).In-Connector in
    omega (arith, connector_at_law.least, connector_at_law.most)

pub step_in-stepped-requires : goal.step_in-stepped-requires
step_in-stepped-requires c =
    let asked_within = asked_within (goal.at.step_in-stepped-requires c).In-Connector in
    let connector_at_law = connector_at_law (goal.at.step_in-stepped-requires c).In-Connector in
    let at = connector_at_law in
    (c.requires.0.each _ (omega (arith, at.least, at.most)), omega (arith, at.least, at.most), asked_within.1)

pub overflow_sub-slot-in-Relay : goal.overflow_sub-slot-in-Relay
overflow_sub-slot-in-Relay c =
    let relay_at_law = relay_at_law (goal.at.overflow_sub-slot-in-Relay c).In-Relay in
    relay_at_law.least

pub bounds-hub-slot-in-Relay : goal.bounds-hub-slot-in-Relay
bounds-hub-slot-in-Relay c =
    let relay_at_law = relay_at_law (goal.at.bounds-hub-slot-in-Relay c).In-Relay in
    omega (arith, relay_at_law.least, relay_at_law.most)

pub returns-in-Fault : goal.returns-in-Fault
returns-in-Fault c = rw c.in-Fault.is (record { result = c.fails.ensures; kept = refl })

pub returns-in-Fixed : goal.returns-in-Fixed
returns-in-Fixed c = rw c.in-Fixed.is (record { result = c.says.ensures; kept = refl })

pub returns-in-Connector : goal.returns-in-Connector
returns-in-Connector c =
    let step = c.step_in-stepped.ensures in
    rw c.in-Connector.is
    (record { result = c.placed.ensures ∙ ap (placed _) step.result; kept = step.laid })

pub returns-in-Relay : goal.returns-in-Relay
returns-in-Relay c = rw c.in-Relay.is (record { result = c.relay_step.ensures; kept = refl })
