use mathlib.Core.Path.{sym, ◌∙◌}
use Rattle.steps.specs.Step.{get_contact}
use Rattle.steps.proofs.step.get_contact.Goals as goal

pub returns-then-not-is_sensor : goal.returns-then-not-is_sensor
unfolding get_contact
returns-then-not-is_sensor c = rw (sym c.is_sensor.ensures ∙ c.if-not-is_sensor.true) c.fails.ensures

pub returns-in_default : goal.returns-in_default
unfolding get_contact
returns-in_default c =
    let sensor = sym c.is_sensor.ensures ∙ c.if-not-is_sensor.false in
    rw (sensor, c.in_default.is) c.fails-in_default.ensures

pub returns : goal.returns
unfolding get_contact
returns c =
    let sensor = sym c.is_sensor.ensures ∙ c.if-not-is_sensor.false in
    rw (sensor, c.in-Some.is, ← c.from.ensures) c.says.ensures
