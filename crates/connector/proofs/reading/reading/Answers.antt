use mathlib.Core.Path.{sym, ◌∙◌}
use borrow.Author.Tests.{lt-ltb, le-ltb}
use Rattle.connector.specs.Reading.{reading_step}
use Rattle.connector.proofs.reading.reading.Goals as goal

pub returns-then-not-is_sensor : goal.returns-then-not-is_sensor
unfolding reading_step
returns-then-not-is_sensor c = rw (sym c.is_sensor.ensures ∙ c.if-not-is_sensor.true) c.refuses.ensures

pub returns-then-value-gt1 : goal.returns-then-value-gt1
unfolding reading_step
returns-then-value-gt1 c =
    let sensor = sym c.is_sensor.ensures ∙ c.if-not-is_sensor.false in
    rw (sensor, lt-ltb _ _ c.if-value-gt1.true) c.refuses-then-value-gt1.ensures

pub returns : goal.returns
unfolding reading_step
returns c =
    let sensor = sym c.is_sensor.ensures ∙ c.if-not-is_sensor.false in
    rw (sensor, le-ltb _ _ c.if-value-gt1.false, c.with_reading.ensures)
