-- pace, lamp, store, connector and steps: time, lamps, the pairs that are sent, one connector, and what is asked of it.
use mathlib.Core.Path.{refl, sym, ◌∙◌}
use Rattle.pace.specs.contracts as pace
use Rattle.lamp.specs.contracts as lamp
use Rattle.store.specs.contracts as store
use Rattle.connector.specs.contracts as connector
use Rattle.steps.specs.contracts as steps
use Rattle.allowed.specs.Allowed.{One}
use Rattle.allowed.proofs.Law.{promised, told, both}

-- pace::periods_of
pub pace_periods_of : One pace.periods_of.ended (λ _ _. pace.periods_of.spec)
pace_periods_of = told _ refl (λ _ _ _ _. refl)

-- pace::Pace::started
pub pace_started : One pace.Pace.started.ended (λ _ _. pace.Pace.started.spec)
pace_started = told _ refl (λ _ _ _ _. refl)

-- pace::Pace::end
pub pace_end : One pace.Pace.end.ended (λ _ _. pace.Pace.end.spec)
pace_end = told _ refl (λ _ _ _ _. refl)

-- pace::Pace::finished
pub pace_finished : One pace.Pace.finished.ended (λ _ _. pace.Pace.finished.spec)
pace_finished = told _ refl (λ _ _ _ _. refl)

-- pace::Pace::renewed
pub pace_renewed : One pace.Pace.renewed.ended (λ _ _. pace.Pace.renewed.spec)
pace_renewed = told _ refl (λ _ _ _ _. refl)

-- pace::Pace::place
pub pace_place : One pace.Pace.place.ended (λ _ _. pace.Pace.place.spec)
pace_place = told _ refl (λ _ _ _ _. refl)

-- pace::Pace::passed
pub pace_passed : One pace.Pace.passed.ended (λ _ _. pace.Pace.passed.spec)
pace_passed = told _ refl (λ _ _ _ _. refl)

-- lamp::Lamp::dark
pub lamp_dark : One lamp.Lamp.dark.ended (λ _ _. lamp.Lamp.dark.spec)
lamp_dark = told _ refl (λ _ _ _ _. refl)

-- lamp::Lamp::percent
pub lamp_percent : One lamp.Lamp.percent.ended (λ _ _. lamp.Lamp.percent.spec)
lamp_percent = told _ refl (λ _ _ _ _. refl)

-- lamp::Lamp::turned
pub lamp_turned : One lamp.Lamp.turned.ended (λ _ _. lamp.Lamp.turned.spec)
lamp_turned = told _ refl (λ _ _ _ _. refl)

-- lamp::Lamp::passed
pub lamp_passed : One lamp.Lamp.passed.ended (λ _ _. lamp.Lamp.passed.spec)
lamp_passed = told _ refl (λ _ _ _ _. refl)

-- store::keep
pub store_keep : One store.keep.ended (λ _ _. store.keep.spec)
store_keep = promised _ refl (λ _ _ _ _ _ _ p q. (refl, both (p ∙ sym q) refl))

-- store::same
pub store_same : One store.same.ended (λ _ _. store.same.spec)
store_same = told _ refl (λ _ _ _ _. refl)

-- store::carrier
pub store_carrier : One store.carrier.ended (λ _ _. store.carrier.spec)
store_carrier = told _ refl (λ _ _ _ _. refl)

-- connector::Connector::fresh
pub connector_fresh : One connector.Connector.fresh.ended (λ _ _. connector.Connector.fresh.spec)
connector_fresh = told _ refl (λ _ _ _ _. refl)

-- connector::records::with_mode
pub connector_with_mode : One connector.records.with_mode.ended (λ _ _. connector.records.with_mode.spec)
connector_with_mode = told _ refl (λ _ _ _ _. refl)

-- connector::records::with_reading
pub connector_with_reading : One connector.records.with_reading.ended (λ _ _. connector.records.with_reading.spec)
connector_with_reading = told _ refl (λ _ _ _ _. refl)

-- connector::records::with_lamp
pub connector_with_lamp : One connector.records.with_lamp.ended (λ _ _. connector.records.with_lamp.spec)
connector_with_lamp = told _ refl (λ _ _ _ _. refl)

-- connector::records::is_running
pub connector_is_running : One connector.records.is_running.ended (λ _ _. connector.records.is_running.spec)
connector_is_running = told _ refl (λ _ _ _ _. refl)

-- connector::records::with_sending
pub connector_with_sending : One connector.records.with_sending.ended (λ _ _. connector.records.with_sending.spec)
connector_with_sending = told _ refl (λ _ _ _ _. refl)

-- connector::records::renewed
pub connector_renewed : One connector.records.renewed.ended (λ _ _. connector.records.renewed.spec)
connector_renewed = told _ refl (λ _ _ _ _. refl)

-- connector::records::owns
pub connector_owns : One connector.records.owns.ended (λ _ _. connector.records.owns.spec)
connector_owns = told _ refl (λ _ _ _ _. refl)

-- connector::reading::reading
pub connector_reading : One connector.reading.reading.ended (λ _ _. connector.reading.reading.spec)
connector_reading = told _ refl (λ _ _ _ _. refl)

-- connector::pass::pass
pub connector_pass : One connector.pass.pass.ended (λ _ _. connector.pass.pass.spec)
connector_pass = told _ refl (λ _ _ _ _. refl)

-- connector::carrier::carrier_of
pub connector_carrier_of : One connector.carrier.carrier_of.ended (λ _ _. connector.carrier.carrier_of.spec)
connector_carrier_of = told _ refl (λ _ _ _ _. refl)

-- connector::closing::disown: the lent record
pub connector_disown : One connector.closing.disown.ended (λ _ _. connector.closing.disown.spec)
connector_disown = promised _ refl (λ _ _ _ _ _ _ p q. (refl, both (p ∙ sym q) refl))

-- connector::closing::disowned
pub connector_disowned : One connector.closing.disowned.ended (λ _ _. connector.closing.disowned.spec)
connector_disowned = told _ refl (λ _ _ _ _. refl)

-- steps::step::step: the answer with the change, and the counts kept
pub steps_step : One steps.step.step.ended (λ _ _. steps.step.step.spec)
steps_step = promised _ refl (λ _ _ _ _ _ _ p q. (p.result ∙ sym q.result, both refl (both (p.counts ∙ sym q.counts) refl)))
