-- What document 01's limits say of a request, case by case. A fault is one of those that a line can have by itself, and a request without an
-- address is within the limits anyway. That every line's request is within them is the theorem `within` of proofs/Accepted.antt.
use Rattle.std.specs.Prelude.{ℕ, ◌≤◌, ◌≡◌, true, List, [], ◌∷◌}
use Rattle.laws.specs.Checks.{one_of}
use Rattle.words.specs.Places.{connectors, relays}
use Rattle.request.specs.declared.Place.{Place}
use Rattle.request.specs.declared.Ask.{Ask}
use Rattle.request.specs.declared.Ask.TheVariants.{SetMode, GetMode, GetContact, Send, Stop, SetLamp, GetLamp}
use Rattle.request.specs.declared.Turn.{Turn}
use Rattle.request.specs.declared.Turn.TheVariants.{Set, Get}
use Rattle.request.specs.declared.Request.{Request}
use Rattle.request.specs.declared.Request.TheVariants.{Fault, Fixed, Connector, Relay}
use Rattle.request.specs.Place.{nowhere}
use Rattle.request.specs.Mode.{may_have}

-- a place where an infrared connector is
pub record ConnectorAt (place : Place) : Type 0 where
  pub infrared : place.m ≡ 1
  pub least : 1 ≤ place.port
  pub most : place.port ≤ connectors

-- a place where a relay is
pub record RelayAt (place : Place) : Type 0 where
  pub relay : place.m ≡ 2
  pub least : 1 ≤ place.port
  pub most : place.port ≤ relays

-- "For 001, 002, 003, 015 and 017 the address is 0:0"
abbrev pub unaddressed : List ℕ
unaddressed = 15 ∷ 1 ∷ 17 ∷ 2 ∷ 3 ∷ []

-- the faults of a line that do not depend on the hub's state, each with the place that it names
pub data PossibleFault : ℕ → Place → Type 0 where
  unnamed : {n : ℕ} → one_of unaddressed n ≡ true → PossibleFault n nowhere
  no_mode : {place : Place} → ConnectorAt place → PossibleFault 23 place
  no_lamp : {place : Place} → ConnectorAt place → PossibleFault 23 place
  no_blaster : {place : Place} → ConnectorAt place → (place.port ≡ 3 → ⊥) → PossibleFault 14 place
  no_state : {place : Place} → RelayAt place → PossibleFault 23 place

-- a mode is one that the connector may have; "a target of 1 to 100 and a ramp of 0 to 10"
abbrev pub AskWithin : ℕ → Ask → Type 0
AskWithin port (SetMode mode) = may_have port mode ≡ true
AskWithin port GetMode = Unit
AskWithin port GetContact = Unit
AskWithin port (Send at) = Unit
AskWithin port Stop = Unit
AskWithin port (SetLamp target ramp more) = (1 ≤ target) × (target ≤ 100) × (ramp ≤ 10)
AskWithin port (GetLamp more) = Unit

-- "s is 0 or 1"
abbrev pub TurnWithin : Turn → Type 0
TurnWithin (Set state) = state ≤ 1
TurnWithin Get = Unit

abbrev pub Within : Request → Type 0
Within (Fault number place) = PossibleFault number place
Within (Fixed fixed) = Unit
Within (Connector place ask) = ConnectorAt place × AskWithin place.port ask
Within (Relay place turn) = RelayAt place × TurnWithin turn
