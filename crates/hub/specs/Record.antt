-- The record of a hub. Document 01: "A fresh hub has every connector in mode IR and idle, every contact unread, every relay open (0)."
use Rattle.std.specs.Prelude.{ℕ, suc, ◌*◌, ◌≤◌, ◌<◌, List, map, get_or, set, replicate, take, drop}
use Rattle.laws.specs.Lists.{up_from}
use Rattle.words.specs.Places.{connectors, relays}
use Rattle.code.specs.Limits.{most_counts}
use Rattle.request.specs.declared.mode.Mode.TheVariants.{Ir}
use Rattle.request.specs.Mode.{fresh_mode}
use Rattle.connector.specs.declared.Connector.{Connector}
use Rattle.connector.specs.Record.{fresh_connector, SoundConnector}
use Rattle.hub.specs.declared.Hub.{Hub}
use Rattle.hub.specs.declared.HubChange.{HubChange}
use Rattle.hub.specs.declared.HubChange.TheVariants as change

-- the slots of the connectors, 0 for port 1
abbrev pub slots : List ℕ
slots = up_from 0 connectors

abbrev pub fresh_hub : Hub
fresh_hub = record { connectors = map (λ slot. fresh_connector (fresh_mode (suc slot))) slots; relays = replicate relays 0 }

-- the connector in a slot
abbrev pub in_slot : List Connector → ℕ → Connector
in_slot all slot = get_or all slot (fresh_connector Ir)

abbrev pub connector_at : Hub → ℕ → Connector
connector_at h slot = in_slot h.connectors slot

abbrev pub relay_at : Hub → ℕ → ℕ
relay_at h slot = get_or h.relays slot 0

abbrev pub with_connector : Hub → ℕ → Connector → Hub
with_connector h slot c = record { connectors = set h.connectors slot c; relays = h.relays }

abbrev pub with_relay : Hub → ℕ → ℕ → Hub
with_relay h slot state = record { connectors = h.connectors; relays = set h.relays slot state }

-- the counts that a connector keeps: its part of the store
abbrev pub part_size : ℕ
part_size = most_counts

abbrev pub kept_at : List ℕ → ℕ → List ℕ
kept_at store slot = take part_size (drop (slot * part_size) store)

-- ---- what a call changes
abbrev pub applied : Hub → HubChange → Hub
applied h change.Nothing = h
applied h (change.Connector slot c) = with_connector h slot c
applied h (change.Relay slot state) = with_relay h slot state

-- it is of a connector or relay that there is
abbrev pub InRange : HubChange → Type 0
InRange change.Nothing = Unit
InRange (change.Connector slot c) = slot < connectors
InRange (change.Relay slot state) = slot < relays

-- ---- what every hub has that a fresh one and the calls gave
abbrev pub SoundAll : List Connector → Type 0
SoundAll all = (slot : ℕ) → slot < connectors → SoundConnector (in_slot all slot)

pub record SoundHub (h : Hub) : Type 0 where
  pub each : SoundAll h.connectors
  pub relays : (slot : ℕ) → slot < relays → relay_at h slot ≤ 1

-- and what becomes of a connector or a relay is sound
abbrev pub SoundHubChange : HubChange → Type 0
SoundHubChange change.Nothing = Unit
SoundHubChange (change.Connector slot c) = SoundConnector c
SoundHubChange (change.Relay slot state) = state ≤ 1
