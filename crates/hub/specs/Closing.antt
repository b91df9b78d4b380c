-- What a closing may change. Document 01: "Closing a connection changes one mark in each connector's record: its transmissions run on with
-- no owner". That nothing else changes is proved in proofs/Marks.antt.
use Rattle.std.specs.Prelude.{ℕ, ◌<◌, ◌≡◌, length}
use Rattle.words.specs.Places.{connectors}
use Rattle.connector.specs.declared.Owner.TheVariants.{Nobody, Connection}
use Rattle.connector.specs.declared.Connector.{Connector}
use Rattle.hub.specs.declared.Hub.{Hub}
use Rattle.hub.specs.Record.{connector_at}

-- a connector before and after: the owner alone may differ
pub record OneMark (connection : ℕ) (before after : Connector) : Type 0 where
  pub left : before.owner ≡ Connection connection → after.owner ≡ Nobody
  pub kept : (before.owner ≡ Connection connection → ⊥) → after.owner ≡ before.owner
  pub mode : after.mode ≡ before.mode
  pub contact : after.contact ≡ before.contact
  pub sending : after.sending ≡ before.sending
  pub lamp : after.lamp ≡ before.lamp

pub record MarksOnly (connection : ℕ) (before after : Hub) : Type 0 where
  pub as_many : length after.connectors ≡ connectors
  pub each : (slot : ℕ) → slot < connectors → OneMark connection (connector_at before slot) (connector_at after slot)
  pub relays : after.relays ≡ before.relays
