-- The contact of every connector of a fresh hub is unread.
use Prim.Native.Nat.{ℕ, suc, ◌<◌}
use mathlib.Core.Path.{◌≡◌, ap}
use Rattle.laws.proofs.Slots.{made_in}
use Rattle.words.specs.Places.{connectors}
use Rattle.request.specs.Mode.{fresh_mode}
use Rattle.connector.specs.declared.Connector.{Connector}
use Rattle.connector.specs.Record.{unread, fresh_connector}
use Rattle.hub.specs.Record.{fresh_hub, connector_at}

-- whatever its mode
pub fresh_hub_unread : (slot : ℕ) → slot < connectors → (connector_at fresh_hub slot).contact ≡ unread
fresh_hub_unread slot less =
    ap (λ (c : Connector). c.contact) (made_in (λ at. fresh_connector (fresh_mode (suc at))) connectors slot _ less)
