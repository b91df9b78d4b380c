-- Soundness of the hub: a fresh one has it, and every call keeps it. What a call changes is of a connector or a relay that there is.
use Prim.Native.Nat.{ℕ, suc, ◌-◌, ◌≤◌, ◌<◌}
use mathlib.Core.Path.{sym, subst}
use mathlib.Core.List.{List, map}
use native.Mathlib.Omega.{arith}
use borrow.Author.Tests.{ltb-false}
use lib.Dec.{ltb}
use lib.ListN.{get_or-replicate}
use Rattle.std.proofs.Common.{Option, Some, None}
use Rattle.laws.proofs.Choice.{cond_case}
use Rattle.laws.proofs.Parts.{stored_at}
use Rattle.laws.proofs.Slots.{made_in}
use Rattle.words.specs.Places.{connectors, relays}
use Rattle.request.specs.declared.mode.Mode.TheVariants.{Ir}
use Rattle.request.specs.declared.Place.{Place}
use Rattle.request.specs.declared.Turn.{Turn}
use Rattle.request.specs.declared.Turn.TheVariants as turn
use Rattle.request.specs.declared.Request.{Request}
use Rattle.request.specs.declared.Request.TheVariants as request
use Rattle.request.specs.Mode.{fresh_mode}
use Rattle.request.specs.Place.{connector_in}
use Rattle.request.specs.Request.{read_request}
use Rattle.request.specs.Accepted.{TurnWithin, Within}
use Rattle.request.proofs.Accepted.{within}
use Rattle.connector.specs.declared.Connector.{Connector}
use Rattle.connector.specs.Record.{fresh_connector, SoundConnector, SoundChange}
use Rattle.connector.specs.Change.{disowned}
use Rattle.connector.specs.Pass.{after}
use Rattle.connector.specs.Reading.{reading_step}
use Rattle.connector.proofs.Keeps.{fresh_connector_law, disowned_connector, passed_connector}
use Rattle.connector.proofs.Keeps as connector
use Rattle.steps.specs.Step.{step_of}
use Rattle.steps.proofs.Keeps.{step_sound}
use Rattle.hub.specs.declared.Decided.{Decided}
use Rattle.hub.specs.declared.Moved.{Moved}
use Rattle.hub.specs.declared.Waited.{Waited}
use Rattle.hub.specs.declared.Hub.{Hub}
use Rattle.hub.specs.declared.HubChange.{HubChange}
use Rattle.hub.specs.declared.HubChange.TheVariants as change
use Rattle.hub.specs.Record.{slots, fresh_hub, connector_at, relay_at, kept_at}
use Rattle.hub.specs.Record.{applied, InRange, SoundAll, SoundHub, SoundHubChange}
use Rattle.hub.specs.Line.{Outcome, change_in, relay_step, asked_step, line_step, overlong_step}
use Rattle.hub.specs.Calls.{reading_call, closed_call}
use Rattle.hub.specs.Wait.{passing_at, wait_call}

-- ---- connectors by their slots

-- connectors that are made each in its slot
each_sound : (f : ℕ → Connector) → ((slot : ℕ) → slot < connectors → SoundConnector (f slot)) → SoundAll (map f slots)
each_sound f sound slot less = subst SoundConnector (sym (made_in f connectors slot (fresh_connector Ir) less)) (sound slot less)

-- a fresh hub is sound
pub fresh_sound : SoundHub fresh_hub
fresh_sound =
    record {
      each = each_sound (λ slot. fresh_connector (fresh_mode (suc slot))) (λ slot _. fresh_connector_law (fresh_mode (suc slot)));
      relays = λ slot less. omega (arith, get_or-replicate {A = ℕ} relays slot 0 0 less);
    }

-- a sound change of a sound hub
pub applied_sound : {h : Hub} (x : HubChange) → SoundHub h → SoundHubChange x → SoundHub (applied h x)
applied_sound change.Nothing s k = s
applied_sound {h} (change.Connector slot c) s k =
    record {
      each = λ at less. stored_at SoundConnector h.connectors slot at c (fresh_connector Ir) k (s.each at less);
      relays = s.relays;
    }
applied_sound {h} (change.Relay slot state) s k =
    record {
      each = s.each;
      relays = λ at less. stored_at (λ (v : ℕ). v ≤ 1) h.relays slot at state 0 k (s.relays at less);
    }

-- ---- what a connector's change is in the hub

-- it is sound where the connector is
changed_sound : (slot : ℕ) (x : Option Connector) → SoundChange x → SoundHubChange (change_in slot x)
changed_sound slot None k = tt
changed_sound slot (Some c) k = k

-- its slot is that of the connector
changed_in_range : (slot : ℕ) (x : Option Connector) → slot < connectors → InRange (change_in slot x)
changed_in_range slot None less = tt
changed_in_range slot (Some c) less = less

-- ---- the calls that reach every connector

-- a closing
pub closed_sound : (h : Hub) (connection : ℕ) → SoundHub h → SoundHub (closed_call h connection).hub
unfolding closed_call
closed_sound h connection s =
    cond_case (λ (m : Moved). SoundHub m.hub) (ltb 7 connection) _ _ (λ _. s)
    (λ _.
    record {
      each =
          each_sound (λ slot. disowned (connector_at h slot) connection)
          (λ slot less. disowned_connector (connector_at h slot) connection (s.each slot less));
      relays = s.relays;
    })

-- a wait
pub wait_sound : (h : Hub) (n : ℕ) → SoundHub h → SoundHub (wait_call h n).hub
unfolding wait_call
wait_sound h n s =
    cond_case (λ (w : Waited). SoundHub w.hub) (ltb 1000000000 n) _ _ (λ _. s)
    (λ _.
    record {
      each =
          each_sound (λ slot. after (connector_at h slot) (passing_at h.connectors n slot))
          (λ slot less. passed_connector (connector_at h slot) (connector_in slot) n (s.each slot less));
      relays = s.relays;
    })

-- ---- a contact reading

-- what is decided is a sound change
abbrev SoundDecided : Decided → Type 0
SoundDecided d = SoundHubChange d.change

-- and of a connector or a relay that there is
abbrev DecidedInRange : Decided → Type 0
DecidedInRange d = InRange d.change

-- a reading changes a connector that there is
pub reading_in_range : (h : Hub) (port value : ℕ) → InRange (reading_call h port value).change
unfolding reading_call
reading_in_range h port value =
    cond_case DecidedInRange (ltb port 1) _ _ (λ _. tt) λ least.
    cond_case DecidedInRange (ltb connectors port) _ _ (λ _. tt) λ most.
    changed_in_range (port - 1) (reading_step (connector_at h (port - 1)) value).change (omega (arith, ltb-false port 1 least, ltb-false connectors port most))

-- a reading
pub reading_sound : (h : Hub) (port value : ℕ) → SoundHub h → SoundHub (applied h (reading_call h port value).change)
unfolding reading_call
reading_sound h port value s =
    applied_sound (reading_call h port value).change s
    (cond_case SoundDecided (ltb port 1) _ _ (λ _. tt) λ least.
    cond_case SoundDecided (ltb connectors port) _ _ (λ _. tt) λ most.
    let less : port - 1 < connectors = omega (arith, ltb-false port 1 least, ltb-false connectors port most) in
    let c = connector_at h (port - 1) in
    changed_sound (port - 1) (reading_step c value).change (connector.reading_sound c value (s.each (port - 1) less)))

-- ---- lines

-- an overlong line changes nothing
pub overlong_in_range : (connection room : ℕ) → InRange (overlong_step connection room).change
unfolding overlong_step
overlong_in_range connection room =
    cond_case DecidedInRange (ltb 7 connection) _ _ (λ _. tt) λ _.
    cond_case DecidedInRange (ltb room 128) _ _ (λ _. tt) (λ _. tt)

-- an overlong line
pub overlong_sound : (h : Hub) (connection room : ℕ) → SoundHub h → SoundHub (applied h (overlong_step connection room).change)
unfolding overlong_step
overlong_sound h connection room s =
    applied_sound (overlong_step connection room).change s
    (cond_case SoundDecided (ltb 7 connection) _ _ (λ _. tt) λ _.
    cond_case SoundDecided (ltb room 128) _ _ (λ _. tt) (λ _. tt))

-- a relay that is set is 0 or 1
relay_sound : (state slot : ℕ) (place : Place) (asked : Turn) → TurnWithin asked → SoundDecided (relay_step state slot place asked)
relay_sound state slot place turn.Get w = tt
relay_sound state slot place (turn.Set next) w = w

-- it is one that there is
relay_in_range : (state slot : ℕ) (place : Place) (asked : Turn) → slot < relays → DecidedInRange (relay_step state slot place asked)
relay_in_range state slot place turn.Get less = tt
relay_in_range state slot place (turn.Set next) less = less

module _ (h : Hub) (store : List ℕ) (connection : ℕ) (text : List ℕ) where
  -- a request within the limits is of a connector or a relay that there is
  asked_in_range : (r : Request) → Within r → DecidedInRange (asked_step h store connection text r).decided
  asked_in_range (request.Fault number place) w = tt
  asked_in_range (request.Fixed fixed) w = tt
  asked_in_range (request.Connector place ask) w =
      let slot = place.port - 1 in
      let made = step_of (connector_at h slot) (kept_at store slot) connection text place ask in
      changed_in_range slot made.stepped.change (omega (arith, w.0.least, w.0.most))
  asked_in_range (request.Relay place asked) w =
      let slot = place.port - 1 in
      relay_in_range (relay_at h slot) slot place asked (omega (arith, w.0.least, w.0.most))

  -- so is every line's
  pub line_in_range : (room : ℕ) → InRange (line_step h store connection text room).decided.change
  unfolding line_step
  line_in_range room =
      cond_case (λ (o : Outcome). DecidedInRange o.decided) (ltb 7 connection) _ _ (λ _. tt) λ _.
      cond_case (λ (o : Outcome). DecidedInRange o.decided) (ltb room 128) _ _ (λ _. tt) λ _.
      asked_in_range (read_request text) (within text)

  -- a request within the limits
  asked_sound : (r : Request) → Within r → SoundHub h → SoundDecided (asked_step h store connection text r).decided
  asked_sound (request.Fault number place) w s = tt
  asked_sound (request.Fixed fixed) w s = tt
  asked_sound (request.Connector place ask) w s =
      let slot = place.port - 1 in
      let k = s.each slot (omega (arith, w.0.least, w.0.most)) in
      let made = step_of (connector_at h slot) (kept_at store slot) connection text place ask in
      changed_sound slot made.stepped.change (step_sound (connector_at h slot) (kept_at store slot) connection text place k ask w.1)
  asked_sound (request.Relay place asked) w s =
      let slot = place.port - 1 in
      relay_sound (relay_at h slot) slot place asked w.1

  -- a line
  pub line_sound : (room : ℕ) → SoundHub h → SoundHub (applied h (line_step h store connection text room).decided.change)
  unfolding line_step
  line_sound room s =
      applied_sound (line_step h store connection text room).decided.change s
      (cond_case (λ (o : Outcome). SoundDecided o.decided) (ltb 7 connection) _ _ (λ _. tt) λ _.
      cond_case (λ (o : Outcome). SoundDecided o.decided) (ltb room 128) _ _ (λ _. tt) λ _.
      asked_sound (read_request text) (within text) s)
