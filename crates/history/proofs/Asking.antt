-- What the hub answers a request that was read from a line, and what it becomes, is what the request makes of what is known.
use Prim.Native.Nat.{ℕ, suc, ◌-◌, ◌*◌, ◌≤◌, ◌<◌}
use mathlib.Core.Path.{◌≡◌, refl, ap, ◌∙◌, subst}
use mathlib.Core.List.{List}
use native.Mathlib.Omega.{arith}
use lib.Dec.{eqb}
use lib.ListN.{length, drop, length-drop}
use lib.Seq.{length-take-le}
use Rattle.laws.proofs.Choice.{cond_case}
use Rattle.words.specs.Places.{connectors}
use Rattle.request.specs.declared.Place.{Place}
use Rattle.request.specs.declared.Ask.{Ask}
use Rattle.request.specs.declared.Turn.{Turn}
use Rattle.request.specs.declared.Turn.TheVariants as turn
use Rattle.request.specs.declared.Request.{Request}
use Rattle.request.specs.declared.Request.TheVariants as request
use Rattle.request.specs.Accepted.{ConnectorAt, RelayAt, Within}
use Rattle.reply.specs.declared.Reply.TheVariants as reply
use Rattle.steps.specs.Step.{step_of}
use Rattle.hub.specs.declared.Hub.{Hub}
use Rattle.hub.specs.Record.{connector_at, relay_at, part_size, kept_at}
use Rattle.hub.specs.Line.{leaving, connector_step, relay_step, asked_step}
use Rattle.shown.proofs.Known.{Known, asked, changed_at, known_after, state_after, relays_after, reply_alone, error_line, ask_said, request_said}
use Rattle.shown.proofs.Shown.{FitFor}
use Rattle.history.proofs.Stepping.{step_means}
use Rattle.history.proofs.Agrees.{hub_of, Stored, Means, unmoved, means_alike, connector_at_law, relay_at_law, switched_hub, put_at}

module _ (t : ℕ) (K : ℕ → Known) (R : ℕ → ℕ) (fit : (p : ℕ) → FitFor t (K p).sending) (store : List ℕ)
    (st : Stored store t K) where
  -- the hub that shows what is known
  abbrev hub : Hub
  hub = hub_of t K R

  -- ---- a connector
  -- the part of a slot is as long as it says
  part_long : (slot : ℕ) → slot < connectors → length (kept_at store slot) ≡ part_size
  part_long slot h =
      let room : part_size ≤ length (drop (slot * part_size) store) = rw length-drop (omega (arith, st.size)) in
      length-take-le part_size (drop (slot * part_size) store) room

  module _ (connection : ℕ) (text : List ℕ) (place : Place) (a : Ask) where
    -- the one in a slot
    slot_means : (slot : ℕ) → slot < connectors
        → Means t hub (ask_said t connection text place (K (suc slot)) a) (changed_at (suc slot) (λ x. asked t connection text x a) K) R
        (connector_step store slot (step_of (connector_at hub slot) (kept_at store slot) connection text place a))
    slot_means slot h =
        rw (connector_at_law t K R slot h)
        (put_at t K R (λ x. asked t connection text x a) slot h store st
        (step_means t (K (suc slot)) (fit (suc slot)) (kept_at store slot) (part_long slot h) (st.held slot h) connection text place a))

    -- the one at a place
    connector_means : ConnectorAt place
        → Means t hub (ask_said t connection text place (K place.port) a)
        (changed_at place.port (λ x. asked t connection text x a) K) R (asked_step hub store connection text (request.Connector place a))
    connector_means w =
        let named : suc (place.port - 1) ≡ place.port = omega (arith, w.least) in
        subst (λ (port : ℕ). Means t hub (ask_said t connection text place (K port) a) (changed_at port (λ x. asked t connection text x a) K) R
        (asked_step hub store connection text (request.Connector place a))) named
        (slot_means (place.port - 1) (omega (arith, w.least, w.most)))

  -- ---- a relay
  -- what is asked of the relay at a place
  relay_means : (place : Place) (turn : Turn) → RelayAt place
      → Means t hub (reply_alone (reply.State place (state_after turn (R place.port)))) K (changed_at place.port (state_after turn) R)
      (leaving (relay_step (relay_at hub (place.port - 1)) (place.port - 1) place turn) store)
  relay_means place turn.Get w =
      let named : suc (place.port - 1) ≡ place.port = omega (arith, w.least) in
      let state : relay_at hub (place.port - 1) ≡ R place.port =
      relay_at_law t K R (place.port - 1) (omega (arith, w.least, w.most)) ∙ ap R named in
      rw state
      (means_alike (λ slot h. refl)
      (λ p. cond_case (λ (s : ℕ). R p ≡ s) (eqb place.port p) (R p) (R p) (λ e. refl) (λ e. refl))
      (unmoved st (reply_alone (reply.State place (R place.port)))))
  relay_means place (turn.Set next) w =
      let named : suc (place.port - 1) ≡ place.port = omega (arith, w.least) in
      record {
        said = refl;
        hub = switched_hub t K R (state_after (turn.Set next)) (place.port - 1) next refl
            ∙ ap (λ (port : ℕ). hub_of t K (changed_at port (state_after (turn.Set next)) R)) named;
        stored = st;
      }

  -- ---- every request
  -- a request within the limits means what it makes
  pub asked_means : (connection : ℕ) (text : List ℕ) (r : Request) → Within r
      → Means t hub (request_said t K R connection text r) (known_after t connection text K r) (relays_after R r) (asked_step hub store connection text r)
  asked_means connection text (request.Fault number place) w = unmoved st (error_line number place)
  asked_means connection text (request.Fixed fixed) w = unmoved st (reply_alone (reply.Fixed fixed))
  asked_means connection text (request.Connector place ask) w = connector_means connection text place ask w.0
  asked_means connection text (request.Relay place turn) w = relay_means place turn w.0
