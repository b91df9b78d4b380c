-- A call that is refused, a line answered with an error and one answered with busyIR leave the hub and the store as they were.
use Prim.Native.Nat.{ℕ, ◌-◌, ◌*◌}
use mathlib.Core.Path.{refl, ap, ◌∙◌}
use mathlib.Core.List.{List}
use lib.Dec.{ltb}
use Rattle.laws.specs.Put.{over}
use Rattle.laws.proofs.Choice.{cond_case}
use Rattle.laws.proofs.Parts.{part_back}
use Rattle.words.specs.Places.{connectors}
use Rattle.request.specs.declared.Place.{Place}
use Rattle.request.specs.declared.Turn.{Turn}
use Rattle.request.specs.declared.Turn.TheVariants as turn
use Rattle.request.specs.declared.Request.{Request}
use Rattle.request.specs.declared.Request.TheVariants as request
use Rattle.request.specs.Request.{read_request}
use Rattle.connector.specs.declared.Stepped.{Stepped}
use Rattle.connector.specs.Reading.{reading_step}
use Rattle.steps.specs.Refusals.{KeepsConnector}
use Rattle.steps.proofs.Refusals.{reading_refused, step_refused}
use Rattle.hub.specs.declared.Waited.{Waited}
use Rattle.hub.specs.declared.Hub.{Hub}
use Rattle.hub.specs.Record.{connector_at, relay_at, part_size, kept_at}
use Rattle.hub.specs.Line.{change_in, placed, relay_step, asked_step, line_step, overlong_step}
use Rattle.hub.specs.Calls.{moving, reading_call, closed_call}
use Rattle.hub.specs.Wait.{wait_call}
use Rattle.hub.specs.Refusals.{ChangesNothing, KeepsBoth, KeepsHub}

-- a connector that stays is a hub that stays
placed_refused : (slot : ℕ) (s : Stepped) → KeepsConnector s → ChangesNothing (placed slot s)
placed_refused slot s keeps r = ap (change_in slot) (keeps r)

-- ---- the calls beside lines

-- a reading
pub refused_reading : (h : Hub) (port value : ℕ) → ChangesNothing (reading_call h port value)
unfolding reading_call
refused_reading h port value =
    let c = connector_at h (port - 1) in
    cond_case ChangesNothing (ltb port 1) _ _ (λ _ _. refl) λ _.
    cond_case ChangesNothing (ltb connectors port) _ _ (λ _ _. refl) λ _.
    placed_refused (port - 1) (reading_step c value) (reading_refused c value)

-- a closing
pub refused_closing : (h : Hub) (connection : ℕ) → KeepsHub h (closed_call h connection)
unfolding closed_call
refused_closing h connection = cond_case (KeepsHub h) (ltb 7 connection) _ _ (λ _ _. refl) (λ _ r. absurd r)

-- a wait
pub refused_wait : (h : Hub) (n : ℕ) → KeepsHub h (moving (wait_call h n).answer (wait_call h n).hub)
unfolding wait_call
refused_wait h n =
    cond_case (λ (w : Waited). KeepsHub h (moving w.answer w.hub)) (ltb 1000000000 n) _ _ (λ _ _. refl) (λ _ r. absurd r)

-- an overlong line changes nothing, and it is always refused
pub refused_overlong : (connection room : ℕ) → ChangesNothing (overlong_step connection room)
unfolding overlong_step
refused_overlong connection room =
    cond_case ChangesNothing (ltb 7 connection) _ _ (λ _ _. refl) λ _.
    cond_case ChangesNothing (ltb room 128) _ _ (λ _ _. refl) (λ _ _. refl)

-- ---- lines

-- a relay refuses nothing
relay_refused : (state slot : ℕ) (place : Place) (asked : Turn) → ChangesNothing (relay_step state slot place asked)
relay_refused state slot place turn.Get r = absurd r
relay_refused state slot place (turn.Set next) r = absurd r

module _ (h : Hub) (store : List ℕ) (connection : ℕ) (text : List ℕ) where
  -- a request that was read from a line
  refused_asked : (r : Request) → KeepsBoth store (asked_step h store connection text r)
  refused_asked (request.Fault number place) r = (refl, refl)
  refused_asked (request.Fixed fixed) r = absurd r
  refused_asked (request.Connector place ask) r =
      let slot = place.port - 1 in
      let kept = step_refused (connector_at h slot) (kept_at store slot) connection text place ask r in
      (ap (change_in slot) kept.0, ap (over store (slot * part_size)) kept.1 ∙ part_back part_size store slot)
  refused_asked (request.Relay place asked) r =
      let slot = place.port - 1 in
      (relay_refused (relay_at h slot) slot place asked r, refl)

  -- a line
  pub refused_line : (room : ℕ) → KeepsBoth store (line_step h store connection text room)
  unfolding line_step
  refused_line room =
      cond_case (KeepsBoth store) (ltb 7 connection) _ _ (λ _ _. (refl, refl)) λ _.
      cond_case (KeepsBoth store) (ltb room 128) _ _ (λ _ _. (refl, refl)) (λ _. refused_asked (read_request text))
