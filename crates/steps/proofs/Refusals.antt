-- A connector that refuses, by a number, an error line or busyIR, stays as it was, with its counts.
use Prim.Native.Nat.{ℕ}
use mathlib.Core.Path.{refl}
use mathlib.Core.Bool.{Bool, not}
use mathlib.Core.List.{List}
use lib.Dec.{ltb}
use Rattle.std.proofs.Common.{Option, Some, None}
use Rattle.laws.proofs.Choice.{cond_case}
use Rattle.words.specs.declared.Pair.{Pair}
use Rattle.words.specs.declared.Fields.{Fields}
use Rattle.request.specs.declared.mode.Mode.{Mode}
use Rattle.request.specs.declared.Place.{Place}
use Rattle.request.specs.declared.Ask.{Ask}
use Rattle.request.specs.declared.Ask.TheVariants as ask
use Rattle.request.specs.Mode.{is_sensor, is_lighting, is_silent}
use Rattle.command.specs.Read.{CommandReading, sent, faulty, command_at}
use Rattle.connector.specs.declared.Connector.{Connector}
use Rattle.connector.specs.declared.Stepped.{Stepped}
use Rattle.connector.specs.Change.{is_running}
use Rattle.connector.specs.Reading.{reading_step}
use Rattle.steps.specs.declared.send.Verdict.{Verdict}
use Rattle.steps.specs.declared.send.Verdict.TheVariants as verdict
use Rattle.steps.specs.Send.{verdict_of}
use Rattle.steps.specs.Step.{set_mode, contact_says, get_contact, stops, of_lamp, by_verdict, command_step, command_read, send_step, step_of}
use Rattle.steps.specs.Refusals.{KeepsConnector, KeepsBoth}

-- a contact reading
pub reading_refused : (c : Connector) (value : ℕ) → KeepsConnector (reading_step c value)
unfolding reading_step
reading_refused c value =
    cond_case KeepsConnector (not (is_sensor c.mode)) _ _ (λ _ _. refl) λ _.
    cond_case KeepsConnector (ltb 1 value) _ _ (λ _ _. refl) (λ _ r. absurd r)

module _ (c : Connector) (kept : List ℕ) (connection : ℕ) (text : List ℕ) (place : Place) where
  -- 029
  mode_refused : (mode : Mode) → KeepsConnector (set_mode c place mode)
  unfolding set_mode
  mode_refused mode = cond_case KeepsConnector (is_running c.sending) _ _ (λ _ _. refl) (λ _ r. absurd r)

  -- 018 and 028
  contact_refused : KeepsConnector (get_contact c place)
  unfolding get_contact
  contact_refused = cond_case KeepsConnector (not (is_sensor c.mode)) _ _ (λ _ _. refl) (λ _. go c.contact)
    where
      go : (contact : Option ℕ) → KeepsConnector (contact_says place contact)
      go None r = refl
      go (Some value) r = absurd r

  -- 013 of a stopir
  stop_refused : KeepsConnector (stops c connection place)
  unfolding stops
  stop_refused = cond_case KeepsConnector (is_silent c.mode) _ _ (λ _ _. refl) (λ _ r. absurd r)

  -- 023 and 017 of a lamp's request that is otherwise answered
  lamp_refused : (more : Bool) (otherwise : Stepped) → KeepsConnector otherwise → KeepsConnector (of_lamp c place more otherwise)
  unfolding of_lamp
  lamp_refused more otherwise h =
      cond_case KeepsConnector (not (is_lighting c.mode)) _ _ (λ _ _. refl) λ _.
      cond_case KeepsConnector more _ _ (λ _ _. refl) (λ _. h)

  -- busyIR
  command_refused : (f : Fields) (ps : List Pair) → KeepsBoth kept (command_step c kept connection place f ps)
  unfolding command_step
  command_refused f ps = go (verdict_of c kept connection f ps)
    where
      go : (v : Verdict) → KeepsBoth kept (by_verdict c kept connection place f ps v)
      go verdict.Start r = absurd r
      go verdict.Renew r = absurd r
      go verdict.Busy r = (refl, refl)

  -- the faults of a command
  read_refused : (r : CommandReading) → KeepsBoth kept (command_read c kept connection place r)
  read_refused (faulty number found) r = (refl, refl)
  read_refused (sent f ps) r = command_refused f ps r

  -- 013 of a sendir
  send_refused : (at : ℕ) → KeepsBoth kept (send_step c kept connection text place at)
  unfolding send_step
  send_refused at =
      cond_case (KeepsBoth kept) (is_silent c.mode) _ _ (λ _ _. (refl, refl)) (λ _. read_refused (command_at text at))

  -- whatever is asked
  pub step_refused : (asked : Ask) → KeepsBoth kept (step_of c kept connection text place asked)
  step_refused (ask.SetMode mode) r = (mode_refused mode r, refl)
  step_refused ask.GetMode r = absurd r
  step_refused ask.GetContact r = (contact_refused r, refl)
  step_refused (ask.Send at) r = send_refused at r
  step_refused ask.Stop r = (stop_refused r, refl)
  step_refused (ask.SetLamp target ramp more) r = (lamp_refused more _ (λ s. absurd s) r, refl)
  step_refused (ask.GetLamp more) r = (lamp_refused more _ (λ s. absurd s) r, refl)
