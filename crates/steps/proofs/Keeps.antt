-- Soundness of a connector: whatever is asked of it keeps it.
use Prim.Native.Nat.{ℕ, ◌/◌, ◌≤◌}
use mathlib.Core.Path.{◌≡◌, refl, sym, ap, ◌∙◌}
use mathlib.Core.Bool.{Bool, not}
use mathlib.Core.List.{List}
use native.Mathlib.Omega.{arith}
use lib.ListN.{length, take, drop}
use lib.Seq.{length-sets}
use Rattle.std.proofs.Common.{Option, Some, None}
use Rattle.laws.proofs.Choice.{cond_case}
use Rattle.laws.proofs.Storing.{stores_stored}
use Rattle.words.specs.declared.Pair.{Pair}
use Rattle.words.specs.declared.Fields.{Fields}
use Rattle.words.specs.Pairs.{counts_of}
use Rattle.pace.specs.Pace.{periods_of}
use Rattle.pace.proofs.Keeps.{started_sound}
use Rattle.pace.proofs.Lasting.{lead_high, tail_high, tail_low}
use Rattle.lamp.proofs.Keeps.{turned_sound}
use Rattle.request.specs.declared.mode.Mode.{Mode}
use Rattle.request.specs.declared.Place.{Place}
use Rattle.request.specs.declared.Ask.{Ask}
use Rattle.request.specs.declared.Ask.TheVariants as ask
use Rattle.request.specs.Accepted.{AskWithin}
use Rattle.request.specs.Mode.{is_sensor, is_lighting, is_silent}
use Rattle.command.specs.Read.{CommandReading, sent, faulty, command_at, Accepts}
use Rattle.command.proofs.Commands.{command_within}
use Rattle.connector.specs.declared.Connector.{Connector}
use Rattle.connector.specs.declared.Stepped.{Stepped}
use Rattle.connector.specs.Record.{SoundRun, SoundConnector, SoundChange}
use Rattle.connector.specs.Change.{is_running}
use Rattle.connector.proofs.Keeps.{mode_connector, stopped_connector, renewed_connector, lamp_connector}
use Rattle.steps.specs.declared.send.Verdict.{Verdict}
use Rattle.steps.specs.declared.send.Verdict.TheVariants as verdict
use Rattle.steps.specs.Send.{run_of, verdict_of}
use Rattle.steps.specs.Step.{Made, set_mode, contact_says, get_contact, stops, of_lamp, set_lamp, get_lamp, by_verdict, command_step, command_read, send_step, step_of}

-- what a sendir starts
pub run_sound : (f : Fields) (ps : List Pair) → Accepts f ps → SoundRun (run_of f ps)
unfolding run_of
run_sound f ps a =
    let k = f.offset / 2 in
    record {
      paced =
          started_sound (periods_of (take k ps)) (periods_of (drop k ps)) f.repeat (lead_high a.code k)
          (tail_low a.code k (omega (arith, a.offset))) (tail_high a.code k) a.fields.repeat_least a.fields.repeat_most;
      freq_low = a.fields.freq_least;
      freq_high = a.fields.freq_most;
      repeat_low = a.fields.repeat_least;
      repeat_high = a.fields.repeat_most;
      few = a.code.most;
    }

module _ (c : Connector) (kept : List ℕ) (connection : ℕ) (text : List ℕ) (place : Place) where
  -- what is made of it is sound
  abbrev StillSound : Made → Type 0
  StillSound made = SoundChange made.stepped.change

  module _ (k : SoundConnector c) where
    -- a set_IR
    mode_sound : (mode : Mode) → SoundChange (set_mode c place mode).change
    unfolding set_mode
    mode_sound mode =
        cond_case (λ (s : Stepped). SoundChange s.change) (is_running c.sending) _ _ (λ _. tt) (λ _. mode_connector c mode k)

    -- a getstate
    contact_sound : SoundChange (get_contact c place).change
    unfolding get_contact
    contact_sound =
        cond_case (λ (s : Stepped). SoundChange s.change) (not (is_sensor c.mode)) _ _ (λ _. tt) (λ _. go c.contact)
      where
        go : (contact : Option ℕ) → SoundChange (contact_says place contact).change
        go None = tt
        go (Some value) = tt

    -- a stopir
    stop_sound : SoundChange (stops c connection place).change
    unfolding stops
    stop_sound = cond_case (λ (s : Stepped). SoundChange s.change) (is_silent c.mode) _ _ (λ _. tt) (λ _. stopped_connector k)

    -- a set_LED_LIGHTING within the limits
    lamp_sound : (target ramp : ℕ) (more : Bool) → target ≤ 100 → ramp ≤ 10 → SoundChange (set_lamp c place target ramp more).change
    unfolding of_lamp
    lamp_sound target ramp more t r =
        let P : Stepped → Type 0 = λ s. SoundChange s.change in
        cond_case P (not (is_lighting c.mode)) _ _ (λ _. tt) λ _.
        cond_case P more _ _ (λ _. tt) (λ _. lamp_connector k (turned_sound k.lights t r))

    -- a get_LED_LIGHTING
    lamp_kept : (more : Bool) → SoundChange (get_lamp c place more).change
    unfolding of_lamp
    lamp_kept more =
        let P : Stepped → Type 0 = λ s. SoundChange s.change in
        cond_case P (not (is_lighting c.mode)) _ _ (λ _. tt) λ _.
        cond_case P more _ _ (λ _. tt) (λ _. tt)

    -- a sendir without a fault, by its verdict
    command_sound : (f : Fields) (ps : List Pair) → Accepts f ps → StillSound (command_step c kept connection place f ps)
    unfolding command_step
    command_sound f ps a = go (verdict_of c kept connection f ps)
      where
        go : (v : Verdict) → StillSound (by_verdict c kept connection place f ps v)
        go verdict.Start = record { sends = run_sound f ps a; reads = k.reads; lights = k.lights }
        go verdict.Renew = renewed_connector c k
        go verdict.Busy = tt

    -- one that was read
    read_sound : (at : ℕ) (r : CommandReading) → command_at text at ≡ r → StillSound (command_read c kept connection place r)
    read_sound at (faulty number found) e = tt
    read_sound at (sent f ps) e = command_sound f ps (command_within text at f ps e)

    -- any sendir
    send_sound : (at : ℕ) → StillSound (send_step c kept connection text place at)
    unfolding send_step
    send_sound at = cond_case StillSound (is_silent c.mode) _ _ (λ _. tt) (λ _. read_sound at (command_at text at) refl)

    -- whatever is asked
    pub step_sound : (asked : Ask) → AskWithin place.port asked → SoundChange (step_of c kept connection text place asked).stepped.change
    step_sound (ask.SetMode mode) w = mode_sound mode
    step_sound ask.GetMode w = tt
    step_sound ask.GetContact w = contact_sound
    step_sound (ask.Send at) w = send_sound at
    step_sound ask.Stop w = stop_sound
    step_sound (ask.SetLamp target ramp more) w = lamp_sound target ramp more w.1 w.2
    step_sound (ask.GetLamp more) w = lamp_kept more

  -- ---- the counts stay as many

  -- those that are made are as many as those kept
  abbrev AsMany : Made → Type 0
  AsMany made = length made.kept ≡ length kept

  -- a sendir without a fault, by its verdict
  command_size : (f : Fields) (ps : List Pair) → AsMany (command_step c kept connection place f ps)
  unfolding command_step
  command_size f ps = go (verdict_of c kept connection f ps)
    where
      go : (v : Verdict) → AsMany (by_verdict c kept connection place f ps v)
      go verdict.Start = ap length (sym (stores_stored kept 0 (counts_of ps))) ∙ length-sets kept 0 (counts_of ps)
      go verdict.Renew = refl
      go verdict.Busy = refl

  -- one that was read
  read_size : (r : CommandReading) → AsMany (command_read c kept connection place r)
  read_size (faulty number found) = refl
  read_size (sent f ps) = command_size f ps

  -- any sendir
  send_size : (at : ℕ) → AsMany (send_step c kept connection text place at)
  unfolding send_step
  send_size at = cond_case AsMany (is_silent c.mode) _ _ (λ _. refl) (λ _. read_size (command_at text at))

  -- whatever is asked
  pub step_size : (asked : Ask) → length (step_of c kept connection text place asked).kept ≡ length kept
  step_size (ask.SetMode mode) = refl
  step_size ask.GetMode = refl
  step_size ask.GetContact = refl
  step_size (ask.Send at) = send_size at
  step_size ask.Stop = refl
  step_size (ask.SetLamp target ramp more) = refl
  step_size (ask.GetLamp more) = refl
