-- What is asked of one connector, whichever it is: the step of the record that shows what is known of it gives the answer that is said, and
-- becomes the record that shows what is known then.
use Prim.Native.Nat.{ℕ, ◌*◌}
use mathlib.Core.Path.{◌≡◌, refl, sym, ap, ◌∙◌}
use mathlib.Core.Bool.{Bool, not}
use mathlib.Core.List.{List}
use mathlib.Core.Option.{Option, none, some}
use native.Mathlib.Omega.{arith}
use lib.Dec.{ltb}
use lib.ListN.{length, take}
use Rattle.std.proofs.Common as std
use Rattle.laws.specs.Put.{stored_in}
use Rattle.laws.proofs.Choice.{by_test, cond_case}
use Rattle.laws.proofs.Numbers.{numbers_part}
use Rattle.words.specs.declared.Pair.{Pair}
use Rattle.words.specs.declared.Fields.{Fields}
use Rattle.words.specs.Pairs.{counts_of, counts_in}
use Rattle.meaning.specs.Time.{Transmission, started, renewed}
use Rattle.meaning.specs.Lamp.{Lamp, level, turned}
use Rattle.meaning.specs.Log.{until}
use Rattle.request.specs.declared.mode.Mode.{Mode}
use Rattle.request.specs.declared.Place.{Place}
use Rattle.request.specs.declared.Ask.{Ask}
use Rattle.request.specs.declared.Ask.TheVariants as ask
use Rattle.request.specs.Mode.{is_sensor, is_lighting, is_silent}
use Rattle.request.specs.Place.{nowhere}
use Rattle.command.specs.Read.{CommandReading, sent, faulty, command_at, Accepts}
use Rattle.command.proofs.Commands.{command_within}
use Rattle.reply.specs.declared.Reply.TheVariants as reply
use Rattle.lamp.proofs.Meaning.{shown_at, percent_shown, turned_shown}
use Rattle.store.proofs.Kept.{kept_size, kept_found}
use Rattle.waveform.specs.Paced.{Fit}
use Rattle.waveform.proofs.Paced.{started_runs, renewed_runs}
use Rattle.connector.specs.declared.Owner.TheVariants.{Connection}
use Rattle.connector.specs.declared.Connector.{Connector}
use Rattle.connector.specs.declared.Answer.{Answer}
use Rattle.connector.specs.declared.Answer.TheVariants as answer
use Rattle.connector.specs.declared.Stepped.{Stepped}
use Rattle.connector.specs.Record.{changed, stepping}
use Rattle.connector.specs.Change as change
use Rattle.connector.specs.Change.{owns, same_mode}
use Rattle.connector.specs.Reading.{reading_step}
use Rattle.steps.specs.declared.send.Verdict.TheVariants as verdict
use Rattle.steps.specs.Step as step
use Rattle.steps.specs.Step.{Made, keeping, by_verdict, command_step, command_read, send_step, step_of}
use Rattle.hub.specs.Record.{part_size}
use Rattle.shown.proofs.Known.{Known, transmits, with_sending, same_command, commanded, sent_to, asked, reply_alone, error_line, contact_said, command_said, sendir_said, told, lamp_said, ask_said, read_as, reading_said}
use Rattle.shown.proofs.Shown.{shown, FitFor, HeldIn, fit_on_air, mode_shown, sensor_shown, lighting_shown, silent_shown, lamp_shown, contact_shown, running_shown, with_mode_shown, with_reading_shown, with_lamp_shown, stopped_shown, told_shown, started_shown, renewed_shown, verdict_on, verdict_shown}

-- a step of a connector that was known as x: its answer, and that it shows y then
pub record Steps (t : ℕ) (a : Answer) (x y : Known) (s : Stepped) : Type 0 where
  pub said : s.answer ≡ a
  pub becomes : changed (shown t x) s.change ≡ shown t y

-- and the counts of what is on air are kept then
pub record StepMeans (t : ℕ) (a : Answer) (x y : Known) (made : Made) : Type 0 where
  pub steps : Steps t a x y made.stepped
  pub long : length made.kept ≡ part_size
  pub held : HeldIn made.kept (until t y.sending)

-- an answer that changes nothing
still : {t : ℕ} {x : Known} (a : Answer) → Steps t a x x (stepping a std.None)
still a = record { said = refl; becomes = refl }

-- another record
anew : {t : ℕ} {x y : Known} (a : Answer) (c : Connector) → c ≡ shown t y → Steps t a x y (stepping a (std.Some c))
anew a c e = record { said = refl; becomes = e }

-- ---- a reading
-- 104 changes nothing, a reading that is taken is the contact's
pub reading_steps : (t : ℕ) (x : Known) (value : ℕ) → Steps t (reading_said x value) x (read_as x value) (reading_step (shown t x) value)
unfolding reading_step
reading_steps t x value =
    rw (sensor_shown t x)
    (by_test (not (is_sensor x.mode)) (λ e. rw e (still (answer.Refused 104))) λ e.
    by_test (ltb 1 value) (λ f. rw (e, f) (still (answer.Refused 104))) λ f.
    rw (e, f) (anew answer.Taken (change.with_reading (shown t x) value) (sym (with_reading_shown t x value))))

module _ (t : ℕ) (x : Known) (fit : FitFor t x.sending) (kept : List ℕ) (size : length kept ≡ part_size)
    (held : HeldIn kept (until t x.sending)) (connection : ℕ) (text : List ℕ) (place : Place) where
  -- a step that changes neither the transmission nor the counts
  keeps : {a : Answer} {y : Known} {s : Stepped} → HeldIn kept (until t y.sending) → Steps t a x y s → StepMeans t a x y (keeping s kept)
  keeps h s = record { steps = s; long = size; held = h }

  -- ---- a mode, a contact, a stopir
  -- set_IR
  mode_means : (mode : Mode) → StepMeans t (ask_said t connection text place x (ask.SetMode mode)) x
      (asked t connection text x (ask.SetMode mode)) (keeping (step.set_mode (shown t x) place mode) kept)
  unfolding step.set_mode
  mode_means mode =
      rw (running_shown t x)
      (by_test (transmits t x)
      (λ e. rw e (keeps held (still (error_line 29 place))))
      (λ e. rw e
      (keeps
      (cond_case (λ (y : Known). HeldIn kept (until t y.sending)) (same_mode x.mode mode) _ _ (λ f. held) (λ f. held))
      (anew (reply_alone (reply.Mode place mode)) (change.with_mode (shown t x) mode) (sym (with_mode_shown t x mode e))))))

  -- a contact as it is
  contact_means : (c : std.Option ℕ) → StepMeans t (contact_said place c) x x (keeping (step.contact_says place c) kept)
  contact_means std.None = keeps held (still (error_line 28 place))
  contact_means (std.Some value) = keeps held (still (reply_alone (reply.State place value)))

  -- getstate
  get_contact_means : StepMeans t (ask_said t connection text place x ask.GetContact) x x (keeping (step.get_contact (shown t x) place) kept)
  unfolding step.get_contact
  get_contact_means =
      rw (sensor_shown t x, contact_shown t x)
      (by_test (not (is_sensor x.mode)) (λ e. rw e (keeps held (still (error_line 18 place)))) (λ e. rw e (contact_means x.contact)))

  -- stopir
  stop_means : StepMeans t (ask_said t connection text place x ask.Stop) x (asked t connection text x ask.Stop)
      (keeping (step.stops (shown t x) connection place) kept)
  unfolding step.stops
  stop_means =
      rw (silent_shown t x, told_shown t connection x)
      (by_test (is_silent x.mode)
      (λ e. rw e (keeps held (still (error_line 13 place))))
      (λ e. rw e
      (keeps tt
      (anew (answer.Reply (reply.Stopped place) (told connection x (until t x.sending))) (change.stopped (shown t x))
      (sym (stopped_shown t x))))))

  -- ---- a lamp
  -- what it is told as at that moment
  lamp_told_law : (l : Lamp) → step.lamp_reply place (shown_at l t) ≡ reply.Lamp place (level l t) l.target
  unfolding shown_at
  lamp_told_law l = ap (λ n. reply.Lamp place n l.target) (percent_shown l t)

  -- set_LED_LIGHTING
  set_lamp_means : (target ramp : ℕ) (more : Bool) → StepMeans t (ask_said t connection text place x (ask.SetLamp target ramp more)) x
      (asked t connection text x (ask.SetLamp target ramp more)) (keeping (step.set_lamp (shown t x) place target ramp more) kept)
  unfolding step.of_lamp
  set_lamp_means target ramp more =
      rw (lighting_shown t x)
      (by_test (not (is_lighting x.mode)) (λ e. rw e (keeps held (still (error_line 23 place)))) λ e.
      by_test more (λ f. rw (e, f) (keeps held (still (error_line 17 nowhere)))) λ f.
      rw (e, f, lamp_shown t x, ← turned_shown x.lamp t target ramp, lamp_told_law (turned x.lamp target ramp t))
      (keeps held (anew (lamp_said t place (turned x.lamp target ramp t)) _
      (ap (change.with_lamp (shown t x)) (turned_shown x.lamp t target ramp) ∙ sym (with_lamp_shown t x target ramp)))))

  -- get_LED_LIGHTING
  get_lamp_means : (more : Bool) → StepMeans t (ask_said t connection text place x (ask.GetLamp more)) x x
      (keeping (step.get_lamp (shown t x) place more) kept)
  unfolding step.of_lamp
  get_lamp_means more =
      rw (lighting_shown t x, lamp_shown t x, lamp_told_law x.lamp)
      (by_test (not (is_lighting x.mode)) (λ e. rw e (keeps held (still (error_line 23 place)))) λ e.
      by_test more (λ f. rw (e, f) (keeps held (still (error_line 17 nowhere)))) (λ f. rw (e, f) (keeps held (still (lamp_said t place x.lamp)))))

  -- ---- a sendir
  module _ (f : Fields) (ps : List Pair) (l : Accepts f ps) where
    -- its counts are kept in front
    laid_held : take (2 * length ps) (stored_in kept 0 (counts_of ps)) ≡ counts_of ps
    unfolding counts_in
    laid_held =
        sym (numbers_part (stored_in kept 0 (counts_of ps)) 0 (2 * length ps) (omega (arith, kept_size kept ps size l.code.most, l.code.most)))
        ∙ kept_found kept ps size l.code.most

    -- a command that starts
    starts : StepMeans t answer.Taken x (with_sending x (Connection connection) (some (started f ps t)))
        (by_verdict (shown t x) kept connection place f ps verdict.Start)
    unfolding started
    starts =
        record {
          steps = anew answer.Taken _ (sym (started_shown t connection x f ps l));
          long = kept_size kept ps size l.code.most;
          held = rw (started_runs f ps t l.fields l.code l.offset) laid_held;
        }

    -- a command that renews what is on air
    renews : (s : Transmission) → Fit s t → until t x.sending ≡ some s
        → StepMeans t answer.Taken x (with_sending x x.owner (some (renewed s t)))
        (by_verdict (shown t x) kept connection place f ps verdict.Renew)
    unfolding renewed
    renews s q o =
        keeps (rw (renewed_runs q) (rw o at held))
        (anew answer.Taken (change.renewed (shown t x)) (sym (renewed_shown t connection x f ps s q o)))

    -- a command by what is on air
    by_verdict_law : (o : Option Transmission) → until t x.sending ≡ o → FitFor t o
        → StepMeans t (command_said connection place x f o) x (commanded t connection x f ps o)
        (by_verdict (shown t x) kept connection place f ps (verdict_on t connection x f ps o))
    by_verdict_law none e q = starts
    by_verdict_law (some s) e q =
        by_test (owns x.owner connection)
        (λ a. rw a (by_test (same_command s f ps) (λ b. rw b (renews s q e)) (λ b. rw b starts)))
        (λ a. rw a (keeps held (still (reply_alone (reply.Busy place f.id)))))

    -- a command without a fault
    command_means : StepMeans t (command_said connection place x f (until t x.sending)) x
        (commanded t connection x f ps (until t x.sending)) (command_step (shown t x) kept connection place f ps)
    unfolding command_step
    command_means =
        rw (verdict_shown kept t connection x f ps held)
        (by_verdict_law (until t x.sending) refl (fit_on_air t x.sending fit))

  -- a sendir as it was read
  read_means : (r : CommandReading) → ((f : Fields) (ps : List Pair) → r ≡ sent f ps → Accepts f ps)
      → StepMeans t (sendir_said t connection place x r) x (sent_to t connection x r) (command_read (shown t x) kept connection place r)
  read_means (faulty number found) l = keeps held (still (error_line number place))
  read_means (sent f ps) l = command_means f ps (l f ps refl)

  -- a sendir, with 013
  send_means : (at : ℕ) → StepMeans t (ask_said t connection text place x (ask.Send at)) x
      (asked t connection text x (ask.Send at)) (send_step (shown t x) kept connection text place at)
  unfolding send_step
  send_means at =
      rw (silent_shown t x)
      (by_test (is_silent x.mode) (λ e. rw e (keeps held (still (error_line 13 place))))
      (λ e. rw e (read_means (command_at text at) (command_within text at))))

  -- ---- whatever is asked
  -- the step means what is asked, whatever it is
  pub step_means : (a : Ask) → StepMeans t (ask_said t connection text place x a) x (asked t connection text x a)
      (step_of (shown t x) kept connection text place a)
  step_means (ask.SetMode mode) = mode_means mode
  step_means ask.GetMode =
      rw (mode_shown t x) (keeps held (still (reply_alone (reply.Mode place x.mode))))
  step_means ask.GetContact = get_contact_means
  step_means (ask.Send at) = send_means at
  step_means ask.Stop = stop_means
  step_means (ask.SetLamp target ramp more) = set_lamp_means target ramp more
  step_means (ask.GetLamp more) = get_lamp_means more
