-- The record of a connector that is known, at a moment; each rule of what is known is the record's rule.
use Prim.Native.Nat.{ℕ, ◌+◌, ◌*◌, ◌-◌, ◌≤◌}
use mathlib.Core.Path.{◌≡◌, refl, sym, ap, ◌∙◌, subst}
use mathlib.Core.Bool.{Bool, true, false, cond, not, ◌&&◌}
use mathlib.Core.List.{List, [], ◌∷◌}
use mathlib.Core.Option.{Option, none, some}
use native.Mathlib.Omega.{arith}
use lib.Dec.{eqb}
use lib.ListN.{length, take}
use borrow.Author.Tests.{eq-eqb, eqb-true}
use Rattle.std.proofs.Common as std
use Rattle.laws.specs.Checks.{holds, is_some}
use Rattle.laws.proofs.Choice.{by_test, not_both, cond_map}
use Rattle.words.specs.declared.Pair.{Pair}
use Rattle.words.specs.declared.Fields.{Fields}
use Rattle.words.specs.Pairs.{counts_of}
use Rattle.words.proofs.Pairs.{counts_length}
use Rattle.request.specs.declared.mode.Mode.{Mode}
use Rattle.request.specs.declared.Place.{Place}
use Rattle.request.specs.Mode.{is_sensor, is_lighting, is_silent}
use Rattle.command.specs.Read.{Accepts}
use Rattle.pace.specs.declared.Passed.TheVariants as passed
use Rattle.pace.specs.Pace.{micros}
use Rattle.meaning.specs.Time.{Transmission, complete, finish, carrier, started, renewed}
use Rattle.meaning.specs.Lamp.{dark, turned}
use Rattle.meaning.specs.Log.{until}
use Rattle.lamp.specs.Lamp as lamp
use Rattle.lamp.specs.Lamp.{percent_of}
use Rattle.lamp.proofs.Meaning.{shown_at, turned_shown, at_rest}
use Rattle.lamp.proofs.Meaning.{passed_shown as lamp_passed}
use Rattle.store.specs.Store.{alike}
use Rattle.store.proofs.Kept.{alike_same}
use Rattle.waveform.specs.Paced.{Fit, pace_at}
use Rattle.waveform.proofs.Paced.{pace_started, pace_renewed, started_runs, renewed_runs, complete_later, passed_is, fit_later}
use Rattle.waveform.proofs.Carried.{carrier_paced}
use Rattle.connector.specs.declared.Owner.TheVariants.{Nobody, Connection}
use Rattle.connector.specs.declared.Run.{Run}
use Rattle.connector.specs.declared.Connector.{Connector}
use Rattle.connector.specs.Record.{unread, idle}
use Rattle.connector.specs.Change as change
use Rattle.connector.specs.Change.{is_running, owns, owner_left, same_mode}
use Rattle.connector.specs.Pass.{passing, passing_run, passing_lamp, after, done_of}
use Rattle.connector.specs.Carrier as carried
use Rattle.steps.specs.declared.send.Verdict.{Verdict}
use Rattle.steps.specs.declared.send.Verdict.TheVariants as verdict
use Rattle.steps.specs.Send as send
use Rattle.steps.specs.Send.{same_fields, run_of}
use Rattle.steps.specs.Step.{also_told}
use Rattle.shown.proofs.Known.{Known, transmits, with_sending, with_lamp, with_mode, same_command, told, with_reading, due_of}

-- ---- the record

-- a transmission at a moment
abbrev pub run_at : Transmission → ℕ → Run
run_at s t = record { fields = s.fields; count = length s.pairs; pace = pace_at s t }

-- a connector that has this on air; an idle one has no owner
abbrev pub shown_as : ℕ → Known → Option Transmission → Connector
shown_as t x none = record { owner = Nobody; mode = x.mode; contact = x.contact; sending = idle; lamp = shown_at x.lamp t }
shown_as t x (some s) =
    record { owner = x.owner; mode = x.mode; contact = x.contact; sending = std.Some (run_at s t); lamp = shown_at x.lamp t }

-- a connector at a moment
abbrev pub shown : ℕ → Known → Connector
shown t x = shown_as t x (until t x.sending)

-- the transmission of a connector, if there is one, is fit at a moment
abbrev pub FitFor : ℕ → Option Transmission → Type 0
FitFor t none = Unit
FitFor t (some s) = Fit s t

-- time passes
pub fit_after : (t u : ℕ) (o : Option Transmission) → t ≤ u → FitFor t o → FitFor u o
fit_after t u none h g = tt
fit_after t u (some s) h g = let e : t + (u - t) ≡ u = omega arith in subst (Fit s) e (fit_later g (u - t))

-- and its counts are kept
abbrev pub HeldIn : List ℕ → Option Transmission → Type 0
HeldIn kept none = Unit
HeldIn kept (some s) = take (2 * length s.pairs) kept ≡ counts_of s.pairs

-- what is on air is fit
pub fit_on_air : (t : ℕ) (o : Option Transmission) → FitFor t o → FitFor t (until t o)
fit_on_air t none g = tt
fit_on_air t (some s) g = go (complete s t)
  where
    go : (v : Bool) → FitFor t (cond v none (some s))
    go true = tt
    go false = g

-- what is on air is not complete
pub runs_on_air : (t : ℕ) (o : Option Transmission) (s : Transmission) → until t o ≡ some s → complete s t ≡ false
runs_on_air t none s e = cc
runs_on_air t (some r) s e = go (complete r t) refl e
  where
    go : (v : Bool) → complete r t ≡ v → cond v none (some r) ≡ some s → complete s t ≡ false
    go true f e = cc
    go false f e = let same : r ≡ s = cc in rw same at f

-- ---- what does not change with time
module _ (t : ℕ) (x : Known) where
  -- the mode, whatever is on air
  mode_as : (o : Option Transmission) → (shown_as t x o).mode ≡ x.mode
  mode_as none = refl
  mode_as (some s) = refl

  -- the mode is the record's
  pub mode_shown : (shown t x).mode ≡ x.mode
  mode_shown = mode_as (until t x.sending)

  -- so is whether it is SENSOR
  pub sensor_shown : is_sensor (shown t x).mode ≡ is_sensor x.mode
  sensor_shown = ap is_sensor mode_shown

  -- whether it is a lamp, and whether it is silent
  pub lighting_shown : is_lighting (shown t x).mode ≡ is_lighting x.mode
  lighting_shown = ap is_lighting mode_shown

  pub silent_shown : is_silent (shown t x).mode ≡ is_silent x.mode
  silent_shown = ap is_silent mode_shown

  -- the lamp, whatever is on air
  lamp_as : (o : Option Transmission) → (shown_as t x o).lamp ≡ shown_at x.lamp t
  lamp_as none = refl
  lamp_as (some s) = refl

  -- the lamp is the record's
  pub lamp_shown : (shown t x).lamp ≡ shown_at x.lamp t
  lamp_shown = lamp_as (until t x.sending)

  -- the contact, whatever is on air
  contact_as : (o : Option Transmission) → (shown_as t x o).contact ≡ x.contact
  contact_as none = refl
  contact_as (some s) = refl

  -- the contact is the record's
  pub contact_shown : (shown t x).contact ≡ x.contact
  contact_shown = contact_as (until t x.sending)

  -- whether something runs, by what is on air
  running_as : (o : Option Transmission) → is_running (shown_as t x o).sending ≡ is_some o
  running_as none = refl
  running_as (some s) = refl

  -- the record runs where something is on air
  pub running_shown : is_running (shown t x).sending ≡ transmits t x
  running_shown = running_as (until t x.sending)

-- ---- a mode, a reading, a stopir, a closing
-- a mode set while nothing is on air
pub with_mode_shown : (t : ℕ) (x : Known) (mode : Mode) → transmits t x ≡ false
    → shown t (with_mode x mode) ≡ change.with_mode (shown t x) mode
unfolding change.with_mode shown_at
with_mode_shown t x mode e =
    cond_map (shown t) (same_mode x.mode mode) x (record { owner = x.owner; mode = mode; contact = unread; sending = x.sending; lamp = dark })
    ∙ go (until t x.sending) e
  where
    go : (o : Option Transmission) → is_some o ≡ false
        → cond (same_mode x.mode mode) (shown_as t x o)
        (shown_as t (record { owner = x.owner; mode = mode; contact = unread; sending = x.sending; lamp = dark }) o)
        ≡ change.with_mode (shown_as t x o) mode
    go none e = refl
    go (some s) e = not_both refl e

-- the contact read
pub with_reading_shown : (t : ℕ) (x : Known) (value : ℕ) → shown t (with_reading x value) ≡ change.with_reading (shown t x) value
with_reading_shown t x value = go (until t x.sending)
  where
    go : (o : Option Transmission) → shown_as t (with_reading x value) o ≡ change.with_reading (shown_as t x o) value
    go none = refl
    go (some s) = refl

-- the lamp turned
pub with_lamp_shown : (t : ℕ) (x : Known) (target ramp : ℕ)
    → shown t (with_lamp x (turned x.lamp target ramp t)) ≡ change.with_lamp (shown t x) (lamp.turned (shown_at x.lamp t) target ramp)
with_lamp_shown t x target ramp = go (until t x.sending)
  where
    go : (o : Option Transmission)
        → shown_as t (with_lamp x (turned x.lamp target ramp t)) o
        ≡ change.with_lamp (shown_as t x o) (lamp.turned (shown_at x.lamp t) target ramp)
    go none = rw (turned_shown x.lamp t target ramp)
    go (some s) = rw (turned_shown x.lamp t target ramp)

-- all stopped
pub stopped_shown : (t : ℕ) (x : Known) → shown t (with_sending x Nobody none) ≡ change.stopped (shown t x)
stopped_shown t x = go (until t x.sending)
  where
    go : (o : Option Transmission) → shown_as t (with_sending x Nobody none) none ≡ change.stopped (shown_as t x o)
    go none = refl
    go (some s) = refl

-- who is told of a halt: nobody where nothing is on air
pub told_shown : (t connection : ℕ) (x : Known) → also_told (shown t x).owner connection ≡ told connection x (until t x.sending)
unfolding also_told
told_shown t connection x = go (until t x.sending)
  where
    go : (o : Option Transmission) → also_told (shown_as t x o).owner connection ≡ told connection x o
    go none = refl
    go (some s) = refl

-- the owner's connection closed
pub closed_shown : (t connection : ℕ) (x : Known)
    → shown t (with_sending x (owner_left x.owner connection) x.sending) ≡ change.disowned (shown t x) connection
unfolding owner_left
closed_shown t connection x = go (until t x.sending)
  where
    go : (o : Option Transmission)
        → shown_as t (with_sending x (owner_left x.owner connection) x.sending) o ≡ change.disowned (shown_as t x o) connection
    go none = refl
    go (some s) = refl

-- ---- a command
module _ (t connection : ℕ) (x : Known) (f : Fields) (ps : List Pair) where
  -- a command that starts
  pub started_shown : Accepts f ps
      → shown t (with_sending x (Connection connection) (some (started f ps t)))
      ≡ change.with_sending (shown t x) (Connection connection) (std.Some (run_of f ps))
  unfolding run_of started
  started_shown l = rw (started_runs f ps t l.fields l.code l.offset) (go (until t x.sending))
    where
      go : (o : Option Transmission)
          → shown_as t (with_sending x (Connection connection) (some (started f ps t))) (some (started f ps t))
          ≡ change.with_sending (shown_as t x o) (Connection connection) (std.Some (run_of f ps))
      go none = rw (pace_started f ps t)
      go (some s) = rw (pace_started f ps t)

  -- a command that renews what is on air
  pub renewed_shown : (s : Transmission) → Fit s t → until t x.sending ≡ some s
      → shown t (with_sending x x.owner (some (renewed s t))) ≡ change.renewed (shown t x)
  unfolding renewed
  renewed_shown s g e = rw (renewed_runs g, e) (rw (pace_renewed g))

  -- the verdict on it
  abbrev pub verdict_on : Option Transmission → Verdict
  verdict_on none = verdict.Start
  verdict_on (some s) =
      cond (not (owns x.owner connection)) verdict.Busy (cond (same_command s f ps) verdict.Renew verdict.Start)

-- with its counts kept, the same command is the same
pub same_shown : (kept : List ℕ) (t : ℕ) (s : Transmission) (f : Fields) (ps : List Pair) → HeldIn kept (some s)
    → send.same_command kept (run_at s t) f ps ≡ same_command s f ps
unfolding send.same_command same_command
same_shown kept t s f ps held =
    go (same_fields s.fields f) (eqb (length s.pairs) (length ps)) refl
  where
    go : (v w : Bool) → eqb (length s.pairs) (length ps) ≡ w
        → cond (not v) false (cond (not w) false (alike (take (2 * length ps) kept) (counts_of ps)))
        ≡ (v && alike (counts_of s.pairs) (counts_of ps))
    go false w e = refl
    go true true e = rw (← eqb-true (length s.pairs) (length ps) e, held)
    go true false e =
        by_test (alike (counts_of s.pairs) (counts_of ps))
        (λ h.
        let long = ap length (alike_same (counts_of s.pairs) (counts_of ps) h) in
        not_both (eq-eqb (length s.pairs) (length ps) (omega (arith, long, counts_length s.pairs, counts_length ps))) e)
        (λ h. sym h)

-- the record's verdict on a command is that of what is known
pub verdict_shown : (kept : List ℕ) (t connection : ℕ) (x : Known) (f : Fields) (ps : List Pair) → HeldIn kept (until t x.sending)
    → send.verdict_of (shown t x) kept connection f ps ≡ verdict_on t connection x f ps (until t x.sending)
verdict_shown kept t connection x f ps = go (until t x.sending)
  where
    go : (o : Option Transmission) → HeldIn kept o
        → send.verdict_of (shown_as t x o) kept connection f ps ≡ verdict_on t connection x f ps o
    go none h = refl
    go (some s) h = rw (same_shown kept t s f ps h)

-- ---- a wait

-- What is fit at a moment: a transmission, and a lamp that got its target by then and is dark while something is on air.
pub record Fits (t : ℕ) (x : Known) : Type 0 where
  pub sends : FitFor t x.sending
  pub begun : x.lamp.since ≤ t
  pub unlit : (s : Transmission) → until t x.sending ≡ some s → x.lamp ≡ dark

-- what is on air later is on air now
on_air_before : (t n : ℕ) (o : Option Transmission) → FitFor t o → (s : Transmission) → until (t + n) o ≡ some s → until t o ≡ some s
on_air_before t n none g s e = e
on_air_before t n (some r) g s e =
    by_test (complete r t) (λ f. absurd (none_some (sym (rw (complete_later g n f)) ∙ e))) (λ f. rw f (same r e))
  where
    none_some : none ≡ some s → ⊥
    none_some e = let z : ◌≡◌ {A = ℕ} 0 1 = cc in omega arith

    same : (r : Transmission) → until (t + n) (some r) ≡ some s → some r ≡ some s
    same r e = by_test (complete r (t + n)) (λ f. absurd (none_some (sym (rw f) ∙ e))) (λ f. sym (rw f) ∙ e)

-- a wait leaves all fit
pub fits_later : {t : ℕ} {x : Known} (n : ℕ) → Fits t x → Fits (t + n) x
fits_later {t} {x} n g =
    record {
      sends = fit_after t (t + n) x.sending (omega arith) g.sends;
      begun = omega (arith, g.begun);
      unlit = λ s e. g.unlit s (on_air_before t n x.sending g.sends s e);
    }

-- where nothing is transmitted the lamp goes on, and nothing is complete
lit_after : (c : Connector) (n : ℕ) → after c (passing_lamp c n) ≡ change.with_lamp c (lamp.passed c.lamp n)
unfolding passing_lamp
lit_after c n = by_test (eqb c.lamp.gap.0 0) (λ e. rw e (ap (change.with_lamp c) (sym (at_rest c.lamp n e)))) (λ e. rw e)

lit_done : (c : Connector) (n : ℕ) → done_of (passing_lamp c n) ≡ []
unfolding passing_lamp
lit_done c n = by_test (eqb c.lamp.gap.0 0) (λ e. rw e) (λ e. rw e)

module _ (t n : ℕ) (place : Place) (x : Known) where
  -- n microseconds later the record shows this, and completes what is due
  abbrev Passes : Option Transmission → Option Transmission → Type 0
  Passes o p =
      (after (shown_as t x o) (passing (shown_as t x o) place n) ≡ shown_as (t + n) x p)
      × (done_of (passing (shown_as t x o) place n) ≡ due_of t n place x o)

  -- so of a transmission that runs, with the lamp dark
  runs : (s : Transmission) → Fit s t → complete s t ≡ false → shown_at x.lamp t ≡ shown_at x.lamp (t + n)
      → Passes (some s) (until (t + n) (some s))
  runs s g e same = rw (passed_is g e n) (by (complete s (t + n)))
    where
      by : (v : Bool)
          → (after (shown_as t x (some s)) (passing_run (shown_as t x (some s)) place (run_at s t)
          (cond v (passed.Complete (micros (finish s - t))) (passed.Running (pace_at s (t + n)))))
          ≡ shown_as (t + n) x (cond v none (some s)))
          × (done_of (passing_run (shown_as t x (some s)) place (run_at s t)
          (cond v (passed.Complete (micros (finish s - t))) (passed.Running (pace_at s (t + n)))))
          ≡ cond v (record { owner = x.owner; moment = micros (finish s - t); place = place; id = s.fields.id } ∷ []) [])
      by true = (rw same, refl)
      by false = (rw same, refl)

  -- so of a lamp
  lights : x.lamp.since ≤ t → Passes none none
  lights begun =
      (lit_after (shown_as t x none) n ∙ ap (change.with_lamp (shown_as t x none)) (lamp_passed x.lamp t n begun), lit_done (shown_as t x none) n)

  -- a dark one shows the same at any moment
  dark_same : x.lamp ≡ dark → shown_at x.lamp t ≡ shown_at x.lamp (t + n)
  unfolding shown_at
  dark_same e = rw e

  -- so of whatever was started last
  pub passed_shown : Fits t x → Passes (until t x.sending) (until (t + n) x.sending)
  passed_shown f = go x.sending f.sends f.unlit
    where
      go : (o : Option Transmission) → FitFor t o → ((s : Transmission) → until t o ≡ some s → x.lamp ≡ dark)
          → Passes (until t o) (until (t + n) o)
      go none g u = lights f.begun
      go (some s) g u = by (complete s t) refl
        where
          by : (v : Bool) → complete s t ≡ v → Passes (cond v none (some s)) (until (t + n) (some s))
          by true e = rw (complete_later g n e) (lights f.begun)
          by false e = runs s g e (dark_same (u s (rw e)))

-- ---- the carrier
-- the record's carrier is the transmission's
pub carrier_shown : (kept : List ℕ) (t : ℕ) (x : Known) → FitFor t x.sending → HeldIn kept (until t x.sending)
    → carried.carrier_of kept (shown t x).sending ≡ holds (λ s. carrier s t) (until t x.sending)
carrier_shown kept t x g h = go (until t x.sending) (fit_on_air t x.sending g) (runs_on_air t x.sending) h
  where
    go : (o : Option Transmission) → FitFor t o → ((s : Transmission) → o ≡ some s → complete s t ≡ false) → HeldIn kept o
        → carried.carrier_of kept (shown_as t x o).sending ≡ holds (λ s. carrier s t) o
    go none g r h = refl
    go (some s) g r h = rw h (carrier_paced g (r s refl))
