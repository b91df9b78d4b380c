-- Soundness of a connector: a fresh one has it, and whatever becomes of it keeps it.
use Prim.Native.Nat.{ℕ, ◌+◌, ◌*◌}
use mathlib.Core.Path.{◌≡◌, refl}
use mathlib.Core.Bool.{not}
use borrow.Author.Tests.{leb-false, ltb-false}
use lib.Dec.{leb, ltb, eqb}
use Rattle.std.proofs.Common.{Option, Some, None}
use Rattle.laws.proofs.Choice.{cond_case}
use Rattle.pace.specs.declared.Pace.{Pace}
use Rattle.pace.specs.declared.Passed.{Passed}
use Rattle.pace.specs.Pace.{SoundPace, end_of, passed}
use Rattle.pace.proofs.Keeps.{renewed_sound, moved_sound}
use Rattle.lamp.specs.declared.Lamp.{Lamp}
use Rattle.lamp.specs.Lamp.{SoundLamp}
use Rattle.lamp.proofs.Keeps.{dark_sound, passed_sound}
use Rattle.request.specs.declared.mode.Mode.{Mode}
use Rattle.request.specs.declared.Place.{Place}
use Rattle.request.specs.Mode.{is_sensor}
use Rattle.connector.specs.declared.Owner.{Owner}
use Rattle.connector.specs.declared.Owner.TheVariants.{Nobody}
use Rattle.connector.specs.declared.Run.{Run}
use Rattle.connector.specs.declared.Connector.{Connector}
use Rattle.connector.specs.declared.Stepped.{Stepped}
use Rattle.connector.specs.declared.pass.Passing.{Passing}
use Rattle.connector.specs.Record.{fresh_connector, SoundRun, SoundSending, SoundConnector, SoundChange, changed}
use Rattle.connector.specs.Change.{same_mode, with_mode, with_lamp, renewed_sending, renewed, stopped, owns, owner_left, disowned}
use Rattle.connector.specs.Reading.{reading_step}
use Rattle.connector.specs.Pass.{paced_run, passing_run, passing_lamp, passing_sending, passing, after}

-- a connector that wakes is sound
pub fresh_connector_law : (mode : Mode) → SoundConnector (fresh_connector mode)
fresh_connector_law mode = record { sends = refl; reads = tt; lights = dark_sound }

-- what a change makes of a sound connector
pub changed_sound : (c : Connector) (change : Option Connector) → SoundConnector c → SoundChange change → SoundConnector (changed c change)
changed_sound c None k s = k
changed_sound c (Some next) k s = s

-- ---- the records that it may become

-- in another mode
pub mode_connector : (c : Connector) (mode : Mode) → SoundConnector c → SoundConnector (with_mode c mode)
unfolding with_mode
mode_connector c mode k =
    cond_case SoundConnector (same_mode c.mode mode) c _ (λ _. k) (λ _. record { sends = k.sends; reads = tt; lights = dark_sound })

-- idle, with no owner
pub stopped_connector : {c : Connector} → SoundConnector c → SoundConnector (stopped c)
stopped_connector k = record { sends = refl; reads = k.reads; lights = k.lights }

-- what is sent is sound whoever is left to own it
disowned_sends : (sending : Option Run) (owner : Owner) (connection : ℕ) → SoundSending sending owner
    → SoundSending sending (owner_left owner connection)
unfolding owner_left
disowned_sends None owner connection s =
    cond_case (λ (o : Owner). o ≡ Nobody) (owns owner connection) Nobody owner (λ _. refl) (λ _. s)
disowned_sends (Some r) owner connection s = s

-- without an owner who has left
pub disowned_connector : (c : Connector) (connection : ℕ) → SoundConnector c → SoundConnector (disowned c connection)
disowned_connector c connection k =
    record { sends = disowned_sends c.sending c.owner connection k.sends; reads = k.reads; lights = k.lights }

-- the same transmission, further on
paced_run_law : {r : Run} {p : Pace} → SoundRun r → SoundPace p → SoundRun (paced_run r p)
paced_run_law s paced =
    record {
      paced = paced;
      freq_low = s.freq_low;
      freq_high = s.freq_high;
      repeat_low = s.repeat_low;
      repeat_high = s.repeat_high;
      few = s.few;
    }

-- with its transmission renewed
pub renewed_connector : (c : Connector) → SoundConnector c → SoundConnector (renewed c)
renewed_connector c k = go c.sending k.sends
  where
    go : (sending : Option Run) → SoundSending sending c.owner → SoundConnector (renewed_sending c sending)
    go None s = k
    go (Some r) s =
        record {
          sends = paced_run_law s (renewed_sound s.paced s.repeat_low s.repeat_high);
          reads = k.reads;
          lights = k.lights;
        }

-- with another lamp
pub lamp_connector : {c : Connector} {x : Lamp} → SoundConnector c → SoundLamp x → SoundConnector (with_lamp c x)
lamp_connector k s = record { sends = k.sends; reads = k.reads; lights = s }

-- ---- time

lit_connector : (c : Connector) (n : ℕ) → SoundConnector c → SoundConnector (after c (passing_lamp c n))
unfolding passing_lamp
lit_connector c n k =
    cond_case (λ (x : Passing). SoundConnector (after c x)) (eqb c.lamp.gap.0 0) _ _ (λ _. k)
    (λ _. lamp_connector k (passed_sound n k.lights))

-- some microseconds later
pub passed_connector : (c : Connector) (place : Place) (n : ℕ) → SoundConnector c → SoundConnector (after c (passing c place n))
unfolding passed
passed_connector c place n k = go c.sending k.sends
  where
    go : (sending : Option Run) → SoundSending sending c.owner → SoundConnector (after c (passing_sending c place n sending))
    go None s = lit_connector c n k
    go (Some r) s =
        cond_case (λ (x : Passed). SoundConnector (after c (passing_run c place r x)))
        (leb (end_of r.pace) (r.pace.at.0 + n * r.fields.freq)) _ _
        (λ _. stopped_connector k)
        (λ e.
        record {
          sends = paced_run_law s (moved_sound r.fields.freq n s.paced (leb-false _ _ e));
          reads = k.reads;
          lights = k.lights;
        })

-- ---- a contact reading

-- what a reading makes of it
pub reading_sound : (c : Connector) (value : ℕ) → SoundConnector c → SoundChange (reading_step c value).change
unfolding reading_step
reading_sound c value k =
    let P : Stepped → Type 0 = λ s. SoundChange s.change in
    cond_case P (not (is_sensor c.mode)) _ _ (λ _. tt) λ _.
    cond_case P (ltb 1 value) _ _ (λ _. tt) λ e.
    record { sends = k.sends; reads = ltb-false 1 value e; lights = k.lights }
