-- A line of the script keeps the hub sound; what a request changes is of a connector or relay that there is.
use Prim.Native.Nat.{ℕ}
use mathlib.Core.Bool.{Bool}
use mathlib.Core.List.{List}
use Rattle.laws.proofs.Choice.{cond_case}
use Rattle.hub.specs.declared.Hub.{Hub}
use Rattle.hub.specs.Record.{SoundHub, InRange, applied}
use Rattle.hub.specs.Line.{Outcome}
use Rattle.hub.proofs.Keeps.{line_in_range, line_sound, overlong_in_range, overlong_sound, reading_sound, closed_sound, wait_sound}
use Rattle.script.specs.declared.turn.Changed.{Changed}
use Rattle.script.specs.declared.turn.Passed.{Passed}
use Rattle.script.specs.Turn.{line_outcome, Made, reading_made, closing_made, waiting_made, Changes, Makes}

module _ (hub : Hub) (store : List ℕ) (connection : ℕ) (request : List ℕ) (more : Bool) where
  pub outcome_in_range : InRange (line_outcome hub store connection request more).decided.change
  unfolding line_outcome
  outcome_in_range =
      cond_case (λ (o : Outcome). InRange o.decided.change) more _ _
      (λ _. overlong_in_range connection 128) (λ _. line_in_range hub store connection request 128)

  pub outcome_sound : SoundHub hub → SoundHub (applied hub (line_outcome hub store connection request more).decided.change)
  unfolding line_outcome
  outcome_sound sound =
      cond_case (λ (o : Outcome). SoundHub (applied hub o.decided.change)) more _ _
      (λ _. overlong_sound hub connection 128 sound) (λ _. line_sound hub store connection request 128 sound)

module _ (hub : Hub) (sound : SoundHub hub) where
  pub reading_keeps : (port value : ℕ) → SoundHub (reading_made hub port value).hub
  unfolding reading_made
  reading_keeps port value = reading_sound hub port value sound

  pub closing_keeps : (connection : ℕ) → SoundHub (closing_made hub connection).hub
  unfolding closing_made
  closing_keeps connection = closed_sound hub connection sound

  pub waiting_keeps : (n : ℕ) → SoundHub (waiting_made hub n).hub
  unfolding waiting_made
  waiting_keeps n = wait_sound hub n sound

-- ---- the same of what a turn gives
module _ (hub : Hub) (store : List ℕ) (connection : ℕ) (request : List ℕ) (more : Bool) {before : List ℕ} {used : ℕ} {r : Changed} {after now : List ℕ}
    (c : Changes connection (line_outcome hub store connection request more) before used r after now) where
  pub changed_in_range : InRange r.change
  changed_in_range = rw c.change (outcome_in_range hub store connection request more)

  pub changed_sound : SoundHub hub → SoundHub (applied hub r.change)
  changed_sound sound = rw c.change (outcome_sound hub store connection request more sound)

pub made_sound : {m : Made} {before : List ℕ} {used : ℕ} {r : Passed} {after : List ℕ} → Makes m before used r after → SoundHub m.hub → SoundHub r.hub
made_sound c sound = rw c.hub sound
