-- What an event makes: the server after it, and the frames that answer it. docs/PORT-OTHER.md: "A piece, a closing and a reading that say
-- nothing give no frame, and a wait that completes nothing gives none."
use Rattle.std.specs.Prelude.{ℕ, ◌≡◌, Option, Some, None, List, [], ◌++◌}
use Rattle.laws.specs.Put.{Put}
use Rattle.hub.specs.Calls.{carriers_of, levels_of}
use Rattle.server.specs.declared.Server.{Server}
use Rattle.pace.specs.declared.Micros.{Micros}
use Rattle.server.specs.Calls.{closed_call, reading_call, wait_call, due_of}
use Rattle.frames.specs.declared.Event.{Event}
use Rattle.frames.specs.declared.Event.TheVariants as event
use Rattle.output.specs.Output.{refusal_frame, answer_frames, wait_frames, carriers_frame, levels_frame, not_due_frame, due_frame}

pub record Outcome : Type 0 where
  pub server : Server
  pub text : List ℕ

abbrev pub outcome : Server → List ℕ → Outcome
outcome s text = record { server = s; text = text }

abbrev pub due_frames : Option Micros → List ℕ
due_frames None = not_due_frame
due_frames (Some n) = due_frame n.0

abbrev pub closed_of : Server → ℕ → Outcome
closed_of s connection =
    let x = closed_call s connection in
    outcome x.server (answer_frames connection x.answer)

abbrev pub reading_of : Server → ℕ → ℕ → Outcome
reading_of s port value =
    let x = reading_call s port value in
    outcome x.server (answer_frames port x.answer)

abbrev pub wait_of : Server → ℕ → ℕ → Outcome
wait_of s connection n =
    let x = wait_call s n in
    outcome x.server (answer_frames connection x.answer ++ wait_frames x.completions)

unfoldable pub event_of : Server → List ℕ → Option Event → Outcome
event_of s store None = outcome s []
event_of s store (Some (event.Closed connection)) = closed_of s connection
event_of s store (Some (event.Reading port value)) = reading_of s port value
event_of s store (Some (event.Wait connection n)) = wait_of s connection n.0
event_of s store (Some event.Carriers) = outcome s (carriers_frame (carriers_of s.hub store))
event_of s store (Some event.Levels) = outcome s (levels_frame (levels_of s.hub))
event_of s store (Some event.Due) = outcome s (due_frames (due_of s))
event_of s store (Some (event.Refused connection number)) = outcome s (refusal_frame connection number)

-- the server that is left, and the frames laid from a place on up to an end
pub record Does (x : Outcome) (before : List ℕ) (at end : ℕ) (left : Server) (after : List ℕ) : Type 0 where
  pub server : left ≡ x.server
  pub put : Put before at x.text after end
