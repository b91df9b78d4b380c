-- What a run of bytes says, fed to a frame in hand one by one.
use Rattle.std.specs.Prelude.{ℕ, Option, Some, None, List, [], ◌∷◌, ◌++◌}
use Rattle.frames.specs.declared.Frame.{Frame}
use Rattle.frames.specs.declared.Frame.TheVariants as frame
use Rattle.frames.specs.declared.Event.{Event}
use Rattle.frames.specs.Layout.{Said, stream, event as says}
use Rattle.frames.specs.Read.{next_step}

abbrev pub told : Option Event → List Said
told None = []
told (Some e) = says e ∷ []

-- a byte: within a piece it is one of the connection's stream; elsewhere it says what it completes
abbrev pub said_at : Frame → ℕ → List Said
said_at frame.Between b = []
said_at (frame.Kind kind) b = []
said_at (frame.Connection kind connection) b = []
said_at (frame.High kind connection high) b = told (next_step (frame.High kind connection high) b).event
said_at (frame.Piece connection left) b = stream connection b ∷ []
said_at (frame.Reading port) b = told (next_step (frame.Reading port) b).event
said_at (frame.Wait connection come number) b = told (next_step (frame.Wait connection come number) b).event
said_at (frame.Over left) b = []

-- all that bytes say, and the frame in hand behind them
pub record Heard : Type 0 where
  pub says : List Said
  pub frame : Frame

abbrev pub heard : Frame → List ℕ → Heard
heard f [] = record { says = []; frame = f }
heard f (b ∷ s) =
    let rest = heard (next_step f b).frame s in
    record { says = said_at f b ++ rest.says; frame = rest.frame }
