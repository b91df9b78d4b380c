-- What the port writes for an input: the frames that answer it, and what there is then, from between two frames to between two frames.
use Rattle.std.specs.Prelude.{ℕ, zero, suc, Some, List, [], ◌∷◌, ◌++◌, length, drop}
use Rattle.pace.specs.Pace.{micros}
use Rattle.server.specs.declared.Server.{Server}
use Rattle.server.specs.Piece.{piece_step}
use Rattle.frames.specs.declared.Event.{Event}
use Rattle.frames.specs.declared.Event.TheVariants as event
use Rattle.frames.specs.declared.Frame.TheVariants.{Between}
use Rattle.frames.specs.Layout.{Input, piece, closed, reading, wait, carriers, levels, due}
use Rattle.output.specs.Output.{answer_frames, change_frames}
use Rattle.port.specs.Event.{event_of}
use Rattle.port.specs.Turn.{state_of, Whole, whole}
use Rattle.port.specs.Bytes.{Written, writes, onward}

abbrev pub between : Server → List ℕ → List ℕ → Whole
between s store buffers = whole (state_of s Between) store buffers

abbrev pub event_written : Event → Whole → Written
event_written e w =
    let x = event_of w.state.server w.store (Some e) in
    writes x.text (between x.server w.store w.buffers)

-- A piece: calls, each on what the one before has left of it, until nothing is left. Each uses a byte at least, so that as many calls as the
-- piece has bytes are enough.
abbrev pub piece_written : ℕ → ℕ → List ℕ → Whole → Written
piece_written connection zero s w = writes [] w
piece_written connection (suc calls) [] w = writes [] w
piece_written connection (suc calls) (b ∷ s) w =
    let x = piece_step w.state.server w.store w.buffers connection (b ∷ s) 128 in
    onward
    (writes (answer_frames connection x.served.answer ++ change_frames connection x.served.change)
    (between x.served.server x.store x.buffers))
    (piece_written connection calls (drop x.served.used (b ∷ s)))

abbrev pub input_written : Input → Whole → Written
input_written (piece connection s) w = piece_written connection (length s) s w
input_written (closed connection) w = event_written (event.Closed connection) w
input_written (reading port value) w = event_written (event.Reading port value) w
input_written (wait any n) w = event_written (event.Wait any (micros n)) w
input_written (carriers any) w = event_written event.Carriers w
input_written (levels any) w = event_written event.Levels w
input_written (due any) w = event_written event.Due w

-- inputs, one after the other
abbrev pub inputs_written : List Input → Whole → Written
inputs_written [] w = writes [] w
inputs_written (i ∷ l) w = onward (input_written i w) (inputs_written l)
