-- A turn: the next bytes of a block, as many as belong together. docs/PORT-OTHER.md: "a piece's bytes are served as they come, all other
-- frames when they are whole." "A line is answered at its CR".
use Rattle.std.specs.Prelude.{ℕ, ◌-◌, ◌≡◌, List, [], ◌++◌, length, take}
use Rattle.laws.specs.Put.{Put}
use Rattle.server.specs.declared.Server.{Server}
use Rattle.server.specs.Record.{fresh_server, SoundServer}
use Rattle.server.specs.Piece.{PieceStep, piece_step}
use Rattle.frames.specs.declared.Frame.{Frame}
use Rattle.frames.specs.declared.Frame.TheVariants.{Between}
use Rattle.frames.specs.declared.Part.{Part}
use Rattle.frames.specs.declared.Part.TheVariants as part
use Rattle.frames.specs.Read.{SoundFrame, piece_of, passing, part_of, read_of}
use Rattle.output.specs.Output.{answer_frames, change_frames}
use Rattle.port.specs.declared.turn.State.{State}
use Rattle.port.specs.declared.turn.Turned.{Turned}
use Rattle.port.specs.Event.{event_of}

abbrev pub state_of : Server → Frame → State
state_of s f = record { server = s; frame = f }

-- "Where the input ends the program ends": it begins between two frames
abbrev pub fresh_state : State
fresh_state = state_of fresh_server Between

-- what every state has that a fresh one and turns gave
pub record SoundState (s : State) : Type 0 where
  pub server : SoundServer s.server
  pub frame : SoundFrame s.frame

-- the state with what is lent to it
pub record Whole : Type 0 where
  pub state : State
  pub store : List ℕ
  pub buffers : List ℕ

abbrev pub whole : State → List ℕ → List ℕ → Whole
whole state store buffers = record { state = state; store = store; buffers = buffers }

-- what bytes make: the state after them, how many they were, and the frames that answer them
pub record Move : Type 0 where
  pub state : State
  pub used : ℕ
  pub text : List ℕ

-- and what is lent after them
pub record Turn : Type 0 where
  pub move : Move
  pub store : List ℕ
  pub buffers : List ℕ

abbrev pub after : Turn → Whole
after x = whole x.move.state x.store x.buffers

-- the bytes of heads and numbers, until an event is complete, which is answered
abbrev pub head_move : Server → Frame → List ℕ → List ℕ → Move
head_move s f store block =
    let x = read_of f block in
    let y = event_of s store x.event in
    record { state = state_of y.server x.frame; used = x.used; text = y.text }

-- the bytes of a piece up to its next CR, as far as they are there; a reply has room in 128 bytes
abbrev pub served : ℕ → ℕ → PieceStep → Turn
served connection left x =
    record {
      move = record {
        state = state_of x.served.server (piece_of connection (left - x.served.used));
        used = x.served.used;
        text = answer_frames connection x.served.answer ++ change_frames connection x.served.change;
      };
      store = x.store;
      buffers = x.buffers;
    }

unfoldable pub piece_turn : Server → List ℕ → List ℕ → ℕ → ℕ → List ℕ → Turn
piece_turn s store buffers connection left block =
    served connection left (piece_step s store buffers connection (take left block) 128)

-- bytes that are passed over
abbrev pub over_move : Server → ℕ → List ℕ → Move
over_move s left block =
    let used = length (take left block) in
    record { state = state_of s (passing (left - used)); used = used; text = [] }

-- nothing that is lent changes
abbrev pub leaving : Whole → Move → Turn
leaving w x = record { move = x; store = w.store; buffers = w.buffers }

abbrev pub part_turn : Part → Whole → List ℕ → Turn
part_turn part.Head w block = leaving w (head_move w.state.server w.state.frame w.store block)
part_turn (part.Piece connection left) w block = piece_turn w.state.server w.store w.buffers connection left block
part_turn (part.Over left) w block = leaving w (over_move w.state.server left block)

unfoldable pub turn_of : Whole → List ℕ → Turn
turn_of w block = part_turn (part_of w.state.frame) w block

-- the result, the state that is left, and the frames laid from a place on
pub record Moves (x : Move) (before : List ℕ) (at : ℕ) (r : Turned) (left : State) (out : List ℕ) : Type 0 where
  pub state : left ≡ x.state
  pub used : r.used ≡ x.used
  pub put : Put before at x.text out r.end

-- and what else is lent
pub record Turns (x : Turn) (before : List ℕ) (at : ℕ) (r : Turned) (left : State) (store buffers out : List ℕ) : Type 0 where
  pub moves : Moves x.move before at r left out
  pub kept : store ≡ x.store
  pub joined : buffers ≡ x.buffers
