-- What holds of every turn: the state stays sound, and it uses something of the block and no more than there is.
use Prim.Native.Nat.{ℕ, ◌≤◌, ◌<◌}
use mathlib.Core.Path.{◌≡◌, refl}
use mathlib.Core.List.{List}
use native.Mathlib.Omega.{arith}
use lib.ListN.{length, take, get_or, length-take}
use Rattle.std.specs.Prelude.{Option, Some, None}
use Rattle.server.specs.declared.Server.{Server}
use Rattle.server.specs.Record.{SoundServer, all_buffers}
use Rattle.server.proofs.Keeps.{fresh_sound, piece_used, closed_sound, reading_sound, wait_sound}
use Rattle.server.proofs.Keeps as server
use Rattle.frames.specs.declared.Event.{Event}
use Rattle.frames.specs.declared.Event.TheVariants as event
use Rattle.frames.specs.declared.Frame.{Frame}
use Rattle.frames.specs.declared.Frame.TheVariants as frame
use Rattle.frames.specs.Read.{SoundFrame, part_of, read_of}
use Rattle.frames.proofs.Keeps.{passing_sound, read_sound, read_within, read_some}
use Rattle.frames.proofs.Keeps as frames
use Rattle.port.specs.Event.{event_of}
use Rattle.port.specs.Turn.{fresh_state, SoundState, state_of, Whole, Turn, head_move, piece_turn, over_move, leaving, part_turn, turn_of}
use Rattle.port.proofs.Pieces.{piece_some, piece_buffers}

pub fresh_state_law : SoundState fresh_state
fresh_state_law = record { server = fresh_sound; frame = tt }

event_sound : (s : Server) (store : List ℕ) (e : Option Event) → SoundServer s → SoundServer (event_of s store e).server
unfolding event_of
event_sound s store None k = k
event_sound s store (Some (event.Closed connection)) k = closed_sound s connection k
event_sound s store (Some (event.Reading port value)) k = reading_sound s port value k
event_sound s store (Some (event.Wait connection n)) k = wait_sound s n.0 k
event_sound s store (Some event.Carriers) k = k
event_sound s store (Some event.Levels) k = k
event_sound s store (Some event.Due) k = k
event_sound s store (Some (event.Refused connection number)) k = k

-- a turn within a head or a number
module _ (s : Server) (f : Frame) (store block : List ℕ) (k : SoundServer s) (sound : SoundFrame f) (bytes : (i : ℕ) → get_or block i 0 < 256) where
  head_keeps : SoundState (state_of (event_of s store (read_of f block).event).server (read_of f block).frame)
  head_keeps = record { server = event_sound s store (read_of f block).event k; frame = read_sound f block bytes sound }

-- what every turn keeps
pub record Keeps (w : Whole) (block : List ℕ) (x : Turn) : Type 0 where
  pub sound : SoundState x.move.state
  pub within : x.move.used ≤ length block
  pub some : 0 < length block → 0 < x.move.used
  pub long : length x.buffers ≡ length w.buffers

head_turn : (w : Whole) (block : List ℕ) → SoundState w.state → ((i : ℕ) → get_or block i 0 < 256)
    → Keeps w block (leaving w (head_move w.state.server w.state.frame w.store block))
head_turn w block k bytes =
    record {
      sound = head_keeps w.state.server w.state.frame w.store block k.server k.frame bytes;
      within = read_within w.state.frame block;
      some = read_some w.state.frame block;
      long = refl;
    }

-- the front of a block
front_within : (left : ℕ) (block : List ℕ) → length (take left block) ≤ length block
front_within left block = rw length-take (omega arith)

front_some : (left : ℕ) (block : List ℕ) → 0 < left → 0 < length block → 0 < length (take left block)
front_some left block h k = rw length-take (omega arith)

piece_turn_law : (w : Whole) (block : List ℕ) (connection left : ℕ) → SoundServer w.state.server → connection ≤ 7 → 0 < left → length w.buffers ≡ all_buffers
    → Keeps w block (piece_turn w.state.server w.store w.buffers connection left block)
unfolding piece_turn
piece_turn_law w block connection left k c some long =
    let s = w.state.server in
    let used = piece_used s w.store w.buffers connection (take left block) 128 in
    record {
      sound = record { server = server.piece_sound s w.store w.buffers connection (take left block) 128 k; frame = frames.piece_sound connection _ c };
      within = omega (arith, used, front_within left block);
      some = λ h. piece_some s w.store w.buffers connection (take left block) 128 c (omega arith) long (front_some left block some h);
      long = piece_buffers s w.store w.buffers connection (take left block) 128;
    }

over_turn : (w : Whole) (block : List ℕ) (left : ℕ) → SoundServer w.state.server → 0 < left
    → Keeps w block (leaving w (over_move w.state.server left block))
over_turn w block left k some =
    record {
      sound = record { server = k; frame = passing_sound _ };
      within = front_within left block;
      some = front_some left block some;
      long = refl;
    }

by_frame : (f : Frame) (w : Whole) (block : List ℕ) → SoundState w.state → SoundFrame f → length w.buffers ≡ all_buffers
    → ((i : ℕ) → get_or block i 0 < 256) → Keeps w block (part_turn (part_of f) w block)
by_frame frame.Between w block k sound long bytes = head_turn w block k bytes
by_frame (frame.Kind kind) w block k sound long bytes = head_turn w block k bytes
by_frame (frame.Connection kind connection) w block k sound long bytes = head_turn w block k bytes
by_frame (frame.High kind connection high) w block k sound long bytes = head_turn w block k bytes
by_frame (frame.Piece connection left) w block k sound long bytes = piece_turn_law w block connection left k.server sound.0 sound.1 long
by_frame (frame.Reading port) w block k sound long bytes = head_turn w block k bytes
by_frame (frame.Wait connection come number) w block k sound long bytes = head_turn w block k bytes
by_frame (frame.Over left) w block k sound long bytes = over_turn w block left k.server sound

pub turn_keeps : (w : Whole) (block : List ℕ) → SoundState w.state → length w.buffers ≡ all_buffers → ((i : ℕ) → get_or block i 0 < 256)
    → Keeps w block (turn_of w block)
unfolding turn_of
turn_keeps w block k long bytes = by_frame w.state.frame w block k k.frame long bytes
