-- Soundness of the server: a fresh one has it, and every event keeps it; a refused piece changes nothing, and what a piece uses is within it.
use Prim.Native.Nat.{ℕ, ◌≤◌, ◌<◌}
use mathlib.Core.Path.{◌≡◌}
use mathlib.Core.Bool.{not}
use mathlib.Core.List.{List}
use native.Mathlib.Omega.{arith}
use borrow.Author.Tests.{ltb-false, eqb-true, not-false}
use lib.Dec.{ltb, eqb}
use lib.ListN.{length, take, get_or-replicate}
use Rattle.laws.proofs.Choice.{cond_case}
use Rattle.laws.proofs.Parts.{stored_at}
use Rattle.lines.specs.declared.Found.{Found}
use Rattle.lines.specs.declared.Found.TheVariants as found
use Rattle.lines.specs.Take.{fresh_assembler, SoundAssembler, joined_step}
use Rattle.lines.proofs.Keeps.{joined_sound, used_within, used_some}
use Rattle.lines.proofs.Keeps as lines
use Rattle.hub.specs.declared.Hub.{Hub}
use Rattle.hub.specs.Record.{applied, SoundHub}
use Rattle.hub.proofs.Keeps.{line_sound, overlong_sound}
use Rattle.hub.proofs.Keeps as hub
use Rattle.server.specs.declared.Server.{Server}
use Rattle.server.specs.declared.Served.{Served}
use Rattle.server.specs.Record.{connections, all_buffers, fresh_server, assembler_at, buffer_at, SoundServer}
use Rattle.server.specs.Piece.{PieceStep, refusing, found_step, served_step, piece_step}
use Rattle.server.specs.Calls.{closed_call, reading_call, wait_call}

-- a fresh server is sound
pub fresh_sound : SoundServer fresh_server
fresh_sound =
    record {
      hub = hub.fresh_sound;
      each = λ connection less. rw (get_or-replicate connections connection fresh_assembler fresh_assembler less) lines.fresh_sound;
    }

-- ---- a piece

-- what the hub makes of what was found
found_sound : (h : Hub) (store : List ℕ) (connection room : ℕ) (buffer : List ℕ) (f : Found) → SoundHub h
    → SoundHub (applied h (found_step h store connection room buffer f).decided.change)
found_sound h store connection room buffer found.Nothing s = s
found_sound h store connection room buffer (found.Line size) s = line_sound h store connection (take size buffer) room s
found_sound h store connection room buffer found.Overlong s = overlong_sound h connection room s

module _ (s : Server) (store buffers : List ℕ) (connection : ℕ) (piece : List ℕ) (room : ℕ) where
  -- what holds of the server as it was, and of what a piece of one of its connections makes, holds of a piece's
  pub piece_case : (P : PieceStep → Type 0)
      → ((number : ℕ) → P (refusing s number store buffers))
      → (connection ≤ 7 → length buffers ≡ all_buffers → P (served_step s store buffers connection piece room))
      → P (piece_step s store buffers connection piece room)
  unfolding piece_step
  piece_case P refused serves =
      cond_case P (ltb 7 connection) _ _ (λ _. refused 102) λ least.
      cond_case P (ltb room 128) _ _ (λ _. refused 101) λ _.
      cond_case P (not (eqb (length buffers) all_buffers)) _ _ (λ _. refused 107) λ all.
      serves (ltb-false 7 connection least) (eqb-true (length buffers) all_buffers (not-false (eqb (length buffers) all_buffers) all))

  served_sound : SoundServer s → connection ≤ 7 → SoundServer (served_step s store buffers connection piece room).served.server
  unfolding served_step
  served_sound k c =
      let step = joined_step (assembler_at s connection) (buffer_at buffers connection) piece in
      record {
        hub = found_sound s.hub store connection room step.buffer step.taken.found k.hub;
        each =
            λ at less.
            stored_at SoundAssembler s.assemblers connection at step.taken.assembler fresh_assembler
            (joined_sound (assembler_at s connection) (buffer_at buffers connection) piece)
            (k.each at less);
      }

  pub piece_sound : SoundServer s → SoundServer (piece_step s store buffers connection piece room).served.server
  piece_sound k = piece_case (λ (x : PieceStep). SoundServer x.served.server) (λ number. k) (λ c h. served_sound k c)

  -- what it uses is within the piece
  pub piece_used : (piece_step s store buffers connection piece room).served.used ≤ length piece
  unfolding served_step
  piece_used =
      piece_case (λ (x : PieceStep). x.served.used ≤ length piece) (λ number. omega arith)
      (λ c h. used_within (assembler_at s connection) (buffer_at buffers connection) piece)

  -- and where it is not refused and not empty, it is something: so a loop over a piece ends
  pub served_some : connection ≤ 7 → length buffers ≡ all_buffers → 0 < length piece
      → 0 < (served_step s store buffers connection piece room).served.used
  unfolding served_step
  served_some c h some = used_some (assembler_at s connection) (buffer_at buffers connection) piece some

-- ---- the other events
pub closed_sound : (s : Server) (connection : ℕ) → SoundServer s → SoundServer (closed_call s connection).server
unfolding closed_call
closed_sound s connection k =
    cond_case (λ (x : Served). SoundServer x.server) (ltb 7 connection) _ _ (λ _. k)
    (λ _.
    record {
      hub = hub.closed_sound s.hub connection k.hub;
      each =
          λ at less.
          stored_at SoundAssembler s.assemblers connection at fresh_assembler fresh_assembler lines.fresh_sound (k.each at less);
    })

pub reading_sound : (s : Server) (port value : ℕ) → SoundServer s → SoundServer (reading_call s port value).server
reading_sound s port value k = record { hub = hub.reading_sound s.hub port value k.hub; each = k.each }

pub wait_sound : (s : Server) (n : ℕ) → SoundServer s → SoundServer (wait_call s n).server
wait_sound s n k = record { hub = hub.wait_sound s.hub n k.hub; each = k.each }
