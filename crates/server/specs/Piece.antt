-- A piece of a connection's stream. Document 01: "An assembler joins pieces of a connection's stream into lines; .. an overlong one handed on
-- at its CR to be answered 015." A call takes the bytes up to and with the piece's first CR, and the hub answers the line that they end.
use Rattle.std.specs.Prelude.{ℕ, ◌+◌, ◌*◌, ◌≤◌, ◌≡◌, not, List, [], ◌∷◌, eqb, ltb, length, take, set}
use Rattle.laws.specs.Checks.{◌⇒◌, first}
use Rattle.laws.specs.Put.{over}
use Rattle.lines.specs.declared.Found.{Found}
use Rattle.lines.specs.declared.Found.TheVariants as found
use Rattle.lines.specs.declared.Taken.{Taken}
use Rattle.lines.specs.Take.{Step, joined_step}
use Rattle.connector.specs.declared.Answer.TheVariants as answer
use Rattle.hub.specs.declared.Answered.{Answered}
use Rattle.hub.specs.declared.Hub.{Hub}
use Rattle.hub.specs.declared.HubChange.TheVariants as change
use Rattle.hub.specs.Record.{applied}
use Rattle.hub.specs.Line.{Outcome, leaving, deciding, line_step, overlong_step, bytes_of, Answers}
use Rattle.server.specs.declared.Server.{Server}
use Rattle.server.specs.declared.PieceServed.{PieceServed}
use Rattle.server.specs.Record.{all_buffers, buffer_size, server_of, assembler_at, buffer_at}

-- what a call gives, and the store and the buffers after it
pub record PieceStep : Type 0 where
  pub served : PieceServed
  pub store : List ℕ
  pub buffers : List ℕ

-- "Calls themselves refuse with a number, nothing written and nothing changed"
abbrev pub refused_piece : Server → ℕ → PieceServed
refused_piece s number = record { server = s; used = 0; answer = answer.Refused number; change = change.Nothing; size = 0 }

abbrev pub refusing : Server → ℕ → List ℕ → List ℕ → PieceStep
refusing s number store buffers = record { served = refused_piece s number; store = store; buffers = buffers }

-- the hub's answer to what the assembler has found; the bytes of a whole line stand in its buffer
abbrev pub found_step : Hub → List ℕ → ℕ → ℕ → List ℕ → Found → Outcome
found_step hub store connection room buffer found.Nothing = leaving (deciding answer.Taken change.Nothing) store
found_step hub store connection room buffer (found.Line size) = line_step hub store connection (take size buffer) room
found_step hub store connection room buffer found.Overlong = leaving (overlong_step connection room) store

-- the server with what the hub decided and the assembler after it, and the connection's buffer in its place again
abbrev pub after_found : Server → List ℕ → ℕ → Step → Outcome → PieceStep
after_found s buffers connection step o =
    record {
      served = record {
        server = server_of (applied s.hub o.decided.change) (set s.assemblers connection step.taken.assembler);
        used = step.taken.used;
        answer = o.decided.answer;
        change = o.decided.change;
        size = length (bytes_of o.decided.answer);
      };
      store = o.store;
      buffers = over buffers (connection * buffer_size) step.buffer;
    }

unfoldable pub served_step : Server → List ℕ → List ℕ → ℕ → List ℕ → ℕ → PieceStep
served_step s store buffers connection piece room =
    let step = joined_step (assembler_at s connection) (buffer_at buffers connection) piece in
    after_found s buffers connection step (found_step s.hub store connection room step.buffer step.taken.found)

-- 102 "connection above 7; 101 lent reply buffer under 128 bytes"; 107 an assembler's buffer that is not 4,096 bytes, so all of them that are
-- not eight times that
unfoldable pub piece_step : Server → List ℕ → List ℕ → ℕ → List ℕ → ℕ → PieceStep
piece_step s store buffers connection piece room = first
    ((ltb 7 connection ⇒ refusing s 102 store buffers)
    ∷ (ltb room 128 ⇒ refusing s 101 store buffers)
    ∷ (not (eqb (length buffers) all_buffers) ⇒ refusing s 107 store buffers)
    ∷ []) (served_step s store buffers connection piece room)

-- the result, the store, the buffers, and the reply at the start of its buffer
pub record Serves (x : PieceStep) (before : List ℕ) (r : PieceServed) (store buffers reply : List ℕ) : Type 0 where
  pub result : r ≡ x.served
  pub kept : store ≡ x.store
  pub joined : buffers ≡ x.buffers
  pub laid : reply ≡ over before 0 (bytes_of x.served.answer)

-- ---- for the parts of a call

-- the assembler's call on its part of the buffers
pub record Joins (step : Step) (before : List ℕ) (from : ℕ) (r : Taken) (after : List ℕ) : Type 0 where
  pub result : r ≡ step.taken
  pub laid : after ≡ over before from step.buffer

-- the hub's answer to what was found
pub record FoundAnswers (hub : Hub) (store : List ℕ) (connection : ℕ) (buffer : List ℕ) (f : Found) (before : List ℕ) (r : Answered)
    (kept reply : List ℕ) : Type 0 where
  pub answers : Answers (found_step hub store connection (length before) buffer f) before r kept reply

-- a line that was found stands within the buffers
abbrev pub Fits : Found → ℕ → ℕ → Type 0
Fits found.Nothing room from = Unit
Fits (found.Line size) room from = from + size ≤ room
Fits found.Overlong room from = Unit
