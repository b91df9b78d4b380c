-- What a caller does with a server, event by event, by the definitions that the calls' contracts name, and what it is told.
use Rattle.std.specs.Prelude.{ℕ, zero, suc, cond, List, [], ◌∷◌, ◌++◌, ltb, length, drop}
use Rattle.std.proofs.Math.Option.{none, some}
use Rattle.server.specs.declared.Server.{Server}
use Rattle.server.specs.declared.Served.{Served}
use Rattle.server.specs.declared.WaitServed.{WaitServed}
use Rattle.server.specs.Record.{fresh_server}
use Rattle.server.specs.Piece.{PieceStep, piece_step}
use Rattle.server.specs.Calls.{closed_call, reading_call, wait_call}
use Rattle.history.specs.Heard.{answer_out}
use Rattle.history.specs.Run.{listed}
use Rattle.served.specs.Events.{Event, piece, closed, reading, waiting}
use Rattle.served.specs.Told.{Told, answer_told}

-- the server, with its store and its buffers
pub record State : Type 0 where
  pub server : Server
  pub store : List ℕ
  pub buffers : List ℕ

abbrev pub state_of : Server → List ℕ → List ℕ → State
state_of server store buffers = record { server = server; store = store; buffers = buffers }

abbrev pub fresh_state : List ℕ → List ℕ → State
fresh_state store buffers = state_of fresh_server store buffers

-- all that was told, and the server after it
pub record Gave : Type 0 where
  pub told : List Told
  pub state : State

abbrev pub gave : List Told → State → Gave
gave l s = record { told = l; state = s }

-- one thing done by the server, and the next by what the first has left
abbrev pub then_gave : Gave → (State → Gave) → Gave
then_gave g next = gave (g.told ++ (next g.state).told) (next g.state).state

-- ---- each event

-- a call with bytes of a connection
abbrev pub piece_gave : ℕ → PieceStep → Gave
piece_gave connection x =
    gave (answer_told (some connection) (answer_out x.served.answer [])) (state_of x.served.server x.store x.buffers)

-- A piece: calls, each on what the one before has left of it, until nothing is left. Each uses a byte at least, so that as many calls as the
-- piece has bytes are enough.
abbrev pub piece_served : ℕ → ℕ → ℕ → List ℕ → State → Gave
piece_served connection room zero bytes s = gave [] s
piece_served connection room (suc calls) [] s = gave [] s
piece_served connection room (suc calls) (b ∷ bytes) s =
    let x = piece_step s.server s.store s.buffers connection (b ∷ bytes) room in
    then_gave (piece_gave connection x) (piece_served connection room calls (drop x.served.used (b ∷ bytes)))

abbrev pub call_gave : Served → State → Gave
call_gave x s = gave (answer_told none (answer_out x.answer [])) (state_of x.server s.store s.buffers)

abbrev pub wait_gave : WaitServed → State → Gave
wait_gave x s = gave (answer_told none (answer_out x.answer (listed x.completions))) (state_of x.server s.store s.buffers)

-- a piece of a connection above 7 is one call, which is refused
abbrev pub event_served : ℕ → Event → State → Gave
event_served room (piece connection bytes) s =
    cond (ltb 7 connection)
    (piece_gave connection (piece_step s.server s.store s.buffers connection bytes room))
    (piece_served connection room (length bytes) bytes s)
event_served room (closed connection) s = call_gave (closed_call s.server connection) s
event_served room (reading port value) s = call_gave (reading_call s.server port value) s
event_served room (waiting n) s = wait_gave (wait_call s.server n) s

abbrev pub served : ℕ → List Event → State → Gave
served room [] s = gave [] s
served room (e ∷ events) s = then_gave (event_served room e s) (served room events)
