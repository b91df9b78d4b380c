-- What a server is given, and what it means: the lines of each connection's stream, each a call at its CR, mixed with the other calls in the
-- order of the events. No assembler and no buffer is known here. Document 01: "An assembler joins pieces of a connection's stream into lines;
-- however the stream is cut, the lines are the same, an overlong one handed on at its CR to be answered 015."
use Rattle.std.specs.Prelude.{ℕ, cond, List, [], ◌∷◌, ◌++◌, map, eqb, ltb}
use Rattle.meaning.specs.Table.{Call}
use Rattle.meaning.specs.Table as call
use Rattle.lines.specs.Cut.{Line, whole, overlong, line_of, divided}

-- a piece of a connection's stream, a closed connection, a contact reading, a wait
pub data Event : Type 0 where
  piece : ℕ → List ℕ → Event
  closed : ℕ → Event
  reading : ℕ → ℕ → Event
  waiting : ℕ → Event

-- ---- the bytes of each connection's unfinished line: all since its last CR or its closing

abbrev pub nothing_begun : ℕ → List ℕ
nothing_begun connection = []

abbrev pub begun_with : ℕ → List ℕ → (ℕ → List ℕ) → ℕ → List ℕ
begun_with connection bytes begun other = cond (eqb other connection) bytes (begun other)

-- "its unfinished line is dropped"; of a connection above 7 nothing is taken
abbrev pub begun_by : (ℕ → List ℕ) → Event → ℕ → List ℕ
begun_by begun (piece connection bytes) =
    cond (ltb 7 connection) begun (begun_with connection (divided (begun connection) bytes).rest begun)
begun_by begun (closed connection) = begun_with connection [] begun
begun_by begun (reading port value) = begun
begun_by begun (waiting n) = begun

-- after some events
abbrev pub begun_from : (ℕ → List ℕ) → List Event → ℕ → List ℕ
begun_from begun [] = begun
begun_from begun (e ∷ events) = begun_from (begun_by begun e) events

-- ---- the calls: the room is the size of the lent reply buffer

abbrev pub call_of : ℕ → ℕ → Line → Call
call_of connection room (whole text) = call.line connection room text
call_of connection room overlong = call.overlong connection room

-- a piece is the lines that it ends; that of a connection above 7 is refused as a line of it is
abbrev pub calls_by : ℕ → (ℕ → List ℕ) → Event → List Call
calls_by room begun (piece connection bytes) =
    cond (ltb 7 connection)
    (call.line connection room bytes ∷ [])
    (map (call_of connection room) (map line_of (divided (begun connection) bytes).parts))
calls_by room begun (closed connection) = call.closing connection ∷ []
calls_by room begun (reading port value) = call.reading port value ∷ []
calls_by room begun (waiting n) = call.waiting n ∷ []

-- the history of some events, behind the bytes of unfinished lines
abbrev pub calls_from : ℕ → (ℕ → List ℕ) → List Event → List Call
calls_from room begun [] = []
calls_from room begun (e ∷ events) = calls_by room begun e ++ calls_from room (begun_by begun e) events

abbrev pub history_of : ℕ → List Event → List Call
history_of room events = calls_from room nothing_begun events
