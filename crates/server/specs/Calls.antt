-- The events beside pieces, and when the next completion is due.
use Rattle.std.specs.Prelude.{ℕ, cond, Option, Some, None, ltb, eqb, set, get_or}
use Rattle.pace.specs.declared.Micros.{Micros}
use Rattle.lines.specs.Take.{fresh_assembler}
use Rattle.connector.specs.declared.Answer.TheVariants as answer
use Rattle.hub.specs.declared.completions.Completions.{Completions}
use Rattle.hub.specs.Record.{applied}
use Rattle.hub.specs.Completions.{no_completion}
use Rattle.hub.specs.Calls as hub
use Rattle.hub.specs.Wait as wait
use Rattle.server.specs.declared.Server.{Server}
use Rattle.server.specs.declared.Served.{Served}
use Rattle.server.specs.declared.WaitServed.{WaitServed}
use Rattle.server.specs.Record.{server_of}

-- "Closing a connection ..: its transmissions run on with no owner, and its unfinished line is dropped."
unfoldable pub closed_call : Server → ℕ → Served
closed_call s connection =
    let moved = hub.closed_call s.hub connection in
    cond (ltb 7 connection)
    (record { server = s; answer = answer.Refused 102 })
    (record { server = server_of moved.hub (set s.assemblers connection fresh_assembler); answer = moved.answer })

abbrev pub reading_call : Server → ℕ → ℕ → Served
reading_call s port value =
    let decided = hub.reading_call s.hub port value in
    record { server = server_of (applied s.hub decided.change) s.assemblers; answer = decided.answer }

abbrev pub wait_call : Server → ℕ → WaitServed
wait_call s n =
    let waited = wait.wait_call s.hub n in
    record { server = server_of waited.hub s.assemblers; answer = waited.answer; completions = waited.completions }

-- the moment of the first of some completions
abbrev pub first_due : Completions → Option Micros
first_due done = cond (eqb done.count 0) None (Some (get_or done.items 0 no_completion).moment)

-- as the longest wait would show it
abbrev pub due_of : Server → Option Micros
due_of s = first_due (wait.wait_call s.hub 1000000000).completions
