-- All that the hub says to a list of calls, the first of them first, in the meaning's words: a record, its store, and what each call makes
-- of them.
use Rattle.std.specs.Prelude.{ℕ, List, [], ◌∷◌, take}
use Rattle.meaning.specs.Table.{Call, line, overlong, reading, closing, waiting, Said}
use Rattle.connector.specs.declared.Answer.{Answer}
use Rattle.connector.specs.declared.Completion.{Completion}
use Rattle.hub.specs.declared.completions.Completions.{Completions}
use Rattle.hub.specs.declared.Moved.{Moved}
use Rattle.hub.specs.declared.Waited.{Waited}
use Rattle.hub.specs.declared.Hub.{Hub}
use Rattle.hub.specs.Record.{applied}
use Rattle.hub.specs.Line.{Outcome, leaving, line_step, overlong_step}
use Rattle.hub.specs.Calls.{reading_call, closed_call, carriers_of, levels_of}
use Rattle.hub.specs.Wait.{wait_call}
use Rattle.history.specs.Heard.{answer_out}

-- what one call makes: its answer, the completions of a wait, and the hub and the store after it
pub record Called : Type 0 where
  pub answer : Answer
  pub completions : List Completion
  pub hub : Hub
  pub store : List ℕ

-- of a hub that a call changed, or not
abbrev pub after_change : Hub → Outcome → Called
after_change hub o =
    record { answer = o.decided.answer; completions = []; hub = applied hub o.decided.change; store = o.store }

abbrev pub after_move : Moved → List ℕ → Called
after_move m store = record { answer = m.answer; completions = []; hub = m.hub; store = store }

abbrev pub listed : Completions → List Completion
listed c = take c.count c.items

abbrev pub after_wait : Waited → List ℕ → Called
after_wait w store = record { answer = w.answer; completions = listed w.completions; hub = w.hub; store = store }

abbrev pub called : Hub → List ℕ → Call → Called
called hub store (line connection room text) = after_change hub (line_step hub store connection text room)
called hub store (overlong connection room) = after_change hub (leaving (overlong_step connection room) store)
called hub store (reading port value) = after_change hub (leaving (reading_call hub port value) store)
called hub store (closing connection) = after_move (closed_call hub connection) store
called hub store (waiting n) = after_wait (wait_call hub n) store

-- what is heard of it: its answer, and each connector's carrier and level after it
abbrev pub said_by : Called → Said
said_by c = record { answer = answer_out c.answer c.completions; carriers = carriers_of c.hub c.store; levels = levels_of c.hub }

abbrev pub run : Hub → List ℕ → List Call → List Said
run hub store [] = []
run hub store (call ∷ l) =
    let c = called hub store call in
    said_by c ∷ run c.hub c.store l
