-- A line of the script done: what is printed, and the hub and the store after it.
use Rattle.std.specs.Prelude.{ℕ, ◌≤◌, ◌≡◌, Bool, false, cond, List, [], ◌∷◌, ◌++◌, take, drop}
use Rattle.laws.specs.Put.{Put}
use Rattle.connector.specs.declared.Answer.{Answer}
use Rattle.connector.specs.declared.Answer.TheVariants as answer
use Rattle.hub.specs.declared.Hub.{Hub}
use Rattle.hub.specs.Record.{applied}
use Rattle.hub.specs.Line.{Outcome, leaving, line_step, overlong_step}
use Rattle.hub.specs.Calls.{reading_call, closed_call}
use Rattle.hub.specs.Wait.{wait_call}
use Rattle.script.specs.declared.input.Input.{Input}
use Rattle.script.specs.declared.input.Input.TheVariants.{Other, Line, Reading, Closing, Waiting}
use Rattle.script.specs.declared.turn.Changed.{Changed}
use Rattle.script.specs.declared.turn.Passed.{Passed}
use Rattle.script.specs.Input.{input_of}
use Rattle.script.specs.Output.{printed_answer, printed_call, printed_completions, printed_other}

-- what is printed, and the hub
pub record Made : Type 0 where
  pub printed : List ℕ
  pub hub : Hub

-- and the store
pub record Done : Type 0 where
  pub printed : List ℕ
  pub hub : Hub
  pub store : List ℕ

-- a request of a connection, with room for every reply; one of which only the first bytes were kept is overlong
unfoldable pub line_outcome : Hub → List ℕ → ℕ → List ℕ → Bool → Outcome
line_outcome hub store connection request more =
    cond more (leaving (overlong_step connection 128) store) (line_step hub store connection request 128)

unfoldable pub reading_made : Hub → ℕ → ℕ → Made
reading_made hub port value =
    let d = reading_call hub port value in
    record { printed = printed_call d.answer; hub = applied hub d.change }

unfoldable pub closing_made : Hub → ℕ → Made
closing_made hub connection =
    let m = closed_call hub connection in
    record { printed = printed_call m.answer; hub = m.hub }

unfoldable pub waiting_made : Hub → ℕ → Made
waiting_made hub n =
    let w = wait_call hub n in
    record {
      printed = printed_call w.answer ++ printed_completions (take w.completions.count w.completions.items);
      hub = w.hub;
    }

-- ---- a line of the script, of which only the first bytes may have been kept
abbrev pub after_line : Hub → ℕ → Outcome → Done
after_line hub connection o =
    record { printed = printed_answer connection o.decided.answer; hub = applied hub o.decided.change; store = o.store }

abbrev pub after_call : Made → List ℕ → Done
after_call m store = record { printed = m.printed; hub = m.hub; store = store }

abbrev pub done_as : Hub → List ℕ → List ℕ → Bool → Input → Done
done_as hub store line more Other = record { printed = printed_other; hub = hub; store = store }
done_as hub store line more (Line connection at) = after_line hub connection (line_outcome hub store connection (drop at line) more)
done_as hub store line more (Reading port value) = after_call (reading_made hub port value) store
done_as hub store line more (Closing connection) = after_call (closing_made hub connection) store
done_as hub store line more (Waiting n) = after_call (waiting_made hub n) store

unfoldable pub done : Hub → List ℕ → List ℕ → Bool → Done
done hub store line more = done_as hub store line more (input_of line)

-- all that some lines print, the first of them first
abbrev pub printed_by : Hub → List ℕ → List (List ℕ) → List ℕ
printed_by hub store [] = []
printed_by hub store (line ∷ lines) =
    let d = done hub store line false in
    d.printed ++ printed_by d.hub d.store lines

-- ---- what the turns promise

-- the printed text behind what there was, and what changes of the hub
pub record Changes (connection : ℕ) (o : Outcome) (before : List ℕ) (used : ℕ) (r : Changed) (store after : List ℕ) : Type 0 where
  pub change : r.change ≡ o.decided.change
  pub kept : store ≡ o.store
  pub printed : Put before used (printed_answer connection o.decided.answer) after r.used

-- the same with the whole hub
pub record Makes (m : Made) (before : List ℕ) (used : ℕ) (r : Passed) (after : List ℕ) : Type 0 where
  pub hub : r.hub ≡ m.hub
  pub printed : Put before used m.printed after r.used

-- a reply is for a connection of 0 to 7
abbrev pub ForOne : ℕ → Answer → Type 0
ForOne connection (answer.Refused number) = Unit
ForOne connection answer.Taken = Unit
ForOne connection (answer.Reply r also) = connection ≤ 7
