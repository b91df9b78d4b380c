-- A wait.
use Rattle.std.specs.Prelude.{ℕ, cond, List, [], map, ltb}
use Rattle.laws.specs.Lists.{gathered}
use Rattle.request.specs.Place.{connector_in}
use Rattle.connector.specs.declared.Answer.TheVariants as answer
use Rattle.connector.specs.declared.Completion.{Completion}
use Rattle.connector.specs.declared.Connector.{Connector}
use Rattle.connector.specs.declared.pass.Passing.{Passing}
use Rattle.connector.specs.Pass.{passing, after, done_of}
use Rattle.hub.specs.declared.Waited.{Waited}
use Rattle.hub.specs.declared.wait.AllPassed.{AllPassed}
use Rattle.hub.specs.declared.Hub.{Hub}
use Rattle.hub.specs.Record.{slots, in_slot}
use Rattle.hub.specs.Completions.{ordered, completions_of}

abbrev pub passing_at : List Connector → ℕ → ℕ → Passing
passing_at all n slot = passing (in_slot all slot) (connector_in slot) n

-- the connectors n microseconds later, and their completions in order
abbrev pub later : List Connector → ℕ → List Connector
later all n = map (λ slot. after (in_slot all slot) (passing_at all n slot)) slots

abbrev pub completed : List Connector → ℕ → List Completion
completed all n = ordered [] (gathered (λ slot. done_of (passing_at all n slot)) slots)

abbrev pub all_passed : List Connector → ℕ → AllPassed
all_passed all n = record { connectors = later all n; completions = completions_of (completed all n) }

abbrev pub waited_hub : Hub → ℕ → Hub
waited_hub h n = record { connectors = later h.connectors n; relays = h.relays }

-- 103 "wait above 1,000,000,000 µs"
unfoldable pub wait_call : Hub → ℕ → Waited
wait_call h n =
    cond (ltb 1000000000 n)
    (record { answer = answer.Refused 103; hub = h; completions = completions_of [] })
    (record { answer = answer.Taken; hub = waited_hub h n; completions = completions_of (completed h.connectors n) })
