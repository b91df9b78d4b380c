-- Time on a connector.
use Rattle.std.specs.Prelude.{ℕ, cond, Option, Some, None, List, [], ◌∷◌, eqb}
use Rattle.pace.specs.declared.Passed.{Passed}
use Rattle.pace.specs.declared.Passed.TheVariants as passed
use Rattle.pace.specs.declared.Micros.{Micros}
use Rattle.pace.specs.declared.Pace.{Pace}
use Rattle.pace.specs.Pace as pace
use Rattle.lamp.specs.Lamp as lamp
use Rattle.request.specs.declared.Place.{Place}
use Rattle.connector.specs.declared.Completion.{Completion}
use Rattle.connector.specs.declared.Run.{Run}
use Rattle.connector.specs.declared.Connector.{Connector}
use Rattle.connector.specs.declared.pass.Passing.{Passing}
use Rattle.connector.specs.declared.pass.Passing.TheVariants.{Still, Running, Complete}
use Rattle.connector.specs.Change.{with_lamp, with_sending, stopped}

abbrev pub completion_of : Connector → Place → Run → Micros → Completion
completion_of c place r moment = record { owner = c.owner; moment = moment; place = place; id = r.fields.id }

abbrev pub paced_run : Run → Pace → Run
paced_run r p = record { fields = r.fields; count = r.count; pace = p }

abbrev pub passing_run : Connector → Place → Run → Passed → Passing
passing_run c place r (passed.Running p) = Running (with_sending c c.owner (Some (paced_run r p)))
passing_run c place r (passed.Complete moment) = Complete (stopped c) (completion_of c place r moment)

-- where nothing is transmitted: a lamp that is not at its target goes on
unfoldable pub passing_lamp : Connector → ℕ → Passing
passing_lamp c n = cond (eqb c.lamp.gap.0 0) Still (Running (with_lamp c (lamp.passed c.lamp n)))

abbrev pub passing_sending : Connector → Place → ℕ → Option Run → Passing
passing_sending c place n None = passing_lamp c n
passing_sending c place n (Some r) = passing_run c place r (pace.passed r.pace r.fields.freq n)

-- what n microseconds make of a connector
abbrev pub passing : Connector → Place → ℕ → Passing
passing c place n = passing_sending c place n c.sending

-- the connector afterwards, and its completion, if there is one
abbrev pub after : Connector → Passing → Connector
after c Still = c
after c (Running next) = next
after c (Complete next completion) = next

abbrev pub done_of : Passing → List Completion
done_of Still = []
done_of (Running next) = []
done_of (Complete next completion) = completion ∷ []
