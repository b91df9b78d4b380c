-- What is asked of one connector: its answer, its change, and the counts that it keeps. In document 01's order: "sendir 013, 004, 005, 006,
-- 007, code faults, 007 for an offset beyond the code, busyIR; set_IR .. 029; stopir .. 013; getstate .. 018, 028"; of a lamp 023, 017.
use Rattle.std.specs.Prelude.{ℕ, ◌≡◌, Bool, cond, not, Option, Some, None, List, [], ◌∷◌}
use Rattle.laws.specs.Checks.{◌⇒◌, first}
use Rattle.laws.specs.Put.{stored_in}
use Rattle.words.specs.declared.Pair.{Pair}
use Rattle.words.specs.declared.Fields.{Fields}
use Rattle.words.specs.Pairs.{counts_of}
use Rattle.request.specs.declared.mode.Mode.{Mode}
use Rattle.request.specs.declared.Place.{Place}
use Rattle.request.specs.declared.Ask.{Ask}
use Rattle.request.specs.declared.Ask.TheVariants as ask
use Rattle.request.specs.Mode.{is_sensor, is_lighting, is_silent}
use Rattle.request.specs.Place.{nowhere}
use Rattle.command.specs.Read.{CommandReading, sent, faulty, command_at}
use Rattle.lamp.specs.declared.Lamp.{Lamp}
use Rattle.lamp.specs.Lamp.{percent_of, turned}
use Rattle.reply.specs.declared.Reply.{Reply}
use Rattle.reply.specs.declared.Reply.TheVariants as reply
use Rattle.connector.specs.declared.Owner.{Owner}
use Rattle.connector.specs.declared.Owner.TheVariants.{Nobody, Connection}
use Rattle.connector.specs.declared.Connector.{Connector}
use Rattle.connector.specs.declared.Answer.TheVariants as answer
use Rattle.connector.specs.declared.Stepped.{Stepped}
use Rattle.connector.specs.Record.{stepping}
use Rattle.connector.specs.Change.{is_running, owns, with_mode, with_lamp, with_sending, renewed, stopped}
use Rattle.steps.specs.declared.send.Verdict.{Verdict}
use Rattle.steps.specs.declared.send.Verdict.TheVariants as verdict
use Rattle.steps.specs.Send.{run_of, verdict_of}

-- the answer, the change, and the counts afterwards
pub record Made : Type 0 where
  pub stepped : Stepped
  pub kept : List ℕ

-- that it was made so
pub record Makes (made : Made) (r : Stepped) (kept : List ℕ) : Type 0 where
  pub result : r ≡ made.stepped
  pub counts : kept ≡ made.kept

-- the counts stay
abbrev pub keeping : Stepped → List ℕ → Made
keeping s kept = record { stepped = s; kept = kept }

-- a reply for the asker alone
abbrev pub says : Reply → Stepped
says r = stepping (answer.Reply r Nobody) None

-- "It is the whole written reply, and the hub stays unchanged."
abbrev pub fails : ℕ → Place → Stepped
fails number place = says (reply.Error number place)

-- 029 "set_IR while that connector transmits"
unfoldable pub set_mode : Connector → Place → Mode → Stepped
set_mode c place mode =
    cond (is_running c.sending) (fails 29 place)
    (stepping (answer.Reply (reply.Mode place mode) Nobody) (Some (with_mode c mode)))

abbrev pub get_mode : Connector → Place → Stepped
get_mode c place = says (reply.Mode place c.mode)

-- 018 "getstate on a connector not in SENSOR", 028 "getstate on an unread contact"
abbrev pub contact_says : Place → Option ℕ → Stepped
contact_says place None = fails 28 place
contact_says place (Some value) = says (reply.State place value)

unfoldable pub get_contact : Connector → Place → Stepped
get_contact c place = cond (not (is_sensor c.mode)) (fails 18 place) (contact_says place c.contact)

-- "the same to the owner of a halted transmission, if another connection"
unfoldable pub also_told : Owner → ℕ → Owner
also_told owner connection = cond (owns owner connection) Nobody owner

-- 013 "sendir or stopir to a connector in SENSOR", and on a lamp
unfoldable pub stops : Connector → ℕ → Place → Stepped
stops c connection place =
    cond (is_silent c.mode) (fails 13 place)
    (stepping (answer.Reply (reply.Stopped place) (also_told c.owner connection)) (Some (stopped c)))

-- ---- a lamp: "present level, target"
abbrev pub lamp_reply : Place → Lamp → Reply
lamp_reply place x = reply.Lamp place (percent_of x) x.target

-- "023 for .. a connector not in this mode, then 017 for a surplus"
unfoldable pub of_lamp : Connector → Place → Bool → Stepped → Stepped
of_lamp c place more otherwise = first
    ((not (is_lighting c.mode) ⇒ fails 23 place)
    ∷ (more ⇒ fails 17 nowhere)
    ∷ []) otherwise

abbrev pub set_lamp : Connector → Place → ℕ → ℕ → Bool → Stepped
set_lamp c place target ramp more =
    let next = turned c.lamp target ramp in
    of_lamp c place more (stepping (answer.Reply (lamp_reply place next) Nobody) (Some (with_lamp c next)))

abbrev pub get_lamp : Connector → Place → Bool → Stepped
get_lamp c place more = of_lamp c place more (says (lamp_reply place c.lamp))

-- ---- a sendir

-- "sendir to an idle connector starts with the sender as owner"
abbrev pub by_verdict : Connector → List ℕ → ℕ → Place → Fields → List Pair → Verdict → Made
by_verdict c kept connection place f ps verdict.Start =
    record {
      stepped = stepping answer.Taken (Some (with_sending c (Connection connection) (Some (run_of f ps))));
      kept = stored_in kept 0 (counts_of ps);
    }
by_verdict c kept connection place f ps verdict.Renew = keeping (stepping answer.Taken (Some (renewed c))) kept
by_verdict c kept connection place f ps verdict.Busy = keeping (says (reply.Busy place f.id)) kept

unfoldable pub command_step : Connector → List ℕ → ℕ → Place → Fields → List Pair → Made
command_step c kept connection place f ps = by_verdict c kept connection place f ps (verdict_of c kept connection f ps)

abbrev pub command_read : Connector → List ℕ → ℕ → Place → CommandReading → Made
command_read c kept connection place (faulty number found) = keeping (fails number place) kept
command_read c kept connection place (sent f ps) = command_step c kept connection place f ps

unfoldable pub send_step : Connector → List ℕ → ℕ → List ℕ → Place → ℕ → Made
send_step c kept connection text place at =
    cond (is_silent c.mode) (keeping (fails 13 place) kept) (command_read c kept connection place (command_at text at))

-- ---- whatever is asked, at a place, by a connection's line
abbrev pub step_of : Connector → List ℕ → ℕ → List ℕ → Place → Ask → Made
step_of c kept connection text place (ask.SetMode mode) = keeping (set_mode c place mode) kept
step_of c kept connection text place ask.GetMode = keeping (get_mode c place) kept
step_of c kept connection text place ask.GetContact = keeping (get_contact c place) kept
step_of c kept connection text place (ask.Send at) = send_step c kept connection text place at
step_of c kept connection text place ask.Stop = keeping (stops c connection place) kept
step_of c kept connection text place (ask.SetLamp target ramp more) = keeping (set_lamp c place target ramp more) kept
step_of c kept connection text place (ask.GetLamp more) = keeping (get_lamp c place more) kept
