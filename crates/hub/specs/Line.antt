-- A line's answer. Document 01: "Order for a line: 102, 101, 015, 001, 017 for the address, 002, 003, then by request". All up to what
-- depends on a connector is the reading of the line; what is asked of a connector is that connector's step.
use Rattle.std.specs.Prelude.{ℕ, ◌-◌, ◌*◌, ◌≡◌, Option, Some, None, List, [], ◌∷◌, ltb, length}
use Rattle.laws.specs.Checks.{◌⇒◌, first}
use Rattle.laws.specs.Put.{over}
use Rattle.request.specs.declared.Place.{Place}
use Rattle.request.specs.declared.Turn.{Turn}
use Rattle.request.specs.declared.Turn.TheVariants as turn
use Rattle.request.specs.declared.Request.{Request}
use Rattle.request.specs.declared.Request.TheVariants as request
use Rattle.request.specs.Place.{nowhere}
use Rattle.request.specs.Request.{read_request}
use Rattle.reply.specs.declared.Reply.{Reply}
use Rattle.reply.specs.declared.Reply.TheVariants as reply
use Rattle.reply.specs.Reply.{reply_text}
use Rattle.connector.specs.declared.Owner.TheVariants.{Nobody}
use Rattle.connector.specs.declared.Answer.{Answer}
use Rattle.connector.specs.declared.Answer.TheVariants as answer
use Rattle.connector.specs.declared.Connector.{Connector}
use Rattle.connector.specs.declared.Stepped.{Stepped}
use Rattle.steps.specs.Step.{Made, step_of}
use Rattle.hub.specs.declared.Decided.{Decided}
use Rattle.hub.specs.declared.Answered.{Answered}
use Rattle.hub.specs.declared.Hub.{Hub}
use Rattle.hub.specs.declared.HubChange.{HubChange}
use Rattle.hub.specs.declared.HubChange.TheVariants as change
use Rattle.hub.specs.Record.{connector_at, relay_at, kept_at, part_size}

-- what a line makes: its answer and its change, and the store after it
pub record Outcome : Type 0 where
  pub decided : Decided
  pub store : List ℕ

-- that it was decided so
pub record Decides (o : Outcome) (r : Decided) (store : List ℕ) : Type 0 where
  pub result : r ≡ o.decided
  pub kept : store ≡ o.store

abbrev pub deciding : Answer → HubChange → Decided
deciding a x = record { answer = a; change = x }

-- the store stays
abbrev pub leaving : Decided → List ℕ → Outcome
leaving d store = record { decided = d; store = store }

-- a reply for the asker alone
abbrev pub says : Reply → Decided
says r = deciding (answer.Reply r Nobody) change.Nothing

-- "It is the whole written reply, and the hub stays unchanged."
abbrev pub fails : ℕ → Place → Decided
fails number place = says (reply.Error number place)

-- "Calls themselves refuse with a number, nothing written and nothing changed"
abbrev pub refusal : ℕ → Decided
refusal number = deciding (answer.Refused number) change.Nothing

-- ---- what is asked of a connector: its step, and what that changes of the hub
abbrev pub change_in : ℕ → Option Connector → HubChange
change_in slot None = change.Nothing
change_in slot (Some c) = change.Connector slot c

abbrev pub placed : ℕ → Stepped → Decided
placed slot s = deciding s.answer (change_in slot s.change)

abbrev pub connector_step : List ℕ → ℕ → Made → Outcome
connector_step store slot made =
    record { decided = placed slot made.stepped; store = over store (slot * part_size) made.kept }

-- what a connector made, with its counts laid into the store from a place on
pub record Stored (made : Made) (before : List ℕ) (from : ℕ) (r : Stepped) (after : List ℕ) : Type 0 where
  pub result : r ≡ made.stepped
  pub laid : after ≡ over before from made.kept

-- ---- what is asked of a relay, which has a state
abbrev pub relay_step : ℕ → ℕ → Place → Turn → Decided
relay_step state slot place turn.Get = says (reply.State place state)
relay_step state slot place (turn.Set next) = deciding (answer.Reply (reply.State place next) Nobody) (change.Relay slot next)

-- ---- a request that was read from a line
abbrev pub asked_step : Hub → List ℕ → ℕ → List ℕ → Request → Outcome
asked_step h store connection text (request.Fault number place) = leaving (fails number place) store
asked_step h store connection text (request.Fixed fixed) = leaving (says (reply.Fixed fixed)) store
asked_step h store connection text (request.Connector place ask) =
    let slot = place.port - 1 in
    connector_step store slot (step_of (connector_at h slot) (kept_at store slot) connection text place ask)
asked_step h store connection text (request.Relay place turn) =
    let slot = place.port - 1 in
    leaving (relay_step (relay_at h slot) slot place turn) store

unfoldable pub line_step : Hub → List ℕ → ℕ → List ℕ → ℕ → Outcome
line_step h store connection text room = first
    ((ltb 7 connection ⇒ leaving (refusal 102) store)
    ∷ (ltb room 128 ⇒ leaving (refusal 101) store)
    ∷ []) (asked_step h store connection text (read_request text))

-- 015 "more than 4,096 bytes before CR; the line is dropped"
unfoldable pub overlong_step : ℕ → ℕ → Decided
overlong_step connection room = first
    ((ltb 7 connection ⇒ refusal 102)
    ∷ (ltb room 128 ⇒ refusal 101)
    ∷ []) (fails 15 nowhere)

-- ---- what is written

-- the bytes of an answer: a refusal and a line that is only taken have none
abbrev pub bytes_of : Answer → List ℕ
bytes_of (answer.Refused number) = []
bytes_of answer.Taken = []
bytes_of (answer.Reply r also) = reply_text r

pub record Laid (a : Answer) (before : List ℕ) (size : ℕ) (after : List ℕ) : Type 0 where
  pub result : size ≡ length (bytes_of a)
  pub laid : after ≡ over before 0 (bytes_of a)

abbrev pub answered_of : Decided → Answered
answered_of d = record { answer = d.answer; change = d.change; size = length (bytes_of d.answer) }

pub record Writes (d : Decided) (before : List ℕ) (r : Answered) (after : List ℕ) : Type 0 where
  pub result : r ≡ answered_of d
  pub laid : after ≡ over before 0 (bytes_of d.answer)

pub record Answers (o : Outcome) (before : List ℕ) (r : Answered) (store after : List ℕ) : Type 0 where
  pub writes : Writes o.decided before r after
  pub kept : store ≡ o.store
