-- A step of the proof that the hub gives what its history means: what one connector is known to be, and what is asked of it makes of it. The
-- log book shows such a record at each port (proofs/View.antt), and the hub's own record shows it in its way (proofs/Shown.antt). No
-- statement that a reader meets names it.
use Prim.Native.Nat.{ℕ, ◌+◌, ◌-◌}
use mathlib.Core.Bool.{Bool, cond, not, ◌&&◌}
use mathlib.Core.List.{List, [], ◌∷◌}
use mathlib.Core.Option.{Option, none, some}
use lib.Dec.{ltb, eqb}
use Rattle.std.proofs.Common as std
use Rattle.laws.specs.Checks.{◌⇒◌, first, is_some}
use Rattle.words.specs.declared.Pair.{Pair}
use Rattle.words.specs.declared.Fields.{Fields}
use Rattle.words.specs.Pairs.{counts_of}
use Rattle.meaning.specs.Time.{Transmission, complete, finish, started, renewed}
use Rattle.meaning.specs.Lamp.{Lamp, dark, level, turned}
use Rattle.meaning.specs.Log.{until}
use Rattle.request.specs.declared.mode.Mode.{Mode}
use Rattle.request.specs.declared.Place.{Place}
use Rattle.request.specs.declared.Ask.{Ask}
use Rattle.request.specs.declared.Ask.TheVariants as ask
use Rattle.request.specs.declared.Turn.{Turn}
use Rattle.request.specs.declared.Turn.TheVariants as turn
use Rattle.request.specs.declared.Request.{Request}
use Rattle.request.specs.declared.Request.TheVariants as request
use Rattle.request.specs.Mode.{is_sensor, is_lighting, is_silent}
use Rattle.request.specs.Place.{nowhere}
use Rattle.command.specs.Read.{CommandReading, sent, faulty, command_at}
use Rattle.reply.specs.declared.Reply.{Reply}
use Rattle.reply.specs.declared.Reply.TheVariants as reply
use Rattle.store.specs.Store.{alike}
use Rattle.pace.specs.Pace.{micros}
use Rattle.connector.specs.declared.Owner.{Owner}
use Rattle.connector.specs.declared.Owner.TheVariants.{Nobody, Connection}
use Rattle.connector.specs.declared.Completion.{Completion}
use Rattle.connector.specs.declared.Answer.{Answer}
use Rattle.connector.specs.declared.Answer.TheVariants as answer
use Rattle.connector.specs.Record.{unread}
use Rattle.connector.specs.Change.{same_mode, owns}
use Rattle.steps.specs.Send.{same_fields}
use Rattle.steps.specs.Step.{also_told}

-- `sending` is the transmission that was started last and not stopped, complete or not
pub record Known : Type 0 where
  pub owner : Owner
  pub mode : Mode
  pub contact : std.Option ℕ
  pub sending : Option Transmission
  pub lamp : Lamp

-- the same mode, contact and lamp, with another transmission or none
abbrev pub with_sending : Known → Owner → Option Transmission → Known
with_sending x owner sending = record { owner = owner; mode = x.mode; contact = x.contact; sending = sending; lamp = x.lamp }

-- with another lamp
abbrev pub with_lamp : Known → Lamp → Known
with_lamp x lamp = record { owner = x.owner; mode = x.mode; contact = x.contact; sending = x.sending; lamp = lamp }

-- whether something is on air at a moment
abbrev pub transmits : ℕ → Known → Bool
transmits t x = is_some (until t x.sending)

-- ---- what a sendir makes of a connector
-- whether a command is the one that is on air
unfoldable pub same_command : Transmission → Fields → List Pair → Bool
same_command s f ps = same_fields s.fields f && alike (counts_of s.pairs) (counts_of ps)

-- a command at a moment, to a connector that has this on air
abbrev pub commanded : ℕ → ℕ → Known → Fields → List Pair → Option Transmission → Known
commanded t connection x f ps none = with_sending x (Connection connection) (some (started f ps t))
commanded t connection x f ps (some s) = first
    ((not (owns x.owner connection) ⇒ x)
    ∷ (same_command s f ps ⇒ with_sending x x.owner (some (renewed s t)))
    ∷ []) (with_sending x (Connection connection) (some (started f ps t)))

-- a sendir as it was read: a fault changes nothing
abbrev pub sent_to : ℕ → ℕ → Known → CommandReading → Known
sent_to t connection x (faulty number found) = x
sent_to t connection x (sent f ps) = commanded t connection x f ps (until t x.sending)

-- ---- what is asked of a connector makes of it
-- a mode set; the present one again changes nothing
abbrev pub with_mode : Known → Mode → Known
with_mode x mode =
    cond (same_mode x.mode mode) x
    (record { owner = x.owner; mode = mode; contact = unread; sending = x.sending; lamp = dark })

-- whatever is asked
abbrev pub asked : ℕ → ℕ → List ℕ → Known → Ask → Known
asked t connection text x (ask.SetMode mode) = cond (transmits t x) x (with_mode x mode)
asked t connection text x ask.GetMode = x
asked t connection text x ask.GetContact = x
asked t connection text x (ask.Send at) = cond (is_silent x.mode) x (sent_to t connection x (command_at text at))
asked t connection text x ask.Stop = cond (is_silent x.mode) x (with_sending x Nobody none)
asked t connection text x (ask.SetLamp target ramp more) = first
    ((not (is_lighting x.mode) ⇒ x)
    ∷ (more ⇒ x)
    ∷ []) (with_lamp x (turned x.lamp target ramp t))
asked t connection text x (ask.GetLamp more) = x

-- what of all connectors or relays the one at a port becomes, and the others stay
abbrev pub changed_at : {A : Type 0} → ℕ → (A → A) → (ℕ → A) → ℕ → A
changed_at port g K p = cond (eqb port p) (g (K p)) (K p)

-- what connector p is after a request, of all that the connectors were
abbrev pub known_after : ℕ → ℕ → List ℕ → (ℕ → Known) → Request → ℕ → Known
known_after t connection text K (request.Fault number place) = K
known_after t connection text K (request.Fixed fixed) = K
known_after t connection text K (request.Connector place ask) = changed_at place.port (λ x. asked t connection text x ask) K
known_after t connection text K (request.Relay place turn) = K

-- and what relay p is
abbrev pub state_after : Turn → ℕ → ℕ
state_after turn.Get state = state
state_after (turn.Set next) state = next

-- what relay p is after a request, of all that the relays were
abbrev pub relays_after : (ℕ → ℕ) → Request → ℕ → ℕ
relays_after R (request.Fault number place) = R
relays_after R (request.Fixed fixed) = R
relays_after R (request.Connector place ask) = R
relays_after R (request.Relay place turn) = changed_at place.port (state_after turn) R

-- ---- what a request is answered, at a moment, by connectors and relays
-- a reply for the asker alone
abbrev pub reply_alone : Reply → Answer
reply_alone r = answer.Reply r Nobody

-- an errorLine line
abbrev pub error_line : ℕ → Place → Answer
error_line number place = reply_alone (reply.Error number place)

-- getstate of a connector in SENSOR
abbrev pub contact_said : Place → std.Option ℕ → Answer
contact_said place std.None = error_line 28 place
contact_said place (std.Some value) = reply_alone (reply.State place value)

-- a command without a fault, by what is on air
abbrev pub command_said : ℕ → Place → Known → Fields → Option Transmission → Answer
command_said connection place x f none = answer.Taken
command_said connection place x f (some s) = cond (owns x.owner connection) answer.Taken (reply_alone (reply.Busy place f.id))

-- a sendir as it was read
abbrev pub sendir_said : ℕ → ℕ → Place → Known → CommandReading → Answer
sendir_said t connection place x (faulty number found) = error_line number place
sendir_said t connection place x (sent f ps) = command_said connection place x f (until t x.sending)

-- who is told of a halt beside the asker
abbrev pub told : ℕ → Known → Option Transmission → Owner
told connection x none = Nobody
told connection x (some s) = also_told x.owner connection

-- a lamp as it is at a moment
abbrev pub lamp_said : ℕ → Place → Lamp → Answer
lamp_said t place lamp = reply_alone (reply.Lamp place (level lamp t) lamp.target)

-- where the connector is a lamp, and nothing stands behind the request
abbrev pub of_lamp : Place → Known → Bool → Answer → Answer
of_lamp place x more otherwise = first
    ((not (is_lighting x.mode) ⇒ error_line 23 place)
    ∷ (more ⇒ error_line 17 nowhere)
    ∷ []) otherwise

-- by the connector that is asked
abbrev pub ask_said : ℕ → ℕ → List ℕ → Place → Known → Ask → Answer
ask_said t connection text place x (ask.SetMode mode) = cond (transmits t x) (error_line 29 place) (reply_alone (reply.Mode place mode))
ask_said t connection text place x ask.GetMode = reply_alone (reply.Mode place x.mode)
ask_said t connection text place x ask.GetContact =
    cond (not (is_sensor x.mode)) (error_line 18 place) (contact_said place x.contact)
ask_said t connection text place x (ask.Send at) =
    cond (is_silent x.mode) (error_line 13 place) (sendir_said t connection place x (command_at text at))
ask_said t connection text place x ask.Stop =
    cond (is_silent x.mode) (error_line 13 place)
    (answer.Reply (reply.Stopped place) (told connection x (until t x.sending)))
ask_said t connection text place x (ask.SetLamp target ramp more) = of_lamp place x more (lamp_said t place (turned x.lamp target ramp t))
ask_said t connection text place x (ask.GetLamp more) = of_lamp place x more (lamp_said t place x.lamp)

-- by connectors and relays
abbrev pub request_said : ℕ → (ℕ → Known) → (ℕ → ℕ) → ℕ → List ℕ → Request → Answer
request_said t K R connection text (request.Fault number place) = error_line number place
request_said t K R connection text (request.Fixed fixed) = reply_alone (reply.Fixed fixed)
request_said t K R connection text (request.Connector place ask) = ask_said t connection text place (K place.port) ask
request_said t K R connection text (request.Relay place turn) = reply_alone (reply.State place (state_after turn (R place.port)))

-- ---- a reading, and the completion of a wait
-- the contact read
abbrev pub with_reading : Known → ℕ → Known
with_reading x value = record { owner = x.owner; mode = x.mode; contact = std.Some value; sending = x.sending; lamp = x.lamp }

-- what a reading makes of a connector: 104 changes nothing
abbrev pub read_as : Known → ℕ → Known
read_as x value = first
    ((not (is_sensor x.mode) ⇒ x)
    ∷ (ltb 1 value ⇒ x)
    ∷ []) (with_reading x value)

-- what a reading is answered
abbrev pub reading_said : Known → ℕ → Answer
reading_said x value = first
    ((not (is_sensor x.mode) ⇒ answer.Refused 104)
    ∷ (ltb 1 value ⇒ answer.Refused 104)
    ∷ []) answer.Taken

-- what completes in the next n microseconds of what is on air at t
abbrev pub due_of : ℕ → ℕ → Place → Known → Option Transmission → List Completion
due_of t n place x none = []
due_of t n place x (some s) =
    cond (complete s (t + n))
    (record { owner = x.owner; moment = micros (finish s - t); place = place; id = s.fields.id } ∷ []) []
