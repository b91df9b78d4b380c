-- What comes out: the frames of each answer. docs/PORT-OTHER.md: "A line is answered at its CR: a `b` to the asker, a second `b` with the same bytes to
-- the owner of a halted transmission if that is another connection, then an `s` where the line was carried out on a connector or a relay". "A
-- sendir that is taken has no `b`."
use Rattle.std.specs.Prelude.{ℕ, ◌+◌, Bool, true, false, Option, Some, None, List, [], ◌∷◌, ◌++◌, map, take}
use Rattle.request.specs.declared.mode.Mode.{Mode}
use Rattle.request.specs.declared.mode.Mode.TheVariants.{Ir, Sensor, IrBlaster, LedLighting}
use Rattle.reply.specs.Reply.{reply_text}
use Rattle.connector.specs.declared.Owner.{Owner}
use Rattle.connector.specs.declared.Owner.TheVariants as owner
use Rattle.connector.specs.declared.Answer.{Answer}
use Rattle.connector.specs.declared.Answer.TheVariants as answer
use Rattle.connector.specs.declared.Run.{Run}
use Rattle.connector.specs.declared.Connector.{Connector}
use Rattle.connector.specs.declared.Completion.{Completion}
use Rattle.hub.specs.declared.HubChange.{HubChange}
use Rattle.hub.specs.declared.HubChange.TheVariants as change
use Rattle.hub.specs.declared.completions.Completions.{Completions}
use Rattle.hub.specs.Calls.{completion_text}
use Rattle.frames.specs.Layout.{low_byte, two_bytes, four_bytes, letter, frame_of}

-- `!`: "as in the frame", "two: the number"
abbrev pub refusal_frame : ℕ → ℕ → List ℕ
refusal_frame connection number = frame_of (letter "!") connection (two_bytes number)

-- ---- `b`: "to whom", "a reply, with its CR"
abbrev pub reply_frames : ℕ → Owner → List ℕ → List ℕ
reply_frames connection owner.Nobody s = frame_of (letter "b") connection s
reply_frames connection (owner.Connection other) s = frame_of (letter "b") connection s ++ frame_of (letter "b") other s

-- what a line is answered, and any other call
unfoldable pub answer_frames : ℕ → Answer → List ℕ
answer_frames connection (answer.Refused number) = refusal_frame connection number
answer_frames connection answer.Taken = []
answer_frames connection (answer.Reply r also) = reply_frames connection also (reply_text r)

-- ---- `s`: "a connector: 1, port, mode (0 IR, 1 SENSOR, 2 IR_BLASTER, 3 LED_LIGHTING), 1 if it transmits and 0 if not, the id in two bytes (0 if
-- not), and its lamp's target (0 where there is no lamp); a relay: 2, port, state"
abbrev pub mode_number : Mode → ℕ
mode_number Ir = 0
mode_number Sensor = 1
mode_number IrBlaster = 2
mode_number LedLighting = 3

abbrev pub transmits : Option Run → ℕ
transmits None = 0
transmits (Some run) = 1

abbrev pub id_of : Option Run → ℕ
id_of None = 0
id_of (Some run) = run.fields.id

abbrev pub sending_bytes : Option Run → List ℕ
sending_bytes s = transmits s ∷ two_bytes (id_of s)

abbrev pub connector_frame : ℕ → ℕ → Connector → List ℕ
connector_frame connection slot c =
    frame_of (letter "s") connection (1 ∷ (slot + 1) ∷ mode_number c.mode ∷ sending_bytes c.sending ++ c.lamp.target ∷ [])

unfoldable pub change_frames : ℕ → HubChange → List ℕ
change_frames connection change.Nothing = []
change_frames connection (change.Connector slot c) = connector_frame connection slot c
change_frames connection (change.Relay slot state) = frame_of (letter "s") connection (2 ∷ (slot + 1) ∷ low_byte state ∷ [])

-- ---- `f`: "to whom, 255 for nobody", "four: the moment in microseconds from the wait's start; then the `completeir` line with its CR"
abbrev pub to_whom : Owner → ℕ
to_whom owner.Nobody = 255
to_whom (owner.Connection connection) = connection

unfoldable pub completion_frame : Completion → List ℕ
completion_frame c = frame_of (letter "f") (to_whom c.owner) (four_bytes c.moment.0 ++ completion_text c)

-- "A wait gives its completions in their order."
abbrev pub completion_frames : List Completion → List ℕ
completion_frames [] = []
completion_frames (c ∷ l) = completion_frame c ++ completion_frames l

abbrev pub wait_frames : Completions → List ℕ
wait_frames done = completion_frames (take done.count done.items)

-- ---- `c`: "one for each connector: 1 where its carrier is on, 0 where it is off"
abbrev pub bit : Bool → ℕ
bit true = 1
bit false = 0

abbrev pub carriers_frame : List Bool → List ℕ
carriers_frame on = frame_of (letter "c") 0 (map bit on)

-- ---- `l`: "one for each connector: its lamp's level in percent, rounded down, 0 where there is no lamp"
abbrev pub levels_frame : List ℕ → List ℕ
levels_frame levels = frame_of (letter "l") 0 (map low_byte levels)

-- ---- `d`: "none, or four: microseconds"
abbrev pub not_due_frame : List ℕ
not_due_frame = frame_of (letter "d") 0 []

abbrev pub due_frame : ℕ → List ℕ
due_frame n = frame_of (letter "d") 0 (four_bytes n)
