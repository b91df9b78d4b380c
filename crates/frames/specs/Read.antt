-- A frame taken apart byte by byte, as it comes. docs/PORT-OTHER.md: "a piece's bytes are served as they come, all other frames when they are whole."
-- What a whole frame is stands in Layout; that the bytes of any frame give exactly that is proved in proofs/Reading.antt.
use Rattle.std.specs.Prelude.{ℕ, ◌+◌, ◌-◌, ◌*◌, ◌^◌, ◌≤◌, ◌<◌, Bool, true, false, cond, ◌&&◌, Some, None, is_none, List, [], ◌∷◌, eqb, ltb}
use Rattle.laws.specs.Checks.{◌⇒◌, first}
use Rattle.pace.specs.Pace.{micros}
use Rattle.frames.specs.declared.Frame.{Frame}
use Rattle.frames.specs.declared.Frame.TheVariants as frame
use Rattle.frames.specs.declared.Event.{Event}
use Rattle.frames.specs.declared.Event.TheVariants as event
use Rattle.frames.specs.declared.Step.{Step}
use Rattle.frames.specs.declared.Part.{Part}
use Rattle.frames.specs.declared.Part.TheVariants as part
use Rattle.frames.specs.declared.Read.{Read}
use Rattle.frames.specs.Layout.{letter}

-- what every frame in hand has that bytes gave
abbrev pub SoundFrame : Frame → Type 0
SoundFrame frame.Between = Unit
SoundFrame (frame.Kind kind) = Unit
SoundFrame (frame.Connection kind connection) = Unit
SoundFrame (frame.High kind connection high) = Unit
SoundFrame (frame.Piece connection left) = (connection ≤ 7) × (0 < left)
SoundFrame (frame.Reading port) = Unit
SoundFrame (frame.Wait connection come number) = (come ≤ 3) × (number < 256 ^ come)
SoundFrame (frame.Over left) = 0 < left

-- it goes on; it is at its end
abbrev pub more : Frame → Step
more f = record { frame = f; event = None }

abbrev pub gives : Event → Step
gives e = record { frame = frame.Between; event = Some e }

-- a piece, and a frame that is passed over, of which so many bytes are to come
unfoldable pub piece_of : ℕ → ℕ → Frame
piece_of connection left = cond (eqb left 0) frame.Between (frame.Piece connection left)

unfoldable pub passing : ℕ → Frame
passing left = cond (eqb left 0) frame.Between (frame.Over left)

-- ---- at a frame's fourth byte

-- "gets the error frame .., and the next frame is read: its length says where that begins"
abbrev pub other : ℕ → ℕ → ℕ → Step
other connection number length = record { frame = passing length; event = Some (event.Refused connection number) }

-- a frame whose kind has so many bytes
unfoldable pub whole : Step → ℕ → ℕ → ℕ → Step
whole step due connection length = cond (eqb length due) step (other connection 0 length)

-- "A piece of a connection above 7 gets one `!` with 102, as soon as its four bytes are read, and its bytes are passed over."
unfoldable pub piece_step : ℕ → ℕ → Step
piece_step connection length = cond (ltb 7 connection) (other connection 102 length) (more (piece_of connection length))

unfoldable pub wait_step : ℕ → ℕ → ℕ → Step
wait_step connection come number =
    cond (eqb come 4) (gives (event.Wait connection (micros number))) (more (frame.Wait connection come number))

unfoldable pub head_step : ℕ → ℕ → ℕ → Step
head_step kind connection length = first
    ((eqb kind (letter "b") ⇒ piece_step connection length)
    ∷ (eqb kind (letter "x") ⇒ whole (gives (event.Closed connection)) 0 connection length)
    ∷ (eqb kind (letter "r") ⇒ whole (more (frame.Reading connection)) 1 connection length)
    ∷ (eqb kind (letter "w") ⇒ whole (wait_step connection 0 0) 4 connection length)
    ∷ (eqb kind (letter "c") ⇒ whole (gives event.Carriers) 0 connection length)
    ∷ (eqb kind (letter "l") ⇒ whole (gives event.Levels) 0 connection length)
    ∷ (eqb kind (letter "d") ⇒ whole (gives event.Due) 0 connection length)
    ∷ []) (other connection 0 length)

-- ---- one byte more
unfoldable pub next_step : Frame → ℕ → Step
next_step frame.Between b = more (frame.Kind b)
next_step (frame.Kind kind) b = more (frame.Connection kind b)
next_step (frame.Connection kind connection) b = more (frame.High kind connection b)
next_step (frame.High kind connection high) b = head_step kind connection (high * 256 + b)
next_step (frame.Piece connection left) b = more (piece_of connection (left - 1))
next_step (frame.Reading port) b = gives (event.Reading port b)
next_step (frame.Wait connection come number) b = wait_step connection (come + 1) (number * 256 + b)
next_step (frame.Over left) b = more (passing (left - 1))

-- ---- the bytes of heads and numbers

-- what the next byte is of
abbrev pub part_of : Frame → Part
part_of frame.Between = part.Head
part_of (frame.Kind kind) = part.Head
part_of (frame.Connection kind connection) = part.Head
part_of (frame.High kind connection high) = part.Head
part_of (frame.Piece connection left) = part.Piece connection left
part_of (frame.Reading port) = part.Head
part_of (frame.Wait connection come number) = part.Head
part_of (frame.Over left) = part.Over left

abbrev pub is_head : Part → Bool
is_head part.Head = true
is_head (part.Piece connection left) = false
is_head (part.Over left) = false

-- nothing is complete, and the next byte is of a head or a number
abbrev pub goes_on : Step → Bool
goes_on step = is_none step.event && is_head (part_of step.frame)

abbrev pub reading : Step → ℕ → Read
reading step used = record { frame = step.frame; event = step.event; used = used }

abbrev pub counting : ℕ → Read → Read
counting n r = record { frame = r.frame; event = r.event; used = n + r.used }

-- until something is complete or a byte is of another part
abbrev pub read_of : Frame → List ℕ → Read
read_of f [] = reading (more f) 0
read_of f (b ∷ s) = cond (goes_on (next_step f b)) (counting 1 (read_of (next_step f b).frame s)) (reading (next_step f b) 1)
