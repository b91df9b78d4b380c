-- A block of bytes: turn after turn, while there are bytes and there is room for another turn's frames.
use Rattle.std.specs.Prelude.{ℕ, ◌+◌, ◌-◌, ◌≤◌, ◌<◌, List, [], ◌++◌, ◌⊎◌, length, drop}
use Rattle.laws.specs.Put.{Put}
use Rattle.port.specs.declared.Progress.{Progress}
use Rattle.port.specs.Turn.{Whole, whole, after, turn_of}

-- the most that a turn writes
abbrev pub turn_room : ℕ
turn_room = 512

-- from a place of the block on, with so much room: the frames that are written, the place where it stops, and what there is then
pub data Runs (block : List ℕ) : ℕ → ℕ → Whole → List ℕ → ℕ → Whole → Type 0 where
  stops : {room i : ℕ} {w : Whole} → (length block ≤ i) ⊎ (room < turn_room) → Runs block room i w [] i w
  turns : {room i j : ℕ} {w v : Whole} {text : List ℕ} → i < length block → turn_room ≤ room
      → Runs block (room - length (turn_of w (drop i block)).move.text) (i + (turn_of w (drop i block)).move.used) (after (turn_of w (drop i block))) text j v
      → Runs block room i w ((turn_of w (drop i block)).move.text ++ text) j v

-- the block from a place on, and its frames from the start of the buffer on
pub record Feeds (block : List ℕ) (from : ℕ) (w : Whole) (before : List ℕ) (r : Progress) (store buffers out : List ℕ) : Type 0 where
  pub text : List ℕ
  pub runs : Runs block (length before) from w text r.used (whole r.state store buffers)
  pub put : Put before 0 text out r.end
