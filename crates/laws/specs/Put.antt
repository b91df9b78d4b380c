-- Text that is written into lent memory: the text laid over what it holds from a place on, all else as it was, and the
-- place behind it.
use Rattle.std.specs.Prelude.{ℕ, ◌+◌, ◌-◌, ◌≤◌, ◌≡◌, List, ◌++◌, length, take, drop}

-- what stood before the place, the text, and behind it what stood there
unfoldable pub over : List ℕ → ℕ → List ℕ → List ℕ
over before at text = take at before ++ text ++ drop (at + length text) before

-- in memory that may be too short for it: as much of the text as has room
abbrev pub stored_in : List ℕ → ℕ → List ℕ → List ℕ
stored_in before at text = over before at (take (length before - at) text)

pub record Put (before : List ℕ) (at : ℕ) (text after : List ℕ) (next : ℕ) : Type 0 where
  pub place : next ≡ at + length text
  pub room : next ≤ length before
  pub laid : after ≡ over before at text
