-- What a caller does with the pieces of a stream, and the lines that it gets.
use Rattle.std.specs.Prelude.{ℕ, zero, suc, List, [], ◌∷◌, ◌++◌, length, take, drop, Result, Ok, Err}
use Rattle.lines.specs.declared.Assembler.{Assembler}
use Rattle.lines.specs.declared.Found.{Found}
use Rattle.lines.specs.declared.Found.TheVariants as found
use Rattle.lines.specs.Cut.{Line, whole, overlong}
use Rattle.lines.specs.Take.{Step, take_step, used_by}

-- the lines so far, and the assembler with its buffer
pub record Fed : Type 0 where
  pub lines : List Line
  pub assembler : Assembler
  pub buffer : List ℕ

abbrev pub fed : List Line → Assembler → List ℕ → Fed
fed lines a buffer = record { lines = lines; assembler = a; buffer = buffer }

-- the line that a call has; the bytes of a whole one stand in the buffer
abbrev pub line_in : List ℕ → Found → List Line
line_in buffer found.Nothing = []
line_in buffer (found.Line size) = whole (take size buffer) ∷ []
line_in buffer found.Overlong = overlong ∷ []

-- what a call has done with the assembler and its buffer; a refused one has no line and leaves both as they were
abbrev pub called : Assembler → List ℕ → Result Step ℕ → Fed
called a buffer (Ok step) = fed (line_in step.buffer step.taken.found) step.taken.assembler step.buffer
called a buffer (Err number) = fed [] a buffer

-- one thing done with the assembler, and the next with what the first has left
abbrev pub onward : Fed → (Assembler → List ℕ → Fed) → Fed
onward f next =
    fed (f.lines ++ (next f.assembler f.buffer).lines)
    (next f.assembler f.buffer).assembler
    (next f.assembler f.buffer).buffer

-- A piece: calls, each on what the one before has left of it, until nothing is left. Each uses a byte at least, so that as many calls
-- as the piece has bytes are enough.
abbrev pub fed_piece : ℕ → List ℕ → Assembler → List ℕ → Fed
fed_piece zero piece a buffer = fed [] a buffer
fed_piece (suc calls) [] a buffer = fed [] a buffer
fed_piece (suc calls) (b ∷ piece) a buffer =
    onward (called a buffer (take_step a buffer (b ∷ piece))) (fed_piece calls (drop (used_by (take_step a buffer (b ∷ piece))) (b ∷ piece)))

-- the pieces of a stream, one after the other
abbrev pub feed : List (List ℕ) → Assembler → List ℕ → Fed
feed [] a buffer = fed [] a buffer
feed (piece ∷ pieces) a buffer = onward (fed_piece (length piece) piece a buffer) (feed pieces)
