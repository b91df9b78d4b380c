-- The record of an assembler, and a call: the bytes of a piece up to and with its first CR. Document 01: "An assembler joins pieces of a
-- connection's stream into lines", "107 an assembler buffer that is not 4,096 bytes", "Bytes of a lent buffer after what is written keep
-- their contents." The bytes of an unfinished line are only in the buffer, so while there is one each call wants the buffer as the call
-- before left it.
use Rattle.std.specs.Prelude.{ℕ, suc, ◌+◌, ◌≤◌, ◌≡◌, Bool, true, false, cond, not, List, eqb, leb, ltb, length, Result, Ok, Err}
use Rattle.laws.specs.Lists.{leading}
use Rattle.laws.specs.Put.{stored_in}
use Rattle.lines.specs.declared.Assembler.{Assembler}
use Rattle.lines.specs.declared.Found.{Found}
use Rattle.lines.specs.declared.Found.TheVariants.{Nothing, Line, Overlong}
use Rattle.lines.specs.declared.Taken.{Taken}
use Rattle.lines.specs.Cut.{no_cr}

abbrev pub assembler : ℕ → Assembler
assembler size = record { size = size }

abbrev pub fresh_assembler : Assembler
fresh_assembler = assembler 0

-- what every assembler has that a fresh one and the calls gave
pub record SoundAssembler (a : Assembler) : Type 0 where
  pub few : a.size ≤ 4097

-- so many bytes of a line, as they are counted: all lines that are overlong count alike, so that one meaning has one record
unfoldable pub counted : ℕ → ℕ
counted n = cond (leb n 4096) n 4097

-- what so many bytes are: nothing before the CR
unfoldable pub found_of : ℕ → Bool → Found
found_of size false = Nothing
found_of size true = cond (leb size 4096) (Line size) Overlong

-- the bytes before a piece's first CR; all where it has none
abbrev pub until_cr : List ℕ → List ℕ
until_cr = leading no_cr

-- what a call gives, and the buffer after it
pub record Step : Type 0 where
  pub taken : Taken
  pub buffer : List ℕ

abbrev pub step_of : Assembler → ℕ → Found → List ℕ → Step
step_of a used found buffer = record { taken = record { assembler = a; used = used; found = found }; buffer = buffer }

-- bytes that go behind those that there are, with a CR behind them or without one yet
abbrev pub ended_step : Assembler → List ℕ → List ℕ → Step
ended_step a buffer bytes =
    step_of fresh_assembler (suc (length bytes)) (found_of (counted (a.size + length bytes)) true) (stored_in buffer a.size bytes)

abbrev pub unfinished_step : Assembler → List ℕ → List ℕ → Step
unfinished_step a buffer bytes =
    step_of (assembler (counted (a.size + length bytes))) (length bytes) Nothing (stored_in buffer a.size bytes)

-- on a buffer of 4,096 bytes
unfoldable pub joined_step : Assembler → List ℕ → List ℕ → Step
joined_step a buffer piece =
    cond (ltb (length (until_cr piece)) (length piece)) (ended_step a buffer (until_cr piece)) (unfinished_step a buffer piece)

-- on any buffer
unfoldable pub take_step : Assembler → List ℕ → List ℕ → Result Step ℕ
take_step a buffer piece = cond (not (eqb (length buffer) 4096)) (Err 107) (Ok (joined_step a buffer piece))

-- what a call answers; and the assembler, the bytes used and the buffer behind it: a refused call uses none, and leaves both as they were
abbrev pub answer_of : Result Step ℕ → Result Taken ℕ
answer_of (Ok step) = Ok step.taken
answer_of (Err number) = Err number

abbrev pub assembler_after : Assembler → Result Step ℕ → Assembler
assembler_after a (Ok step) = step.taken.assembler
assembler_after a (Err number) = a

abbrev pub used_by : Result Step ℕ → ℕ
used_by (Ok step) = step.taken.used
used_by (Err number) = 0

abbrev pub buffer_after : List ℕ → Result Step ℕ → List ℕ
buffer_after before (Ok step) = step.buffer
buffer_after before (Err number) = before

-- the result and the whole buffer
pub record Takes (step : Result Step ℕ) (before : List ℕ) (r : Result Taken ℕ) (after : List ℕ) : Type 0 where
  pub result : r ≡ answer_of step
  pub laid : after ≡ buffer_after before step
