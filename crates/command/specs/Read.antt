-- What a sendir says behind its address: its fields and its code. Document 01's order of faults: 004, 005, 006, 007, the code's faults, and 007 for an
-- offset beyond the code, "The offset is at most twice the number of pairs, less one."
use Rattle.std.specs.Prelude.{ℕ, ◌*◌, ◌<◌, ◌≡◌, cond, List, [], length, Result, Ok, Err}
use Rattle.laws.specs.Put.{stored_in}
use Rattle.words.specs.declared.Pair.{Pair}
use Rattle.words.specs.declared.Fields.{Fields}
use Rattle.words.specs.Pairs.{counts_of, counts_in}
use Rattle.code.specs.Limits.{offset_within}
use Rattle.code.specs.Read.{Reading, pairs, fault, read_code}
use Rattle.code.specs.Accepted.{Accepted}
use Rattle.command.specs.Fields.{FieldsWithin, fields_at}

-- the fields and the pairs of a command, or its first fault and the pairs that were found before it
pub data CommandReading : Type 0 where
  sent : Fields → List Pair → CommandReading
  faulty : ℕ → List Pair → CommandReading

-- a code that was read behind good fields
abbrev pub code_read : Fields → Reading → CommandReading
code_read f (pairs ps) = cond (offset_within f.offset (length ps)) (sent f ps) (faulty 7 ps)
code_read f (fault number ps) = faulty number ps

unfoldable pub code_at : Fields → List ℕ → ℕ → CommandReading
code_at f s at = code_read f (read_code f.freq s at)

abbrev pub fields_read : List ℕ → Result (Fields × ℕ) ℕ → CommandReading
fields_read s (Err number) = faulty number []
fields_read s (Ok (f, at)) = code_at f s at

-- the command whose fields begin at a place of a text
unfoldable pub command_at : List ℕ → ℕ → CommandReading
command_at s at = fields_read s (fields_at s at)

-- ---- how the code keeps it: the answer, and the counts of the pairs found in lent memory, which has room for them

abbrev pub command_of : CommandReading → Result (Fields × ℕ) ℕ
command_of (sent f ps) = Ok (f, length ps)
command_of (faulty number ps) = Err number

abbrev pub found_in : CommandReading → List Pair
found_in (sent f ps) = ps
found_in (faulty number ps) = ps

pub record CommandInto (reading : CommandReading) (before : List ℕ) (r : Result (Fields × ℕ) ℕ) (after : List ℕ) : Type 0 where
  pub result : r ≡ command_of reading
  pub kept : after ≡ stored_in before 0 (counts_of (found_in reading))
  pub front : counts_in after (length (found_in reading)) ≡ counts_of (found_in reading)

-- ---- what is accepted: that every command read is such a one is the theorem `command_within` of proofs/Commands.antt
pub record Accepts (f : Fields) (ps : List Pair) : Type 0 where
  pub fields : FieldsWithin f
  pub code : Accepted f.freq ps
  pub offset : f.offset < 2 * length ps
