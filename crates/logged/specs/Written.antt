-- All that is written to one connection over a list of calls: replies to its own lines, stop notices and completions. Document 01: "`stopir,1:p`;
-- the same to the owner of a halted transmission, if another connection"; a completion goes to its owner, and "One without an owner is listed
-- without an addressee".
use Rattle.std.specs.Prelude.{ℕ, ◌≡◌, cond}
use mathlib.Core.List.{List, [], ◌∷◌, ◌++◌, flatten}
use Rattle.std.proofs.Math.Option.{Option, none, some}
use Rattle.meaning.specs.Log.{is_owner}
use Rattle.meaning.specs.Table.{Completion, Answer, refused, taken, replied, Call, line, overlong, reading, closing, waiting, Said}
use Rattle.lines.specs.Cut.{divided}

-- whose line a call is
abbrev pub asker : Call → Option ℕ
asker (line connection room s) = some connection
asker (overlong connection room) = some connection
asker (reading p value) = none
asker (closing connection) = none
asker (waiting n) = none

-- a text for a connection, if it is this one
abbrev pub for_one : ℕ → Option ℕ → List ℕ → List (List ℕ)
for_one connection whom text = cond (is_owner connection whom) (text ∷ []) []

abbrev pub notices_to : ℕ → List Completion → List (List ℕ)
notices_to connection [] = []
notices_to connection (x ∷ l) = for_one connection x.owner x.notice ++ notices_to connection l

-- what a call's answer writes to a connection, text by text: the asker's reply before the owner's
abbrev pub written_by : ℕ → Call → Answer → List (List ℕ)
written_by connection call (refused n) = []
written_by connection call (taken l) = notices_to connection l
written_by connection call (replied words told) = for_one connection (asker call) words ++ for_one connection told words

-- and what the answers to a list of calls write
abbrev pub written_to : ℕ → List Call → List Said → List (List ℕ)
written_to connection [] said = []
written_to connection (call ∷ l) [] = []
written_to connection (call ∷ l) (x ∷ said) = written_by connection call x.answer ++ written_to connection l said

-- a history, by whoever tells what is said to its calls, in which this line is written to a connection
pub record Writes (tell : List Call → List Said) (s : List ℕ) : Type 0 where
  pub calls : List Call
  pub connection : ℕ
  pub before : List (List ℕ)
  pub after : List (List ℕ)
  pub among : (divided [] (flatten (written_to connection calls (tell calls)))).parts ≡ before ++ (s ∷ after)
