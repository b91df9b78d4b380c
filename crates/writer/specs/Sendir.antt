-- A sendir line without CR: "105 a code writer's buffer under 4,096 bytes; 106, after 105", "Bytes of a lent buffer after
-- what is written keep their contents."
use Rattle.std.specs.Prelude.{ℕ, ◌<◌, ◌≡◌, cond, List, [], ◌++◌, length, Result, Ok, Err, ltb}
use Rattle.laws.specs.Bytes.{bytes}
use Rattle.laws.specs.Put.{over}
use Rattle.words.specs.Decimal.{decimal}
use Rattle.words.specs.declared.Pair.{Pair}
use Rattle.words.specs.declared.Fields.{Fields}
use Rattle.request.specs.declared.Place.{Place}
use Rattle.command.specs.declared.given.Command.{Command}
use Rattle.command.specs.Read.{CommandReading, sent, faulty}
use Rattle.command.specs.Given.{command_given}
use Rattle.writer.specs.declared.Form.{Form}
use Rattle.writer.specs.CodeText.{code_text}

abbrev pub field_text : ℕ → List ℕ
field_text n = decimal n ++ bytes ","

-- sendir,1:p,id,freq,repeat,offset,
unfoldable pub sendir_head : ℕ → Fields → List ℕ
sendir_head port f =
    bytes "sendir,1:" ++ field_text port ++ field_text f.id ++ field_text f.freq ++ field_text f.repeat ++ field_text f.offset

abbrev pub sendir_line : Form → Place → Fields → List Pair → List ℕ
sendir_line form place f ps = sendir_head place.port f ++ code_text form ps

-- a line to write, or a refusal
pub data Outcome : Type 0 where
  refused : ℕ → Outcome
  line : List ℕ → Outcome

abbrev pub command_outcome : Form → Place → CommandReading → Outcome
command_outcome form place (faulty number ps) = refused number
command_outcome form place (sent f ps) = line (sendir_line form place f ps)

unfoldable pub outcome : ℕ → Form → Command → List ℕ → Outcome
outcome room form c given = cond (ltb room 4096) (refused 105) (command_outcome form c.place (command_given c given))

abbrev pub answer_of : Outcome → Result ℕ ℕ
answer_of (refused number) = Err number
answer_of (line text) = Ok (length text)

-- nothing is written of a refusal
abbrev pub bytes_of : Outcome → List ℕ
bytes_of (refused number) = []
bytes_of (line text) = text

pub record Wrote (before : List ℕ) (form : Form) (c : Command) (given after : List ℕ) (r : Result ℕ ℕ) : Type 0 where
  pub answer : r ≡ answer_of (outcome (length before) form c given)
  pub laid : after ≡ over before 0 (bytes_of (outcome (length before) form c given))

-- numbers of at most six digits, as the head's writer asks for
pub record Small (port : ℕ) (f : Fields) : Type 0 where
  pub port_small : port < 1000000
  pub id_small : f.id < 1000000
  pub freq_small : f.freq < 1000000
  pub repeat_small : f.repeat < 1000000
  pub offset_small : f.offset < 1000000
