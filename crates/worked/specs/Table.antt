-- The worked values of document 01 that are marked P, and the bench program's session. Each row says what is given and what it gives; `Holds` says what a row claims, and
-- proofs/Worked.antt proves it of the whole table.
use Rattle.std.specs.Prelude.{ℕ, ◌≡◌, List, [], ◌∷◌, map, Ok}
use Prim.Native.String.{String}
use Rattle.std.proofs.Math.Option.{none, some}
use Rattle.laws.specs.Bytes.{bytes}
use Rattle.words.specs.Pairs.{pairs_of}
use Rattle.meaning.specs.Table.{Answer, taken, replied, Call, line, reading, waiting, Said, said}
use Rattle.code.specs.Limits.{SmallestCount}
use Rattle.code.specs.declared.Code.{Code}
use Rattle.code.specs.declared.Code.TheVariants.{Fault}
use Rattle.code.specs.Read.{pairs, read_of, read_code}
use Rattle.writer.specs.declared.Form.TheVariants.{Lettered}
use Rattle.writer.specs.CodeText.{code_text}
use Rattle.hub.specs.Record.{fresh_hub}
use Rattle.history.specs.Run.{run}

pub data Row : Type 0 where
  -- counts that are written lettered as this text, and read back, at 40000 Hz
  lettered : List ℕ → String → Row
  -- the smallest legal count at a frequency
  smallest : ℕ → ℕ → Row
  -- a code's text, and what it is read as at 40000 Hz
  code : String → Code → Row
  -- a line to a fresh hub, and its reply
  answered : String → String → Row
  -- a line to a fresh hub that is taken, and the completion of connector 1 at the end of a wait of so many microseconds
  completes : String → ℕ → Row
  -- calls, and what they are told by the table and the log book
  session : List Call → List Answer → Row

-- what is told to calls, of all that is said
abbrev pub answers : List Said → List Answer
answers l = map (λ (s : Said). s.answer) l

abbrev pub asks : ℕ → String → Call
asks connection text = line connection 128 (bytes text)

-- a reply to the asker alone; a completion of connector 1, told its owner
abbrev pub told : String → Answer
told text = replied (bytes text) none

abbrev pub completion : ℕ → ℕ → String → Answer
completion moment owner text = taken (record { moment = moment; owner = some owner; notice = bytes text } ∷ [])

abbrev pub HoldsOf : Row → Type 0
HoldsOf (lettered counts text) =
    (code_text Lettered (pairs_of counts) ≡ bytes text) × (read_code 40000 (bytes text) 0 ≡ pairs (pairs_of counts))
HoldsOf (smallest freq count) = SmallestCount freq (Ok count)
HoldsOf (code text gives) = read_of (read_code 40000 (bytes text) 0) ≡ gives
HoldsOf (answered text reply) = (store : List ℕ) → answers (run fresh_hub store (asks 0 text ∷ [])) ≡ (told reply ∷ [])
HoldsOf (completes text n) =
    (store : List ℕ) → answers (run fresh_hub store (asks 0 text ∷ waiting n ∷ [])) ≡ (taken [] ∷ completion n 0 "completeir,1:1,0\r" ∷ [])
HoldsOf (session calls gives) = answers (said [] calls) ≡ gives

abbrev pub Holds : List Row → Type 0
Holds [] = Unit
Holds (r ∷ rows) = HoldsOf r × Holds rows

abbrev pub table : List Row
table =
    lettered (4 ∷ 5 ∷ 4 ∷ 5 ∷ 8 ∷ 9 ∷ 4 ∷ 5 ∷ 8 ∷ 9 ∷ 8 ∷ 9 ∷ []) "4,5A8,9ABB"
    ∷ smallest 48000 4
    ∷ smallest 40000 4
    ∷ smallest 60000 5
    ∷ smallest 500000 40
    ∷ code "B" (Fault 22)
    ∷ code "4A" (Fault 21)
    ∷ code "4,5A,8,9" (Fault 9)
    ∷ code "4,5,8" (Fault 10)
    ∷ answered "sendir,5:3,3456,23400,1,1,24,48,24,960" "ERR_0:0,002\r"
    ∷ answered "sendir,1:2,23333,40000,2,3,24,48,24,48,960" "ERR_1:2,010\r"
    ∷ answered "sendir,1:3,0,40000,2,2,24,48,24,960" "ERR_1:3,007\r"
    -- repeat 0: 006
    ∷ answered "sendir,1:1,0,40000,0,1,24,48" "ERR_1:1,006\r"
    -- "21 is taken as 20": 20 copies of 72 periods of 25 µs
    ∷ completes "sendir,1:1,0,40000,21,1,24,48" 36000
    -- offset 3 with one pair: 007
    ∷ answered "sendir,1:1,0,40000,1,3,24,48" "ERR_1:1,007\r"
    -- the bench program's input: "1066 + 984 periods of 25 µs are 51,250 µs"
    ∷ session
    (asks 0 "set_IR,1:2,SENSOR"
    ∷ asks 0 "getstate,1:2"
    ∷ reading 2 0
    ∷ asks 0 "getstate,1:2"
    ∷ asks 1 "sendir,1:1,7,40000,2,3,34,48,24,960"
    ∷ asks 2 "sendir,1:1,9,40000,1,1,24,960"
    ∷ waiting 51249
    ∷ waiting 1
    ∷ [])
    (told "IR,1:2,SENSOR\r"
    ∷ told "ERR_1:2,028\r"
    ∷ taken []
    ∷ told "state,1:2,0\r"
    ∷ taken []
    ∷ told "busyIR,1:1,9\r"
    ∷ taken []
    ∷ completion 1 1 "completeir,1:1,7\r"
    ∷ [])
    ∷ []
