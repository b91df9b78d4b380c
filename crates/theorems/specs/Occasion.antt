-- Which numbers an error line can have, and for which address.
use Rattle.std.specs.Prelude.{ℕ, ◌≡◌, Bool, true, false, List, [], ◌∷◌, eqb}
use Rattle.laws.specs.Checks.{between, one_of}
use Rattle.laws.specs.Lists.{part}
use Rattle.words.specs.Places.{connectors, relays}
use Rattle.meaning.specs.Line.{number}
use Rattle.meaning.specs.Table.{Answer, refused, taken, replied, Call, line, overlong, reading, closing, waiting}

-- "For 001, 002, 003, 015 and 017 the address is 0:0"
abbrev pub unaddressed : List ℕ
unaddressed = 15 ∷ 1 ∷ 17 ∷ 2 ∷ 3 ∷ []

-- "009, 010, 020, 021, 022: faults of a code"
abbrev pub faults_of_code : List ℕ
faults_of_code = 9 ∷ 10 ∷ 20 ∷ 21 ∷ 22 ∷ []

-- "otherwise it is the one asked for"
abbrev pub addressed : List ℕ
addressed = 13 ∷ 14 ∷ 18 ∷ 23 ∷ 28 ∷ 29 ∷ 4 ∷ 5 ∷ 6 ∷ 7 ∷ faults_of_code

-- the numbers of section 6 that stand for nothing in this hub
abbrev pub unused : List ℕ
unused = 8 ∷ 11 ∷ 12 ∷ 16 ∷ 19 ∷ 24 ∷ 25 ∷ 26 ∷ 27 ∷ []

-- field 1 of a call's line is m:p
abbrev pub AsksFor : Call → ℕ → ℕ → Type 0
AsksFor (line connection room s) m p = (number (part 58 0 (part 44 1 s)) ≡ m) × (number (part 58 1 (part 44 1 s)) ≡ p)
AsksFor (overlong connection room) m p = ⊥
AsksFor (reading port value) m p = ⊥
AsksFor (closing connection) m p = ⊥
AsksFor (waiting n) m p = ⊥

-- a number of the table with its address: 0:0, a connector 1:p, or with 023 a relay 2:p
pub data Listed (call : Call) : ℕ → ℕ → ℕ → Type 0 where
  nowhere : {n : ℕ} → one_of unaddressed n ≡ true → Listed call n 0 0
  connector : {n p : ℕ} → one_of addressed n ≡ true → AsksFor call 1 p → between 1 connectors p ≡ true → Listed call n 1 p
  relay : {p : ℕ} → AsksFor call 2 p → between 1 relays p ≡ true → Listed call 23 2 p

-- a reply that begins with `E`
abbrev pub says_error : Answer → Bool
says_error (refused n) = false
says_error (taken l) = false
says_error (replied [] owner) = false
says_error (replied (b ∷ text) owner) = eqb b 69
