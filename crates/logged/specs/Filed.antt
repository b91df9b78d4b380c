-- From contact to file: what a logger at one connection hears of all that is written to it, and what it hears of a contact.
use Rattle.std.specs.Prelude.{ℕ, ◌≡◌, Bool, true, false, cond, List, [], ◌∷◌, ◌++◌, map, eqb}
use Rattle.std.proofs.Math.Option.{none}
use Rattle.laws.specs.Lists.{all}
use Rattle.words.specs.Decimal.{decimal}
use Rattle.meaning.specs.Line as text
use Rattle.meaning.specs.Table.{replied, answer_of, Call, line, overlong, reading, closing, waiting, judge, log_of}
use Rattle.theorems.specs.Contacts.{AsksState, LastReading}
use Rattle.request.specs.declared.Place.{Place}
use Rattle.request.specs.Place.{place_of}
use Rattle.lines.specs.Cut.{Line, whole, stream_of}
use Rattle.logger.specs.declared.Heard.{Heard}
use Rattle.logger.specs.declared.Heard.TheVariants.{NotReply, State, Complete, Busy, Stop, Mode, Error, Version, Listed, Lamp}
use Rattle.logger.specs.Heard.{line_of, writable, Hears}
use Rattle.logger.specs.Tally.{same_place}

-- the assembler's lines as they are read, one for one; there is no overlong one among them
pub data Heards : List Line → List Heard → Type 0 where
  ended : Heards [] []
  reads : {s : List ℕ} {r : Heard} {lines : List Line} {rs : List Heard} → Hears s r → Heards lines rs → Heards (whole s ∷ lines) (r ∷ rs)

-- what texts say, text by text and in their order: each is made of the lines of replies that a hub can write
pub data Says : List (List ℕ) → List Heard → Type 0 where
  silent : Says [] []
  speaks : {texts : List (List ℕ)} {rs : List Heard} (words : List ℕ) (replies : List Heard) → all writable replies ≡ true
      → words ≡ stream_of (map line_of replies) [] → Says texts rs → Says (words ∷ texts) (replies ++ rs)

-- the states of a place among what was heard, in their order
abbrev pub state_in : Place → Heard → List ℕ
state_in place NotReply = []
state_in place (State a v) = cond (same_place a place) (v ∷ []) []
state_in place (Complete a id) = []
state_in place (Busy a id) = []
state_in place (Stop a) = []
state_in place (Mode a mode) = []
state_in place (Error number a) = []
state_in place Version = []
state_in place (Listed d) = []
state_in place (Lamp a level target) = []

abbrev pub states_of : Place → List Heard → List ℕ
states_of place [] = []
states_of place (r ∷ rs) = state_in place r ++ states_of place rs

-- Numbers that a connection was told of contact p by these calls after a history, each by one call: a `getstate,1:p` of its own, answered with
-- this number, which was the contact's last reading then. All other calls told it none.
pub data Readings (connection p : ℕ) : List Call → List Call → List ℕ → Type 0 where
  over : {h : List Call} → Readings connection p h [] []
  told : {h calls : List Call} {vs : List ℕ} (room : ℕ) (s : List ℕ) (v : ℕ)
      → AsksState 1 p connection room s → answer_of (judge (log_of h) (line connection room s)) ≡ replied (text.line "state," 1 p (decimal v)) none
      → LastReading h p v
      → Readings connection p (line connection room s ∷ h) calls vs → Readings connection p h (line connection room s ∷ calls) (v ∷ vs)
  other : {h calls : List Call} {vs : List ℕ} (call : Call) → Readings connection p (call ∷ h) calls vs → Readings connection p h (call ∷ calls) vs

-- a call that reads contact p
abbrev pub is_reading_of : ℕ → Call → Bool
is_reading_of p (line connection room s) = false
is_reading_of p (overlong connection room) = false
is_reading_of p (reading q value) = eqb q p
is_reading_of p (closing connection) = false
is_reading_of p (waiting n) = false

-- what a connection was written by calls after a history, as texts, and what the lines of it are read as
pub record Filed (h calls : List Call) (connection : ℕ) (texts : List (List ℕ)) (lines : List Line) : Type 0 where
  pub heard : List Heard
  -- it is what was said, one for one and in order
  pub said : Says texts heard
  pub read : Heards lines heard
  -- and nothing else could be read
  pub only : (rs : List Heard) → Heards lines rs → rs ≡ heard
  -- a contact's 0 or 1 was its last reading when it was asked for
  pub contacts : (p : ℕ) → Readings connection p h calls (states_of (place_of 1 p) heard)
