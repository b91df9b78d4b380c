-- Which line asks for a state; the last reading of a contact and the last switching of a relay.
use Rattle.std.specs.Prelude.{ℕ, ◌≤◌, ◌≡◌, Bool, true, false, not, List, [], ◌∷◌, ◌++◌, eqb, length}
use Rattle.laws.specs.Bytes.{bytes}
use Rattle.laws.specs.Checks.{between}
use Rattle.laws.specs.Lists.{all, cut, part}
use Rattle.words.specs.Places.{ports_of}
use Rattle.meaning.specs.Line.{number, within, is_address}
use Rattle.meaning.specs.Log.{Deed, passed, setting, switched, event, changed, felt, lit}
use Rattle.meaning.specs.Table.{Call, reading, judge, deeds_of, log_of}

-- a line "getstate,m:p" that is heard: from a connection 0 to 7 with room for a reply, at most 4,096 bytes from 32 to 126, no more fields
pub record AsksState (m p connection room : ℕ) (s : List ℕ) : Type 0 where
  pub connection_most : connection ≤ 7
  pub room_least : 128 ≤ room
  pub size_most : length s ≤ 4096
  pub printed : all (between 32 126) s ≡ true
  pub name : part 44 0 s ≡ bytes "getstate"
  pub address : is_address (part 44 1 s) ≡ true
  pub module_within : within 1 2 (part 58 0 (part 44 1 s)) ≡ true
  pub module_is_law : number (part 58 0 (part 44 1 s)) ≡ m
  pub port_within : within 1 (ports_of m) (part 58 1 (part 44 1 s)) ≡ true
  pub port_is_law : number (part 58 1 (part 44 1 s)) ≡ p
  pub ends : length (cut 44 s) ≤ 2

-- a reading of contact p, or a change of its mode
abbrev pub is_setting : ℕ → Deed → Bool
is_setting p (passed n) = false
is_setting p (setting q (changed mode)) = eqb q p
is_setting p (setting q (felt value)) = eqb q p
is_setting p (setting q (lit target ramp)) = false
is_setting p (switched q state) = false
is_setting p (event x) = false

-- "the last reading": v was read at p, and behind that deed no other reading of p, nor a change of its mode, is in the log
pub record LastFelt (log : List Deed) (p v : ℕ) : Type 0 where
  pub later : List Deed
  pub earlier : List Deed
  pub splits : log ≡ later ++ (setting p (felt v) ∷ earlier)
  pub quiet : all (λ d. not (is_setting p d)) later ≡ true

-- the same over a history: a call `reading p v` was taken, 0 or 1, and no call since then read p or changed its mode
pub record LastReading (h : List Call) (p v : ℕ) : Type 0 where
  pub later : List Call
  pub earlier : List Call
  pub splits : h ≡ later ++ (reading p v ∷ earlier)
  pub taken : deeds_of (judge (log_of earlier) (reading p v)) ≡ setting p (felt v) ∷ []
  pub small : v ≤ 1
  pub since : List Deed
  pub logs : log_of h ≡ since ++ (setting p (felt v) ∷ log_of earlier)
  pub quiet : all (λ d. not (is_setting p d)) since ≡ true

abbrev pub is_switching : ℕ → Deed → Bool
is_switching p (passed n) = false
is_switching p (setting q x) = false
is_switching p (switched q state) = eqb q p
is_switching p (event x) = false

-- "every relay open (0)" until it is switched, then as it was switched last
pub data LastSwitched (log : List Deed) (p state : ℕ) : Type 0 where
  never : state ≡ 0 → all (λ d. not (is_switching p d)) log ≡ true → LastSwitched log p state
  last : (later earlier : List Deed) → log ≡ later ++ (switched p state ∷ earlier) → all (λ d. not (is_switching p d)) later ≡ true
      → LastSwitched log p state
