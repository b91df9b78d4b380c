-- A tally of what was heard of one place, and the average. Only a state of that place, 0 or 1, is a reading. That a tally is the count of them
-- over any list of lines is the theorem `tally_counts` of proofs/Tallies.antt.
use Rattle.std.specs.Prelude.{ℕ, suc, ◌+◌, ◌-◌, ◌≤◌, ◌≡◌, Bool, false, cond, not, ◌&&◌, ◌||◌, Option, Some, None, List, [], ◌∷◌, eqb}
use Rattle.laws.specs.Checks.{◌⇒◌, first}
use Rattle.request.specs.declared.Place.{Place}
use Rattle.logger.specs.declared.Heard.{Heard}
use Rattle.logger.specs.declared.Heard.TheVariants.{NotReply, State, Complete, Busy, Stop, Mode, Error, Version, Listed, Lamp}
use Rattle.logger.specs.declared.tally.Tally.{Tally}

abbrev pub same_place : Place → Place → Bool
same_place a b = eqb a.m b.m && eqb a.port b.port

-- whether what was heard tells this state of a place
abbrev pub tells : Place → ℕ → Heard → Bool
tells place state NotReply = false
tells place state (State a told) = eqb told state && same_place a place
tells place state (Complete a id) = false
tells place state (Busy a id) = false
tells place state (Stop a) = false
tells place state (Mode a mode) = false
tells place state (Error number a) = false
tells place state Version = false
tells place state (Listed d) = false
tells place state (Lamp a level target) = false

abbrev pub tally : Place → ℕ → ℕ → ℕ → Tally
tally place readings ones others = record { place = place; readings = readings; ones = ones; others = others }

abbrev pub fresh_tally : Place → Tally
fresh_tally place = tally place 0 0 0

-- as many lines as are counted
abbrev pub most_lines : ℕ
most_lines = 18446744073709551615

-- after one line more; a tally that has as many as are counted stays as it is
unfoldable pub counted : Tally → Heard → Tally
counted t h = first
    ((eqb t.others (most_lines - t.readings) ⇒ t)
    ∷ (tells t.place 1 h ⇒ tally t.place (t.readings + 1) (t.ones + 1) t.others)
    ∷ (tells t.place 0 h ⇒ tally t.place (t.readings + 1) t.ones t.others)
    ∷ []) (tally t.place t.readings t.ones (t.others + 1))

-- what every tally has that a fresh one and the lines gave
pub record SoundTally (t : Tally) : Type 0 where
  pub some : t.ones ≤ t.readings
  pub most : t.readings + t.others ≤ most_lines

-- after all of some lines
abbrev pub tallied_from : Tally → List Heard → Tally
tallied_from t [] = t
tallied_from t (h ∷ l) = tallied_from (counted t h) l

abbrev pub tallied : Place → List Heard → Tally
tallied place l = tallied_from (fresh_tally place) l

-- "the exact pair (ones, readings), and there is none .. where there is no reading"
unfoldable pub average_of : Tally → Option (ℕ × ℕ)
average_of t = cond (eqb t.readings 0) None (Some (t.ones, t.readings))

-- of how many a test holds
abbrev pub how_many : {A : Type 0} → (A → Bool) → List A → ℕ
how_many test [] = 0
how_many test (x ∷ l) = cond (test x) (suc (how_many test l)) (how_many test l)

-- a reading of a place: 0 or 1 of it was told
abbrev pub is_reading : Place → Heard → Bool
is_reading place h = tells place 1 h || tells place 0 h

-- a tally of some lines: the readings among them, those that told 1, and all else; nothing else adds to it
pub record TallyOf (place : Place) (l : List Heard) (t : Tally) : Type 0 where
  pub of : t.place ≡ place
  pub readings : t.readings ≡ how_many (is_reading place) l
  pub ones : t.ones ≡ how_many (tells place 1) l
  pub others : t.others ≡ how_many (λ h. not (is_reading place h)) l
