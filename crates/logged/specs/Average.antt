-- The average of a contact, as a tally of what a connection heard gives it: made of readings that were taken.
use Rattle.std.specs.Prelude.{ℕ, ◌≡◌, Option, Some, None, List, [], ◌∷◌, eqb, length}
use Rattle.meaning.specs.Table.{Call}
use Rattle.logger.specs.declared.tally.Tally.{Tally}
use Rattle.logger.specs.Tally.{average_of, how_many}
use Rattle.logged.specs.Filed.{Readings}

-- the average of some numbers: how many of them are 1, of how many; none where there is no number
abbrev pub average_in : List ℕ → Option (ℕ × ℕ)
average_in [] = None
average_in (v ∷ vs) = Some (how_many (λ x. eqb x 1) (v ∷ vs), length (v ∷ vs))

-- there are as many readings in the tally as lines of the connection were answered with the contact's last reading, and as many ones as of
-- these readings were 1; and the average is theirs
pub record MadeOfReadings (h calls : List Call) (connection p : ℕ) (t : Tally) : Type 0 where
  pub values : List ℕ
  pub were_read : Readings connection p h calls values
  pub readings : t.readings ≡ length values
  pub ones : t.ones ≡ how_many (λ v. eqb v 1) values
  pub average : average_of t ≡ average_in values
