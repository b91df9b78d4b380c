-- Time on a connector. Document 01: "The first copy is all pairs; each further copy runs from the on count at the offset. After t
-- microseconds a transmission has done t × freq / 1,000,000 periods, an exact fraction. .. The transmission is complete at the
-- first whole microsecond when the fraction reaches the total." In ticks, millionths of a period, all of these are whole numbers.
use Rattle.std.specs.Prelude.{ℕ, ◌+◌, ◌-◌, ◌*◌, ◌/◌, ◌%◌, ◌≤◌, ◌<◌, ◌≡◌, cond, List, [], ◌∷◌, ltb, leb}
use Rattle.words.specs.declared.Pair.{Pair}
use Rattle.meaning.specs.Time.{in_ticks, first_micro}
use Rattle.pace.specs.declared.Periods.{Periods}
use Rattle.pace.specs.declared.Micros.{Micros}
use Rattle.pace.specs.declared.Ticks.{Ticks}
use Rattle.pace.specs.declared.Pace.{Pace}
use Rattle.pace.specs.declared.Passed.{Passed}
use Rattle.pace.specs.declared.Passed.TheVariants.{Running, Complete}

abbrev pub periods : ℕ → Periods
periods n = record { 0 = n }

abbrev pub micros : ℕ → Micros
micros n = record { 0 = n }

abbrev pub ticks : ℕ → Ticks
ticks n = record { 0 = n }

-- a count as a number of periods: a small one
pub record WideCount (count r : ℕ) : Type 0 where
  pub result : r ≡ count
  pub small : r ≤ 65535

-- what pairs last, in carrier periods
abbrev pub periods_of : List Pair → ℕ
periods_of [] = 0
periods_of (p ∷ ps) = p.on + p.off + periods_of ps

abbrev pub pace_of : ℕ → ℕ → ℕ → ℕ → Pace
pace_of lead tail copies at = record { lead = periods lead; tail = periods tail; copies = copies; at = ticks at }

abbrev pub started : Periods → Periods → ℕ → Pace
started lead tail repeat = record { lead = lead; tail = tail; copies = repeat; at = ticks 0 }

-- where it is complete: the pairs before the offset, and in each copy those from it on
unfoldable pub end_of : Pace → ℕ
end_of p = in_ticks (p.lead.0 + p.copies * p.tail.0)

-- of the record's copies those that are finished; "at an exact boundary the copy just ended is finished"
unfoldable pub finished : Pace → ℕ
finished p = (p.at.0 - in_ticks p.lead.0) / in_ticks p.tail.0

-- "the total becomes copies finished plus repeat": the finished ones are taken off the total and off the way, so that neither grows
unfoldable pub renewed : Pace → ℕ → Pace
renewed p repeat = pace_of p.lead.0 p.tail.0 repeat (p.at.0 - finished p * in_ticks p.tail.0)

-- the place in the pairs: in the first copy as it is, later within the pairs from the offset on
unfoldable pub place_of : Pace → ℕ
place_of p =
    cond (ltb p.at.0 (in_ticks p.lead.0)) p.at.0
    (in_ticks p.lead.0 + (p.at.0 - in_ticks p.lead.0) % in_ticks p.tail.0)

abbrev pub moved_to : Pace → ℕ → Pace
moved_to p at = record { lead = p.lead; tail = p.tail; copies = p.copies; at = ticks at }

unfoldable pub passed : Pace → ℕ → ℕ → Passed
passed p freq wait =
    cond (leb (end_of p) (p.at.0 + wait * freq))
    (Complete (micros (first_micro (end_of p - p.at.0) freq)))
    (Running (moved_to p (p.at.0 + wait * freq)))

-- what every pace of a hub has: it is not complete, and its numbers are small
pub record SoundPace (p : Pace) : Type 0 where
  pub lead_high : p.lead.0 ≤ 26000000
  pub tail_low : 1 ≤ p.tail.0
  pub tail_high : p.tail.0 ≤ 26000000
  pub copies_high : p.copies ≤ 20
  pub under_way : p.at.0 < end_of p
