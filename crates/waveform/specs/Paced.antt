-- The hub's record of a transmission at a moment: what proofs/Paced.antt and proofs/Carried.antt say is the meaning's transmission.
use Rattle.std.specs.Prelude.{ℕ, ◌-◌, ◌*◌, ◌/◌, ◌≤◌, ◌<◌, length, take, drop}
use Rattle.meaning.specs.Time.{in_ticks, Transmission, done}
use Rattle.code.specs.Accepted.{Accepted}
use Rattle.command.specs.Fields.{FieldsWithin}
use Rattle.pace.specs.declared.Pace.{Pace}
use Rattle.pace.specs.Pace.{periods_of, pace_of}

-- the copies that renewals took off the record
abbrev pub removed : Transmission → ℕ
removed s = s.copies - s.fields.repeat

-- what the pairs before the offset last, and those from it on
abbrev pub lead : Transmission → ℕ
lead s = periods_of (take (s.fields.offset / 2) s.pairs)

abbrev pub tail : Transmission → ℕ
tail s = periods_of (drop (s.fields.offset / 2) s.pairs)

-- the record of a transmission at a moment
unfoldable pub pace_at : Transmission → ℕ → Pace
pace_at s t = pace_of (lead s) (tail s) (s.copies - removed s) (done s t - removed s * in_ticks (tail s))

-- a transmission of an accepted command, at a moment since its start; what renewals took off is finished
pub record Fit (s : Transmission) (t : ℕ) : Type 0 where
  pub within : FieldsWithin s.fields
  pub accepted : Accepted s.fields.freq s.pairs
  pub offset : s.fields.offset < 2 * length s.pairs
  pub since : s.start ≤ t
  pub enough : s.fields.repeat ≤ s.copies
  pub gone : removed s * in_ticks (tail s) ≤ done s t - in_ticks (lead s)
