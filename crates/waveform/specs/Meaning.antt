-- The words in which proofs/Meaning.antt says what the notions of a transmission mean.
use Rattle.std.specs.Prelude.{ℕ, zero, suc, ◌+◌, ◌%◌, ◌≡◌, Bool, cond, eqb, leb}
use Rattle.meaning.specs.Time.{in_ticks, lasts, waveform, done, Transmission}

-- on and off counts take turns, so that one with an even number of them before it is an on count
abbrev pub is_even : ℕ → Bool
is_even n = eqb (n % 2) 0

-- one command, sent from one moment on; the number of copies may differ
pub record SameStart (s r : Transmission) : Type 0 where
  pub fields : r.fields ≡ s.fields
  pub pairs : r.pairs ≡ s.pairs
  pub start : r.start ≡ s.start

-- where copy n ends, in ticks: all that is sent up to there, written out
abbrev pub copy_end : Transmission → ℕ → ℕ
copy_end s n = in_ticks (lasts (waveform s.fields s.pairs n))

-- of the first n copies those that are not yet finished at a moment, counted one by one: their end is not reached
abbrev pub unfinished : Transmission → ℕ → ℕ → ℕ
unfinished s t zero = 0
unfinished s t (suc n) = cond (leb (copy_end s (suc n)) (done s t)) 0 1 + unfinished s t n
