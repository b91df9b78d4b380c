-- Document 01: "Each count is 4 to 50000 and lasts at least 80 µs: 12,500 × count is at least freq. The smallest legal
-- count for a frequency is a public answer, refused with 005 for a frequency out of range."
use Rattle.std.specs.Prelude.{ℕ, ◌*◌, ◌<◌, ◌≡◌, Bool, true, false, cond, ◌&&◌, ltb, leb, Result, Ok, Err}
use Rattle.words.specs.declared.Pair.{Pair}

unfoldable pub legal : ℕ → ℕ → Bool
legal freq count = cond (ltb count 4) false (cond (ltb 50000 count) false (leb freq (12500 * count)))

-- "id 0 to 65535; freq 15000 to 500000 Hz; repeat 1 to 999999 ..; offset odd, 1 to 383."
abbrev pub most_id : ℕ
most_id = 65535

abbrev pub least_freq : ℕ
least_freq = 15000

abbrev pub most_freq : ℕ
most_freq = 500000

abbrev pub most_repeat : ℕ
most_repeat = 999999

abbrev pub most_offset : ℕ
most_offset = 383

unfoldable pub freq_in_range : ℕ → Bool
freq_in_range freq = cond (ltb freq least_freq) false (leb freq most_freq)

-- "1 to 260 pairs", and an on and an off count for each
abbrev pub most_pairs : ℕ
most_pairs = 260

abbrev pub most_counts : ℕ
most_counts = 2 * most_pairs

-- "The offset is at most twice the number of pairs, less one."
abbrev pub offset_within : ℕ → ℕ → Bool
offset_within offset pairs = ltb offset (2 * pairs)

-- legal, and nothing smaller is
pub record IsSmallest (freq count : ℕ) : Type 0 where
  pub allowed : legal freq count ≡ true
  pub least : (k : ℕ) → k < count → legal freq k ≡ false

abbrev pub SmallestCount : ℕ → Result ℕ ℕ → Type 0
SmallestCount freq (Err number) = (number ≡ 5) × (freq_in_range freq ≡ false)
SmallestCount freq (Ok count) = IsSmallest freq count × (freq_in_range freq ≡ true)

-- both counts of a pair are legal
abbrev pub legal_pair : ℕ → Pair → Bool
legal_pair freq p = legal freq p.on && legal freq p.off
