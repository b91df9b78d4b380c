-- Decimal digits, and what they are worth.
use Rattle.std.specs.Prelude.{ℕ, ◌+◌, ◌-◌, ◌*◌, ◌≤◌, ◌≡◌, List, [], ◌∷◌, Bool, true, false, cond, ltb, leb, length}
use Rattle.laws.specs.Lists.{all}

abbrev pub is_digit : ℕ → Bool
is_digit b = cond (ltb b 48) false (leb b 57)

-- what digits are worth, behind others worth v; leading zeros count for nothing
abbrev pub worth : ℕ → List ℕ → ℕ
worth v [] = v
worth v (d ∷ ds) = worth (v * 10 + (d - 48)) ds

-- digits that spell a number: "A number is a run of decimal digits; leading zeros count for nothing. A run of over 6 digits, zeros included, is
-- out of range."
pub record Spells (digits : List ℕ) (n : ℕ) : Type 0 where
  pub some : 1 ≤ length digits
  pub few : length digits ≤ 6
  pub decimal : all is_digit digits ≡ true
  pub value : worth 0 digits ≡ n
