-- Document 01: "A number is a run of decimal digits; leading zeros count for nothing. A run of over 6 digits, zeros
-- included, is out of range."
use Rattle.std.specs.Prelude.{ℕ, ◌+◌, ◌-◌, ◌*◌, List, [], ◌∷◌, cond, length, drop, ltb, eqb}
use Rattle.laws.specs.Checks.{◌⇒◌, first}
use Rattle.laws.specs.Lists.{leading}
use Rattle.words.specs.Digits.{is_digit, worth}
use Rattle.text.specs.declared.number.Number.{Number}
use Rattle.text.specs.declared.number.Number.TheVariants.{Missing, TooLong, Value}

-- the digits that a text begins with
abbrev pub run : List ℕ → List ℕ
run = leading is_digit

-- what n digits worth v are that end before next
abbrev pub found_number : ℕ → ℕ → ℕ → Number
found_number v n next = first
    ((eqb n 0 ⇒ Missing)
    ∷ (ltb 6 n ⇒ TooLong next)
    ∷ []) (Value v next)

-- what a run of digits that ends before next is
unfoldable pub number_of : List ℕ → ℕ → Number
number_of ds next = found_number (worth 0 ds) (length ds) next

-- the number at a place of a text
unfoldable pub number_at : List ℕ → ℕ → Number
number_at s at = number_of (run (drop at s)) (at + length (run (drop at s)))

-- the reader's value v of n digits, after one digit more; behind six it stays, for the run is too long
unfoldable pub grown : ℕ → ℕ → ℕ → ℕ
grown v n d = cond (ltb n 6) (v * 10 + (d - 48)) v
