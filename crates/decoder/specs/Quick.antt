-- What the quick reader of spelled pairs finds: the same as next_pair, where it finds anything.
use Rattle.std.specs.Prelude.{ℕ, ◌+◌, ◌≤◌, ◌<◌, ◌≡◌, true, List, length, get_or, Option, Some, None, Ok}
use Rattle.words.specs.Digits.{is_digit}
use Rattle.text.specs.Number.{number_at}
use Rattle.text.specs.declared.number.Number.TheVariants.{Value}
use Rattle.code.specs.declared.next.Next.TheVariants.{Spelled}
use Rattle.code.specs.declared.next.After.TheVariants.{Spelling}
use Rattle.words.specs.declared.Pair.{Pair}
use Rattle.code.specs.Next.{next_pair}

-- a comma at a place, and a number behind it that ends before next
pub record NumberBehind (s : List ℕ) (comma value next : ℕ) : Type 0 where
  pub below : comma < length s
  pub is_comma : get_or s comma 0 ≡ 44
  pub digit : is_digit (get_or s (comma + 1) 0) ≡ true
  pub number : number_at s (comma + 1) ≡ Value value next

-- what is found and not 0 is such a number
abbrev pub ShortAt : List ℕ → ℕ → Option (ℕ × ℕ) → Type 0
ShortAt s comma None = Unit {0}
ShortAt s comma (Some (value, next)) = 1 ≤ value → NumberBehind s comma value next

-- a pair that is found stands there behind a spelled pair, however many pairs and letters there are, as long as there is room
abbrev pub QuickAt : ℕ → List ℕ → ℕ → Option (Pair × ℕ) → Type 0
QuickAt freq s at (Some (p, next)) = (n m : ℕ) → n < 260 → next_pair freq n m Spelling s at ≡ Ok (Spelled p next)
QuickAt freq s at None = Unit {0}
