-- A code's text. Document 01: "its code in plain text (all pairs spelled) or lettered text (every later occurrence of a
-- lettered pair is its letter), numbers without leading zeros".
use Rattle.std.specs.Prelude.{ℕ, ◌<◌, ◌≡◌, Bool, cond, ◌&&◌, ◌||◌, List, [], ◌∷◌, eqb, leb, length, get_or}
use Rattle.laws.specs.Bytes.{bytes}
use Rattle.words.specs.Digits.{is_digit}
use Rattle.words.specs.Decimal.{decimal}
use Rattle.words.specs.declared.Pair.{Pair}
use Rattle.words.specs.Pairs.{pair}
use Rattle.code.specs.declared.next.After.{After}
use Rattle.code.specs.declared.next.After.TheVariants.{Nothing, Spelling, Lettering}
use Rattle.code.specs.Letters.{has, place_of, learnt}
use Rattle.lettered.specs.Lettered.{Item, spelled, letter, item_text, text_of, lettered}
use Rattle.writer.specs.declared.Form.{Form}
use Rattle.writer.specs.declared.Form.TheVariants.{Plain, Lettered}

-- a pair that is spelled
abbrev pub spelt : Pair → Item
spelt p = spelled (decimal p.on) (decimal p.off)

-- how a pair is written where these have letters
abbrev pub item_of : Form → List Pair → Pair → Item
item_of Plain letters p = spelt p
item_of Lettered letters p = cond (has p letters) (letter (place_of p letters)) (spelt p)

-- pairs as items, behind others of which these have letters
abbrev pub items : Form → List Pair → List Pair → List Item
items form letters [] = []
items form letters (p ∷ ps) = item_of form letters p ∷ items form (learnt letters p) ps

-- how a pair is written behind others in lettered text: by the letter that it has by then, and spelled where it has none
pub data LetteredAs (before : List Pair) (p : Pair) : Item → Type 0 where
  by_letter : {i : ℕ} → i < length (lettered before) → get_or (lettered before) i (pair 0 0) ≡ p → LetteredAs before p (letter i)
  by_spelling : ((i : ℕ) → i < length (lettered before) → get_or (lettered before) i (pair 0 0) ≡ p → ⊥) → LetteredAs before p (spelt p)

unfoldable pub code_text : Form → List Pair → List ℕ
code_text form ps = text_of (items form [] ps)

-- a byte of a code's text: one of A to O, a digit or a comma
abbrev pub code_byte : ℕ → Bool
code_byte b = (leb 65 b && leb b 79) || (is_digit b || eqb b 44)

-- ---- what the writer's small functions give

abbrev pub comma : After → List ℕ
comma Nothing = []
comma Spelling = bytes ","
comma Lettering = []

abbrev pub spelling : Pair → List ℕ
spelling p = item_text (spelt p)

-- of so many letters, those that the form uses
abbrev pub in_use : Form → ℕ → ℕ
in_use Plain letters = 0
in_use Lettered letters = letters
