-- What a code's text means: the pairs that spelled pairs and letters, written one after the other, stand for. That the
-- reader accepts a text with certain pairs exactly when it means them are the theorems `means_read` and `read_means` of
-- proofs/Exactly.antt.
use Rattle.std.specs.Prelude.{ℕ, ◌+◌, ◌≤◌, ◌<◌, ◌≡◌, true, List, [], ◌∷◌, ◌++◌, length, take, get_or}
use Rattle.laws.specs.Bytes.{bytes}
use Rattle.words.specs.Digits.{Spells}
use Rattle.words.specs.declared.Pair.{Pair}
use Rattle.code.specs.Limits.{legal_pair}
use Rattle.words.specs.Pairs.{pair, distinct}

-- a pair spelled by the digits of its on and off count, or a letter, A being 0
pub data Item : Type 0 where
  spelled : List ℕ → List ℕ → Item
  letter : ℕ → Item

abbrev pub item_text : Item → List ℕ
item_text (spelled on off) = on ++ bytes "," ++ off
item_text (letter i) = (65 + i) ∷ []

-- "A letter stands for its pair, with no comma on either side. Two spelled pairs have one comma between them."
abbrev pub between : Item → Item → List ℕ
between (spelled on off) (spelled on' off') = bytes ","
between (spelled on off) (letter i) = []
between (letter i) y = []

abbrev pub text_behind : Item → List Item → List ℕ
text_behind x [] = []
text_behind x (y ∷ is) = between x y ++ item_text y ++ text_behind y is

abbrev pub text_of : List Item → List ℕ
text_of [] = []
text_of (x ∷ is) = item_text x ++ text_behind x is

-- the pairs that have letters behind others: "going through the expanded pairs in order, the first 15 distinct pairs get
-- A to O as each first occurs."
abbrev pub lettered : List Pair → List Pair
lettered before = take 15 (distinct before)

-- what an item stands for behind other pairs: a spelled pair for its counts, which are legal, a letter for the pair that
-- has it. "A pair that has a letter may still be spelled."
abbrev pub Stands : ℕ → List Pair → Item → Pair → Type 0
Stands freq before (spelled on off) p = Spells on p.on × Spells off p.off × (legal_pair freq p ≡ true)
Stands freq before (letter i) p = (i < length (lettered before)) × (get_or (lettered before) i (pair 0 0) ≡ p)

-- the pairs that items expand to behind others, one for each item
pub data Expands (freq : ℕ) : List Pair → List Item → List Pair → Type 0 where
  none : {before : List Pair} → Expands freq before [] []
  more : {before ps : List Pair} {x : Item} {is : List Item} {p : Pair} → Stands freq before x p
      → Expands freq (before ++ (p ∷ [])) is ps → Expands freq before (x ∷ is) (p ∷ ps)

-- "1 to 260 pairs of on and off counts"
pub record Means (freq : ℕ) (text : List ℕ) (ps : List Pair) : Type 0 where
  pub items : List Item
  pub written : text_of items ≡ text
  pub expands : Expands freq [] items ps
  pub some : 1 ≤ length ps
  pub most : length ps ≤ 260
