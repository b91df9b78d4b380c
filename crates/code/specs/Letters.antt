-- Document 01: "going through the expanded pairs in order, the first 15 distinct pairs get A to O as each first occurs."
use Rattle.std.specs.Prelude.{ℕ, suc, ◌+◌, ◌≤◌, ◌≡◌, Bool, cond, List, [], ◌∷◌, ◌++◌, length, take, set, replicate, ltb}
use Rattle.words.specs.declared.Pair.{Pair}
use Rattle.words.specs.Pairs.{pair, same_pair}
use Rattle.code.specs.declared.letters.Letters.{Letters}

-- the place where a pair first stands in a list, the list's length where it does not
abbrev pub place_of : Pair → List Pair → ℕ
place_of p [] = 0
place_of p (q ∷ l) = cond (same_pair q p) 0 (suc (place_of p l))

abbrev pub has : Pair → List Pair → Bool
has p l = ltb (place_of p l) (length l)

-- the pairs that have a letter, the first A, after one pair more
unfoldable pub learnt : List Pair → Pair → List Pair
learnt letters p = cond (has p letters) letters (cond (ltb (length letters) 15) (letters ++ (p ∷ [])) letters)

-- the pairs that have a letter after others
abbrev pub letters_of : List Pair → List Pair → List Pair
letters_of letters [] = letters
letters_of letters (p ∷ ps) = letters_of (learnt letters p) ps

-- ---- how the code keeps them

abbrev pub no_letters : Letters
no_letters = record { count = 0; pairs = replicate 15 (pair 0 0) }

abbrev pub held : Letters → List Pair
held letters = take letters.count letters.pairs

pub record Kept (letters : Letters) (pairs : List Pair) : Type 0 where
  pub few : letters.count ≤ 15
  pub counted : length (held letters) ≡ letters.count
  pub are : held letters ≡ pairs

-- the record after one pair more: a new pair stands behind the others, and nothing else moves
unfoldable pub learnt_letters : Letters → Pair → Letters
learnt_letters t p =
    cond (ltb (place_of p (held t)) t.count) t
    (cond (ltb t.count 15) (record { count = t.count + 1; pairs = set t.pairs t.count p }) t)

pub record Learns (t : Letters) (p : Pair) (r : Letters) : Type 0 where
  pub result : r ≡ learnt_letters t p
  pub kept : t.count ≤ 15 → Kept r (learnt (held t) p)
