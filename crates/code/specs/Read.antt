-- A whole code: its pairs, letters expanded, or the first fault from the left.
use Rattle.std.specs.Prelude.{ℕ, zero, suc, ◌≡◌, List, [], ◌∷◌, ◌++◌, length, get_or, Result, Ok, Err}
use Rattle.laws.specs.Put.{stored_in}
use Rattle.words.specs.declared.Pair.{Pair}
use Rattle.code.specs.declared.Code.{Code}
use Rattle.code.specs.declared.Code.TheVariants.{Fault, Pairs}
use Rattle.code.specs.declared.next.Next.{Next}
use Rattle.code.specs.declared.next.Next.TheVariants as next
use Rattle.code.specs.declared.next.After.{After}
use Rattle.code.specs.declared.next.After.TheVariants.{Nothing, Spelling, Lettering}
use Rattle.words.specs.Pairs.{pair, counts_of, counts_in}
use Rattle.code.specs.Letters.{learnt}
use Rattle.code.specs.Next.{next_pair}

-- the pairs of the whole code, or its first fault and the pairs before that
pub data Reading : Type 0 where
  pairs : List Pair → Reading
  fault : ℕ → List Pair → Reading

-- what stands next, after the pairs ps, of which some have letters; go reads on
abbrev pub read_on : (List Pair → List Pair → After → ℕ → Reading) → List Pair → List Pair → Result Next ℕ → Reading
read_on go ps letters (Ok next.End) = pairs ps
read_on go ps letters (Ok (next.Spelled p at)) = go (ps ++ (p ∷ [])) (learnt letters p) Spelling at
read_on go ps letters (Ok (next.Letter i at)) = go (ps ++ (get_or letters i (pair 0 0) ∷ [])) letters Lettering at
read_on go ps letters (Err number) = fault number ps

-- the text s from a place on, after the pairs ps; k is how many more there may be, and one
abbrev pub read_from : ℕ → ℕ → List ℕ → List Pair → List Pair → After → ℕ → Reading
read_from zero freq s ps letters after at = fault 20 ps
read_from (suc k) freq s ps letters after at =
    read_on (read_from k freq s) ps letters (next_pair freq (length ps) (length letters) after s at)

-- the code that begins at a place of a text and runs to its end: "1 to 260 pairs"
unfoldable pub read_code : ℕ → List ℕ → ℕ → Reading
read_code freq s at = read_from 261 freq s [] [] Nothing at

-- ---- how the code keeps it: the answer, and the counts of the pairs found in lent memory, which has room for them

abbrev pub read_of : Reading → Code
read_of (pairs ps) = Pairs (length ps)
read_of (fault number ps) = Fault number

abbrev pub found : Reading → List Pair
found (pairs ps) = ps
found (fault number ps) = ps

pub record ReadInto (reading : Reading) (before : List ℕ) (r : Code) (after : List ℕ) : Type 0 where
  pub result : r ≡ read_of reading
  pub kept : after ≡ stored_in before 0 (counts_of (found reading))
  pub front : counts_in after (length (found reading)) ≡ counts_of (found reading)
