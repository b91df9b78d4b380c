-- Laws of the pairs that have letters, as the reader learns them.
use Prim.Native.Nat.{◌≤◌}
use mathlib.Core.Path.{◌≡◌, sym, ap, ◌∙◌}
use mathlib.Core.List.{List, [], ◌∷◌, ◌++◌}
use native.Mathlib.Omega.{arith}
use lib.ListN.{length, length-take}
use Rattle.words.specs.declared.Pair.{Pair}
use Rattle.code.specs.Letters.{learnt}
use Rattle.code.proofs.Lettering.{letters_more}
use Rattle.lettered.specs.Lettered.{lettered}
use Rattle.lettered.proofs.Distinct.{letters_are_law}

pub lettered_few : (before : List Pair) → length (lettered before) ≤ 15
lettered_few before = rw length-take (omega arith)

-- one pair more
pub lettered_more : (before : List Pair) (p : Pair) → lettered (before ++ (p ∷ [])) ≡ learnt (lettered before) p
lettered_more before p =
    sym (letters_are_law (before ++ (p ∷ []))) ∙ letters_more [] before (p ∷ []) ∙ ap (λ (t : List Pair). learnt t p) (letters_are_law before)
