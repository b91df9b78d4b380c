-- Pairs of counts.
use Rattle.std.specs.Prelude.{ℕ, ◌*◌, Bool, false, cond, List, [], ◌∷◌, eqb}
use Rattle.laws.specs.Lists.{numbers}
use Rattle.words.specs.declared.Pair.{Pair}

abbrev pub pair : ℕ → ℕ → Pair
pair a b = record { on = a; off = b }

-- the on and off counts of pairs, in turn
abbrev pub counts_of : List Pair → List ℕ
counts_of [] = []
counts_of (p ∷ ps) = p.on ∷ p.off ∷ counts_of ps

-- and the pairs of such counts
abbrev pub pairs_of : List ℕ → List Pair
pairs_of [] = []
pairs_of (a ∷ []) = []
pairs_of (a ∷ b ∷ l) = pair a b ∷ pairs_of l

-- the counts of the first pairs that stand in memory
unfoldable pub counts_in : List ℕ → ℕ → List ℕ
counts_in memory count = numbers memory 0 (2 * count)

-- pairs are compared as numbers
unfoldable pub same_pair : Pair → Pair → Bool
same_pair p q = cond (eqb p.on q.on) (eqb p.off q.off) false

-- all others of a list
abbrev pub without : Pair → List Pair → List Pair
without p [] = []
without p (q ∷ l) = cond (same_pair p q) (without p l) (q ∷ without p l)

-- the distinct pairs, in the order in which each first occurs: the first, and those of the rest that are others
abbrev pub distinct : List Pair → List Pair
distinct [] = []
distinct (p ∷ ps) = p ∷ without p (distinct ps)
