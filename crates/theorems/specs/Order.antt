-- The order of a wait's completions.
use Rattle.std.specs.Prelude.{ℕ, ◌≤◌, cond, List, [], ◌∷◌, eqb}
use Rattle.meaning.specs.Table.{Completion}

-- "ordered by moment": of each two neighbours the former is not later
abbrev pub Sorted : List Completion → Type 0
Sorted [] = Unit
Sorted (x ∷ []) = Unit
Sorted (x ∷ y ∷ l) = (x.moment ≤ y.moment) × Sorted (y ∷ l)

-- those at a moment, in their order
abbrev pub at_moment : ℕ → List Completion → List Completion
at_moment t [] = []
at_moment t (x ∷ l) = cond (eqb x.moment t) (x ∷ at_moment t l) (at_moment t l)
