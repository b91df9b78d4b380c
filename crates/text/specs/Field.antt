-- A field of a line: the whole of it, up to the next comma or the line's end.
use Rattle.std.specs.Prelude.{ℕ, ◌+◌, List, [], ◌∷◌, Bool, true, false, cond, not, length, get_or, ltb, leb, eqb, Option, Some, None}
use Rattle.laws.specs.Checks.{◌⇒◌, first}
use Rattle.text.specs.Number.{number_at}
use Rattle.text.specs.declared.number.Number.{Number}
use Rattle.text.specs.declared.number.Number.TheVariants.{Missing, TooLong, Value}

-- a field ends at a comma, or with the line
unfoldable pub ends_field : List ℕ → ℕ → Bool
ends_field s at = cond (leb (length s) at) true (eqb (get_or s at 0) 44)

-- where the next field begins behind one that ends at a place; where no comma follows, that field is empty, as a missing one is
unfoldable pub after_comma : List ℕ → ℕ → ℕ
after_comma s at = cond (ltb at (length s)) (at + 1) at

-- whether a text begins with the word w as a whole field
abbrev pub field_is : List ℕ → List ℕ → Bool
field_is [] [] = true
field_is [] (b ∷ s) = eqb b 44
field_is (a ∷ w) [] = false
field_is (a ∷ w) (b ∷ s) = cond (eqb b a) (field_is w s) false

-- a number from least to most that is the whole field, and where it ends
abbrev pub within : ℕ → ℕ → List ℕ → Number → Option (ℕ × ℕ)
within least most s Missing = None
within least most s (TooLong end) = None
within least most s (Value v end) = first
    ((not (ends_field s end) ⇒ None)
    ∷ (ltb v least ⇒ None)
    ∷ (ltb most v ⇒ None)
    ∷ []) (Some (v, end))

unfoldable pub field_within : ℕ → ℕ → List ℕ → ℕ → Option (ℕ × ℕ)
field_within least most s at = within least most s (number_at s at)
