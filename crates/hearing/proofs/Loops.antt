-- What the library's comparison of two texts says, in the words of a table of lines.
use Prim.Native.Nat.{ℕ}
use mathlib.Core.Path.{◌≡◌, refl}
use mathlib.Core.List.{List, [], ◌∷◌}
use Rattle.std.specs.Prelude.{nat_eq}
use Rattle.std.specs.Cmp.Lexicographic.{pointwise}
use Rattle.laws.specs.Lists.{same}

-- whether a text is a word
pub is : (s w : List ℕ) → pointwise nat_eq s w ≡ same w s
is [] [] = refl
is [] (a ∷ w) = refl
is (b ∷ s) [] = refl
is (b ∷ s) (a ∷ w) = rw (is s w)
