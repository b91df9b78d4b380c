-- The text of items from a place on: what stands there follows from the kind of item before it.
use Prim.Native.Nat.{ℕ, ◌+◌}
use mathlib.Core.Path.{◌≡◌, refl, ap}
use mathlib.Core.List.{List, [], ◌∷◌, ◌++◌}
use native.Mathlib.Omega.{arith}
use borrow.Author.Tests.{le-ltb, lt-leb}
use Rattle.text.specs.Number.{run}
use Rattle.code.specs.declared.next.After.{After}
use Rattle.code.specs.declared.next.After.TheVariants.{Nothing, Spelling, Lettering}
use Rattle.lettered.specs.Lettered.{Item, spelled, letter, item_text, between, text_behind, text_of}

abbrev pub after_of : Item → After
after_of (spelled on off) = Spelling
after_of (letter i) = Lettering

-- what stands in front of an item
abbrev pub front : After → Item → List ℕ
front Nothing y = []
front Spelling y = between (spelled [] []) y
front Lettering y = between (letter 0) y

pub front_letter : (after : After) (i : ℕ) → front after (letter i) ≡ []
front_letter Nothing i = refl
front_letter Spelling i = refl
front_letter Lettering i = refl

abbrev pub text_from : After → List Item → List ℕ
text_from after [] = []
text_from after (x ∷ is) = front after x ++ item_text x ++ text_from (after_of x) is

between_front : (x y : Item) → between x y ≡ front (after_of x) y
between_front (spelled on off) (spelled on' off') = refl
between_front (spelled on off) (letter i) = refl
between_front (letter i) y = refl

behind_from : (x : Item) (is : List Item) → text_behind x is ≡ text_from (after_of x) is
behind_from x [] = refl
behind_from x (y ∷ is) = rw (between_front x y, behind_from y is)

pub text_from_law : (is : List Item) → text_of is ≡ text_from Nothing is
text_from_law [] = refl
text_from_law (x ∷ is) = ap (λ (l : List ℕ). item_text x ++ l) (behind_from x is)

-- a number ends behind a spelled pair
pub stops : (is : List Item) → run (text_from Spelling is) ≡ []
stops [] = refl
stops (spelled on off ∷ is) = refl
stops (letter i ∷ is) = rw (le-ltb (65 + i) 48 (omega arith), lt-leb (65 + i) 57 (omega arith))
