-- Parts of lists that the library does not name.
use Rattle.std.specs.Prelude.{ℕ, zero, suc, Bool, true, false, cond, not, ◌&&◌, List, [], ◌∷◌, ◌++◌, eqb, get_or}

-- what a list begins with, as long as a test holds
abbrev pub leading : (ℕ → Bool) → List ℕ → List ℕ
leading p [] = []
leading p (b ∷ l) = cond (p b) (b ∷ leading p l) []

-- whether a test holds of every element
abbrev pub all : {A : Type 0} → (A → Bool) → List A → Bool
all p [] = true
all p (b ∷ l) = p b && all p l

-- whether two lists are the same numbers
abbrev pub same : List ℕ → List ℕ → Bool
same [] [] = true
same [] (b ∷ s) = false
same (a ∷ w) [] = false
same (a ∷ w) (b ∷ s) = eqb b a && same w s

-- so many numbers, from one on
abbrev pub up_from : ℕ → ℕ → List ℕ
up_from from zero = []
up_from from (suc n) = from ∷ up_from (suc from) n

-- what each of some numbers gives, one after the other
abbrev pub gathered : {A : Type 0} → (ℕ → List A) → List ℕ → List A
gathered f [] = []
gathered f (x ∷ xs) = f x ++ gathered f xs

-- k numbers of a list from a place on; those that it has not are 0
abbrev pub numbers : List ℕ → ℕ → ℕ → List ℕ
numbers l at zero = []
numbers l at (suc k) = get_or l at 0 ∷ numbers l (suc at) k

-- a list so many times, one after the other
abbrev pub times : ℕ → List ℕ → List ℕ
times zero l = []
times (suc n) l = l ++ times n l

-- ---- a list cut at each c

-- an element in front of the first part
abbrev pub onto : ℕ → List (List ℕ) → List (List ℕ)
onto b [] = (b ∷ []) ∷ []
onto b (part ∷ parts) = (b ∷ part) ∷ parts

abbrev pub cut : ℕ → List ℕ → List (List ℕ)
cut c [] = [] ∷ []
cut c (b ∷ s) = cond (eqb b c) ([] ∷ cut c s) (onto b (cut c s))

-- the k-th part, the first being part 0; a missing one is empty
abbrev pub part : ℕ → ℕ → List ℕ → List ℕ
part c k s = get_or (cut c s) k []

-- all that stands behind the k-th c
abbrev pub behind : ℕ → ℕ → List ℕ → List ℕ
behind c zero s = s
behind c (suc k) [] = []
behind c (suc k) (b ∷ s) = cond (eqb b c) (behind c k s) (behind c (suc k) s)

-- parts with c between them
abbrev pub joined : ℕ → List (List ℕ) → List ℕ
joined c [] = []
joined c (w ∷ []) = w
joined c (w ∷ v ∷ parts) = w ++ (c ∷ joined c (v ∷ parts))

-- whether a list has no c
abbrev pub free : ℕ → List ℕ → Bool
free c w = all (λ b. not (eqb b c)) w
