-- Laws of numbers in a row, of a list with an element for each of them, and of a loop that sets the elements of a list in turn.
use Prim.Native.Nat.{ℕ, zero, suc, ◌+◌, ◌≤◌, ◌<◌}
use mathlib.Core.Path.{◌≡◌, refl, sym, ap, ◌∙◌}
use mathlib.Core.Bool.{cond}
use mathlib.Core.List.{List, [], ◌∷◌, ◌++◌, map, append_assoc, append-nil}
use native.Mathlib.Nat.{add-zero, add-suc, suc-add, zero-add}
use native.Mathlib.Numerals.{add-one}
use native.Mathlib.Omega.{arith}
use borrow.Author.Tests.{eq-eqb, ne_eqb}
use lib.Dec.{eqb}
use lib.ListN.{length, take, drop, get_or, set, length-append, length-drop, drop_of_length-le}
use lib.Seq.{take_all, take-suc, drop-cons, get_or_at, set_at, length-take-le, ext_get_or}
use Rattle.laws.specs.Lists.{up_from, gathered}

-- ---- numbers in a row

-- there are as many as it says
pub up_length : (from n : ℕ) → length (up_from from n) ≡ n
up_length from zero = refl
up_length from (suc n) = ap suc (up_length (suc from) n)

-- one more is the last
pub up_last : (from n : ℕ) → up_from from (suc n) ≡ up_from from n ++ ((from + n) ∷ [])
up_last from zero = rw add-zero
up_last from (suc n) = ap (λ (l : List ℕ). from ∷ l) (rw (up_last (suc from) n, add-suc, suc-add))

-- each is so far from the first
pub up_at : (from n i d : ℕ) → i < n → get_or (up_from from n) i d ≡ from + i
up_at from zero i d h = absurd (omega arith)
up_at from (suc n) zero d h = sym (add-zero from)
up_at from (suc n) (suc i) d h = up_at (suc from) n i d (omega arith) ∙ rw (suc-add, add-suc)

-- ---- a list with an element for each of them
module _ {A : Type 0} where
  -- it has an element for each
  pub made_length : (f : ℕ → A) (from n : ℕ) → length (map f (up_from from n)) ≡ n
  made_length f from zero = refl
  made_length f from (suc n) = ap suc (made_length f (suc from) n)

  -- each is what its number gives
  pub made_at : (f : ℕ → A) (from n i : ℕ) (d : A) → i < n → get_or (map f (up_from from n)) i d ≡ f (from + i)
  made_at f from zero i d h = absurd (omega arith)
  made_at f from (suc n) zero d h = ap f (sym (add-zero from))
  made_at f from (suc n) (suc i) d h = made_at f (suc from) n i d (omega arith) ∙ ap f (rw (suc-add, add-suc))

  -- the same from 0 on
  pub made_in : (f : ℕ → A) (n i : ℕ) (d : A) → i < n → get_or (map f (up_from 0 n)) i d ≡ f i
  made_in f n i d h = made_at f 0 n i d h ∙ ap f (zero-add i)

  -- from the next number on: of the next of each
  pub made_next : (f : ℕ → A) (from n : ℕ) → map f (up_from (suc from) n) ≡ map (λ j. f (suc j)) (up_from from n)
  made_next f from zero = refl
  made_next f from (suc n) = ap (λ (l : List A). f (suc from) ∷ l) (made_next f (suc from) n)

  -- two that agree at each
  pub made_alike : (f g : ℕ → A) (from n : ℕ) → ((i : ℕ) → i < n → f (from + i) ≡ g (from + i))
      → map f (up_from from n) ≡ map g (up_from from n)
  made_alike f g from zero same = refl
  made_alike f g from (suc n) same =
      let first : f from ≡ g from = rw add-zero at (same 0 (omega arith)) in
      let next : (i : ℕ) → i < n → f (suc from + i) ≡ g (suc from + i) =
      λ i h. rw (suc-add, ← add-suc) (same (suc i) (omega arith)) in
      rw (first, made_alike f g (suc from) n next)

  -- every list is one of its own elements
  pub made_of : (l : List A) (n : ℕ) (d : A) → length l ≡ n → l ≡ map (λ i. get_or l i d) (up_from 0 n)
  made_of l n d e =
      ext_get_or d l (map (λ i. get_or l i d) (up_from 0 n)) (e ∙ sym (made_length (λ i. get_or l i d) 0 n))
      (λ i h. sym (made_in (λ j. get_or l j d) n i d (omega arith)))

  -- with one of them set
  pub made_set : (f : ℕ → A) (n i : ℕ) (v : A) → set (map f (up_from 0 n)) i v ≡ map (λ j. cond (eqb j i) v (f j)) (up_from 0 n)
  made_set f n i v = go f 0 n i i (sym (zero-add i))
    where
      go : (f : ℕ → A) (from n i at : ℕ) → at ≡ from + i → set (map f (up_from from n)) i v ≡ map (λ j. cond (eqb j at) v (f j)) (up_from from n)
      go f from zero i at e = refl
      go f from (suc n) zero at e =
          rw (eq-eqb from at (omega arith))
          (ap (λ (l : List A). v ∷ l)
          (made_alike f (λ j. cond (eqb j at) v (f j)) (suc from) n (λ k h. rw (ne_eqb (suc from + k) at (λ o. omega arith)))))
      go f from (suc n) (suc i) at e =
          rw (ne_eqb from at (λ o. omega arith)) (ap (λ (l : List A). f from ∷ l) (go f (suc from) n i at (omega arith)))

  -- ---- what each of them gives, one after the other
  -- of two lists, one behind the other
  pub gathered_append : (f : ℕ → List A) (xs ys : List ℕ) → gathered f (xs ++ ys) ≡ gathered f xs ++ gathered f ys
  gathered_append f [] ys = refl
  gathered_append f (x ∷ xs) ys = rw (gathered_append f xs ys) (sym (append_assoc (f x) (gathered f xs) (gathered f ys)))

  -- one number more
  pub gathered_more : (f : ℕ → List A) (n : ℕ) → gathered f (up_from 0 (n + 1)) ≡ gathered f (up_from 0 n) ++ f n
  gathered_more f n =
      ap (gathered f) (ap (up_from 0) (add-one n) ∙ up_last 0 n) ∙ rw (gathered_append, zero-add, append-nil)

  -- as many as there are numbers at most, where each gives one or nothing
  pub gathered_few : (f : ℕ → List A) → ((x : ℕ) → length (f x) ≤ 1) → (xs : List ℕ) → length (gathered f xs) ≤ length xs
  gathered_few f one [] = omega arith
  gathered_few f one (x ∷ xs) = rw length-append (omega (arith, one x, gathered_few f one xs))

  -- ---- a loop that sets the elements of a list in turn, from the old ones to the new ones

  -- so far: the new ones up to a place, and from there the old ones
  abbrev pub turned : List A → List A → ℕ → List A
  turned old new i = take i new ++ drop i old

  module _ (old new : List A) (same : length old ≡ length new) where
    -- what stands at the place is the old one still
    pub turned_at : (i : ℕ) (d : A) → i < length old → get_or (turned old new i) i d ≡ get_or old i d
    turned_at i d h = rw (drop-cons old i d) (get_or_at (take i new) (get_or old i d) (drop (suc i) old) d i (length-take-le i new (omega arith)))

    -- it is set, and the place is the next
    pub turned_set : (i : ℕ) (v d : A) → i < length old → v ≡ get_or new i d → set (turned old new i) i v ≡ turned old new (i + 1)
    turned_set i v d h e =
        let k : i < length new = omega arith in
        rw (drop-cons old i d, set_at (take i new) (get_or old i d) (drop (suc i) old) v i (length-take-le i new (omega arith)), e, add-one, take-suc new i d)
        (sym (append_assoc (take i new) (get_or new i d ∷ []) (drop (suc i) old)))

    -- it is left, where the new one is the old one
    pub turned_left : (i : ℕ) (d : A) → i < length old → get_or old i d ≡ get_or new i d → turned old new i ≡ turned old new (i + 1)
    turned_left i d h e =
        let k : i < length new = omega arith in
        rw (drop-cons old i d, e, add-one, take-suc new i d) (sym (append_assoc (take i new) (get_or new i d ∷ []) (drop (suc i) old)))

    -- at the end all are new
    pub turned_all : (i : ℕ) → length old ≤ i → turned old new i ≡ new
    turned_all i h = rw (take_all i new (omega arith), drop_of_length-le old h, append-nil)

    -- there are as many all the time
    pub turned_length : (i : ℕ) → i ≤ length old → length (turned old new i) ≡ length old
    turned_length i h = rw (length-append, length-take-le i new (omega arith), length-drop) (omega arith)

  -- the same where the new ones are made of their numbers
  module _ (old : List A) (f : ℕ → A) (n : ℕ) (size : length old ≡ n) where
    abbrev made : List A
    made = map f (up_from 0 n)

    same_size : length old ≡ length made
    same_size = size ∙ sym (made_length f 0 n)

    -- what stands at the place is the old one still
    pub each_at : (i : ℕ) (d : A) → i < n → get_or (turned old (map f (up_from 0 n)) i) i d ≡ get_or old i d
    each_at i d h = turned_at old made same_size i d (omega arith)

    -- what its number gives is set
    pub each_set : (i : ℕ) (v : A) → i < n → v ≡ f i
        → set (turned old (map f (up_from 0 n)) i) i v ≡ turned old (map f (up_from 0 n)) (i + 1)
    each_set i v h e = turned_set old made same_size i v v (omega arith) (e ∙ sym (made_in f n i v h))

    -- it is left, where that is the old one
    pub each_left : (i : ℕ) (d : A) → i < n → get_or old i d ≡ f i
        → turned old (map f (up_from 0 n)) i ≡ turned old (map f (up_from 0 n)) (i + 1)
    each_left i d h e = turned_left old made same_size i d (omega arith) (e ∙ sym (made_in f n i d h))

    -- at the end all are made so
    pub each_all : (i : ℕ) → n ≤ i → turned old (map f (up_from 0 n)) i ≡ map f (up_from 0 n)
    each_all i h = turned_all old made same_size i (omega arith)
