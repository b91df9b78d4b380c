-- The parts of a list that is cut into parts of one size: what is laid over one of them stands there, and the others stay.
use Prim.Native.Nat.{ℕ, zero, suc, ◌+◌, ◌-◌, ◌*◌, ◌≤◌, ◌<◌}
use mathlib.Core.Path.{◌≡◌, refl, sym, ap, ◌∙◌}
use mathlib.Core.List.{List, [], ◌∷◌, ◌++◌, append_assoc}
use native.Mathlib.Omega.{arith}
use native.Mathlib.Nat.{suc-mul, mul-le-mul_right}
use borrow.Author.Tests.{ltb-true, ltb-false}
use lib.Dec.{ltb}
use lib.ListN.{length, take, drop, get_or, set, length-append, length-drop, take-append-drop}
use lib.Seq.{length-take-le, take-append_seam, drop-append-le, take-append-le, drop-append-add, drop_at, drop-drop}
use Rattle.laws.specs.Put.{over}
use Rattle.laws.proofs.Choice.{by_test}

-- what holds of the element that is stored, and of the one at a place, holds of the one at that place then
pub stored_at : {A : Type 0} (P : A → Type 0) (l : List A) (i j : ℕ) (v d : A) → P v → P (get_or l j d) → P (get_or (set l i v) j d)
stored_at P [] i j v d new old = old
stored_at P (x ∷ l) zero zero v d new old = new
stored_at P (x ∷ l) zero (suc j) v d new old = old
stored_at P (x ∷ l) (suc i) zero v d new old = old
stored_at P (x ∷ l) (suc i) (suc j) v d new old = stored_at P l i j v d new old

-- ---- a text laid over a list

-- what stands before a list's end is not moved by what is put behind
front : (p q : List ℕ) (m n : ℕ) → m + n ≤ length p → take n (drop m (p ++ q)) ≡ take n (drop m p)
front p q m n h =
    let few : n ≤ length (drop m p) = rw length-drop (omega arith) in
    ap (take n) (drop-append-le m p q (omega arith)) ∙ take-append-le n (drop m p) q few

module _ (store : List ℕ) (at : ℕ) (text : List ℕ) (fits : at + length text ≤ length store) where
  -- all up to its end
  abbrev up_to_end : List ℕ
  up_to_end = take at store ++ text

  -- how long that is
  end_is : length up_to_end ≡ at + length text
  end_is = length-append (take at store) text ∙ rw (length-take-le at store (omega arith))

  -- from its place on stands the text, and behind it what stood there
  over_from : drop at (over store at text) ≡ text ++ drop (at + length text) store
  unfolding over
  over_from =
      drop-append-le at up_to_end (drop (at + length text) store) (omega (arith, end_is))
      ∙ ap (λ (l : List ℕ). l ++ drop (at + length text) store) (drop_at (take at store) text at (length-take-le at store (omega arith)))

  -- what was laid stands there
  pub over_here : take (length text) (drop at (over store at text)) ≡ text
  over_here = ap (take (length text)) over_from ∙ take-append_seam text (drop (at + length text) store)

  -- and each front of it
  pub over_front_here : (n : ℕ) → n ≤ length text → take n (drop at (over store at text)) ≡ take n text
  over_front_here n h = ap (take n) over_from ∙ take-append-le n text (drop (at + length text) store) h

  -- what stood before it stays
  over_before : (m n : ℕ) → m + n ≤ at → take n (drop m (over store at text)) ≡ take n (drop m store)
  unfolding over
  over_before m n h =
      let room : m + n ≤ length (take at store) = rw (length-take-le at store (omega arith)) h in
      ap (λ (l : List ℕ). take n (drop m l)) (append_assoc (take at store) text (drop (at + length text) store))
      ∙ front (take at store) (text ++ drop (at + length text) store) m n room
      ∙ sym (front (take at store) (drop at store) m n room)
      ∙ ap (λ (l : List ℕ). take n (drop m l)) (take-append-drop at store)

  -- what stood behind it stays
  over_behind : (m : ℕ) → at + length text ≤ m → drop m (over store at text) ≡ drop m store
  unfolding over
  over_behind m h =
      let rest = m - (at + length text) in
      let split : m ≡ length up_to_end + rest = omega (arith, end_is) in
      let whole : (at + length text) + rest ≡ m = omega arith in
      ap (λ (i : ℕ). drop i (up_to_end ++ drop (at + length text) store)) split
      ∙ drop-append-add up_to_end (drop (at + length text) store) rest
      ∙ drop-drop rest (at + length text) store
      ∙ ap (λ (i : ℕ). drop i store) whole

-- a part that was lent, in its place again
pub laid_back : (store : List ℕ) (from : ℕ) (part : List ℕ) (n : ℕ) → length part ≡ n
    → take from store ++ (part ++ drop n (drop from store)) ≡ over store from part
unfolding over
laid_back store from part n e =
    ap (λ (l : List ℕ). take from store ++ (part ++ l)) (drop-drop n from store ∙ ap (λ (k : ℕ). drop (from + k) store) (sym e))
    ∙ sym (append_assoc (take from store) part (drop (from + length part) store))

-- ---- parts of one size

-- the part in a slot
abbrev pub part_at : ℕ → List ℕ → ℕ → List ℕ
part_at size l slot = take size (drop (slot * size) l)

-- where a lower slot's part ends
lower : (size a b : ℕ) → a < b → a * size + size ≤ b * size
lower size a b h = rw (suc-mul a size) at (mul-le-mul_right size h)

-- a part laid over the one in a slot
module _ (size : ℕ) (store : List ℕ) (slot : ℕ) (part : List ℕ) (long : length part ≡ size) (fits : slot * size + size ≤ length store) where
  -- the store with it
  abbrev new_store : List ℕ
  new_store = over store (slot * size) part

  -- the part in that slot is what was laid
  pub part_here : part_at size new_store slot ≡ part
  part_here =
      ap (λ (n : ℕ). take n (drop (slot * size) new_store)) (sym long)
      ∙ over_here store (slot * size) part (omega (arith, long))

  -- the part in any other slot is what it was
  pub part_elsewhere : (other : ℕ) → (other ≡ slot → ⊥) → part_at size new_store other ≡ part_at size store other
  part_elsewhere other differ =
      by_test (ltb other slot)
      (λ e. over_before store (slot * size) part (omega (arith, long)) (other * size) size (lower size other slot (ltb-true other slot e)))
      (λ e.
      let high = ltb-false other slot e in
      let next : suc slot ≤ other = past other slot differ high in
      ap (take size) (over_behind store (slot * size) part (omega (arith, long)) (other * size) (omega (arith, long, lower size slot other next))))
    where
      past : (a b : ℕ) → (a ≡ b → ⊥) → b ≤ a → suc b ≤ a
      past a b d h = by_test (ltb b a) (λ e. ltb-true b a e) (λ e. absurd (d (omega (arith, ltb-false b a e))))

-- what a list begins with, and all behind it
begun : (n : ℕ) (l : List ℕ) → take n l ++ drop (length (take n l)) l ≡ l
begun zero l = refl
begun (suc n) [] = refl
begun (suc n) (x ∷ l) = ap (λ (m : List ℕ). x ∷ m) (begun n l)

-- a part laid into its slot again
pub part_back : (size : ℕ) (l : List ℕ) (slot : ℕ) → over l (slot * size) (part_at size l slot) ≡ l
unfolding over
part_back size l slot =
    let at = slot * size in
    let part = part_at size l slot in
    append_assoc (take at l) part (drop (at + length part) l)
    ∙ ap (λ (m : List ℕ). take at l ++ (part ++ m)) (sym (drop-drop (length part) at l))
    ∙ ap (λ (m : List ℕ). take at l ++ m) (begun size (drop at l))
    ∙ take-append-drop at l
