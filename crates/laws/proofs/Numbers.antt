-- Laws of the numbers that stand in a list from a place on.
use Prim.Native.Nat.{ℕ, zero, suc, ◌+◌, ◌-◌, ◌≤◌, ◌<◌}
use mathlib.Core.Path.{◌≡◌, refl, ◌∙◌}
use mathlib.Core.List.{List, [], ◌∷◌}
use native.Mathlib.Numerals.{add-one}
use native.Mathlib.Omega.{arith}
use lib.ListN.{length, take, drop, get_or, set, length-set}
use lib.Seq.{sets, drop-cons, get_or-set_same, get_or-set_other}
use Rattle.laws.specs.Lists.{numbers}

-- one turn of a loop over them
pub numbers_next : (l : List ℕ) (i end : ℕ) → i < end → numbers l i (end - i) ≡ get_or l i 0 ∷ numbers l (i + 1) (end - (i + 1))
numbers_next l i end h =
    let k : end - i ≡ suc (end - (i + 1)) = omega arith in
    let one : i + 1 ≡ suc i = add-one i in
    rw (k, one)

pub numbers_none : (l : List ℕ) (i end : ℕ) → end ≤ i → numbers l i (end - i) ≡ []
numbers_none l i end h =
    let k : end - i ≡ 0 = omega arith in
    rw k

-- a part of them
pub numbers_take : (l : List ℕ) (at a b : ℕ) → take a (numbers l at (a + b)) ≡ numbers l at a
numbers_take l at zero b = refl
numbers_take l at (suc a) b =
    let k : suc a + b ≡ suc (a + b) = omega arith in
    rw (k, numbers_take l (suc at) a b)

pub numbers_drop : (l : List ℕ) (at a b : ℕ) → drop a (numbers l at (a + b)) ≡ numbers l (at + a) b
numbers_drop l at zero b =
    let k : zero + b ≡ b = omega arith in
    let e : at + zero ≡ at = omega arith in
    rw (k, e)
numbers_drop l at (suc a) b =
    let k : suc a + b ≡ suc (a + b) = omega arith in
    let e : at + suc a ≡ suc at + a = omega arith in
    rw (k, e) (numbers_drop l (suc at) a b)

-- a run of stores leaves what stands before its place
before_sets : (vs l : List ℕ) (i j : ℕ) → j < i → get_or (sets l i vs) j 0 ≡ get_or l j 0
before_sets [] l i j h = refl
before_sets (v ∷ vs) l i j h = before_sets vs (set l i v) (suc i) j (omega arith) ∙ get_or-set_other l i j v 0 (λ e. omega arith)

-- and the numbers stored are read back
pub numbers_back : (vs l : List ℕ) (i : ℕ) → i + length vs ≤ length l → numbers (sets l i vs) i (length vs) ≡ vs
numbers_back [] l i h = refl
numbers_back (v ∷ vs) l i h =
    let w : suc i + length vs ≤ length (set l i v) = simp length-set (omega arith) in
    let k : i < length l = omega arith in
    rw (before_sets vs (set l i v) (suc i) i (omega arith), get_or-set_same l i v 0 k, numbers_back vs (set l i v) (suc i) w)

-- where the list has them all, they are a part of it
pub numbers_part : (l : List ℕ) (at k : ℕ) → at + k ≤ length l → numbers l at k ≡ take k (drop at l)
numbers_part l at zero h = refl
numbers_part l at (suc k) h = rw (drop-cons l at 0 (omega arith), numbers_part l (suc at) k (omega arith))
