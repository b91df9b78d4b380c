-- Laws of the counts of pairs.
use Prim.Native.Nat.{ℕ, zero, suc, ◌+◌, ◌-◌, ◌*◌, ◌≤◌, ◌<◌}
use mathlib.Core.Path.{◌≡◌, refl, sym, ap, ◌∙◌}
use mathlib.Core.List.{List, [], ◌∷◌, ◌++◌}
use native.Mathlib.Omega.{arith}
use lib.ListN.{length, take, drop, get_or}
use lib.Seq.{drop-nil}
use Rattle.laws.specs.Lists.{numbers}
use Rattle.laws.specs.Put.{stored_in}
use Rattle.laws.proofs.Numbers.{numbers_take, numbers_drop, numbers_back}
use Rattle.laws.proofs.Storing.{stores_stored}
use Rattle.words.specs.declared.Pair.{Pair}
use Rattle.words.specs.Pairs.{pair, counts_of, counts_in}

-- two for each pair
pub counts_length : (ps : List Pair) → length (counts_of ps) ≡ 2 * length ps
counts_length [] = refl
counts_length (p ∷ ps) = omega (arith, counts_length ps)

pub counts_append : (ps qs : List Pair) → counts_of (ps ++ qs) ≡ counts_of ps ++ counts_of qs
counts_append [] qs = refl
counts_append (p ∷ ps) qs = rw (counts_append ps qs)

-- where the counts of a pair stand
pub counts_on : (ps : List Pair) (i : ℕ) → i < length ps → get_or (counts_of ps) (2 * i) 0 ≡ (get_or ps i (pair 0 0)).on
counts_on [] i h = absurd (omega arith)
counts_on (p ∷ ps) zero h = refl
counts_on (p ∷ ps) (suc i) h =
    let e : 2 * suc i ≡ suc (suc (2 * i)) = omega arith in
    rw e (counts_on ps i (omega arith))

pub counts_off : (ps : List Pair) (i : ℕ) → i < length ps → get_or (counts_of ps) (2 * i + 1) 0 ≡ (get_or ps i (pair 0 0)).off
counts_off [] i h = absurd (omega arith)
counts_off (p ∷ ps) zero h = refl
counts_off (p ∷ ps) (suc i) h =
    let e : 2 * suc i + 1 ≡ suc (suc (2 * i + 1)) = omega arith in
    rw e (counts_off ps i (omega arith))

-- the counts of a part of the pairs
pub counts_drop : (k : ℕ) (ps : List Pair) → drop (2 * k) (counts_of ps) ≡ counts_of (drop k ps)
counts_drop zero ps = refl
counts_drop (suc k) [] = drop-nil (2 * suc k)
counts_drop (suc k) (p ∷ ps) =
    let e : 2 * suc k ≡ suc (suc (2 * k)) = omega arith in
    ap (λ (n : ℕ). drop n (counts_of (p ∷ ps))) e ∙ counts_drop k ps

counts_take : (k : ℕ) (ps : List Pair) → take (2 * k) (counts_of ps) ≡ counts_of (take k ps)
counts_take zero ps = refl
counts_take (suc k) [] =
    let e : 2 * suc k ≡ suc (suc (2 * k)) = omega arith in
    rw e
counts_take (suc k) (p ∷ ps) =
    let e : 2 * suc k ≡ suc (suc (2 * k)) = omega arith in
    rw (e, counts_take k ps)

-- pairs whose counts were stored stand in memory
pub counts_stored : (before : List ℕ) (ps : List Pair) → 2 * length ps ≤ length before
    → counts_in (stored_in before 0 (counts_of ps)) (length ps) ≡ counts_of ps
unfolding counts_in
counts_stored before ps h =
    let two = counts_length ps in
    rw (← two, ← stores_stored before 0 (counts_of ps)) (numbers_back (counts_of ps) before 0 (omega arith))

-- and so do the pairs from one to before another
pub counts_between : (memory : List ℕ) (ps : List Pair) (from to : ℕ) → from ≤ to → to ≤ length ps → counts_in memory (length ps) ≡ counts_of ps
    → numbers memory (2 * from) (2 * (to - from)) ≡ counts_of (drop from (take to ps))
unfolding counts_in
counts_between memory ps from to h k e =
    let a : 2 * length ps ≡ 2 * to + (2 * length ps - 2 * to) = omega arith in
    let b : 2 * to ≡ 2 * from + 2 * (to - from) = omega arith in
    let c : 0 + 2 * from ≡ 2 * from = omega arith in
    let first : numbers memory 0 (2 * to) ≡ counts_of (take to ps) =
    sym (numbers_take memory 0 (2 * to) (2 * length ps - 2 * to)) ∙ ap (take (2 * to)) (ap (numbers memory 0) (sym a) ∙ e) ∙ counts_take to ps in
    ap (λ (n : ℕ). numbers memory n (2 * (to - from))) (sym c) ∙ sym (numbers_drop memory 0 (2 * from) (2 * (to - from)))
    ∙ ap (drop (2 * from)) (ap (numbers memory 0) (sym b) ∙ first) ∙ counts_drop from (take to ps)
