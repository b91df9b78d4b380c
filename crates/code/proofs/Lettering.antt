-- Laws of letters: the search for a pair, and one pair more.
use Prim.Native.Nat.{ℕ, zero, suc, ◌+◌, ◌≤◌, ◌<◌}
use mathlib.Core.Path.{◌≡◌, refl, ap}
use mathlib.Core.Bool.{true, cond, not}
use mathlib.Core.List.{List, [], ◌∷◌, ◌++◌}
use native.Mathlib.Omega.{arith}
use native.Mathlib.Numerals.{add-one}
use borrow.Author.Tests.{lt-ltb, le-ltb, ltb-true, eq-eqb, eqb-true}
use lib.Dec.{ltb, eqb}
use lib.ListN.{length, get_or, set, length-set, length-append}
use lib.Seq.{length-take-le, take-suc-set}
use Rattle.std.specs.Prelude.{position, unwrap_or}
use Rattle.std.specs.List.{position_or_len}
use Rattle.std.proofs.lemmas.List.Sums.{prefix_len-le-length}
use Rattle.std.proofs.lemmas.List.Recursion.{is_position_or_len}
use Rattle.laws.proofs.Choice.{by_test, not_both, cond_case}
use Rattle.words.specs.declared.Pair.{Pair}
use Rattle.code.specs.declared.letters.Letters.{Letters}
use Rattle.words.specs.Pairs.{pair, same_pair}
use Rattle.code.specs.Letters.{place_of, has, learnt, letters_of, held, Kept}

-- the place of a pair is where std's search finds it, or behind all
place_or_len : (p : Pair) (l : List Pair) → place_of p l ≡ position_or_len (λ q. same_pair q p) l
place_or_len p l =
    let next : (n : ℕ) → suc n ≡ 1 + n = λ n. omega arith in
    is_position_or_len (place_of p) (λ q. same_pair q p) refl (λ q m. ap (cond (same_pair q p) 0) (next (place_of p m))) l

pub place_position : (p : Pair) (l : List Pair) (n : ℕ) → n ≡ length l → unwrap_or (position (λ q. same_pair q p) l) n ≡ place_of p l
place_position p l n e = grind (arith, place_or_len p l, prefix_len-le-length (λ q. not (same_pair q p)) l)

-- ---- one pair more
module _ (t : Letters) (p : Pair) (long : length t.pairs ≡ 15) (few : t.count ≤ 15) where
  counted : length (held t) ≡ t.count
  counted = length-take-le t.count t.pairs (omega arith)

  pub kept_held : Kept t (held t)
  kept_held = record { few = few; counted = counted; are = refl }

  pub learn_known : place_of p (held t) < t.count → Kept t (learnt (held t) p)
  unfolding learnt
  learn_known h =
      record { few = few; counted = counted; are = rw (counted, lt-ltb (place_of p (held t)) t.count h) }

  pub learn_full : t.count ≤ place_of p (held t) → 15 ≤ t.count → Kept t (learnt (held t) p)
  unfolding learnt
  learn_full h f =
      record { few = few; counted = counted; are = rw (counted, le-ltb (place_of p (held t)) t.count h, le-ltb t.count 15 f) }

  pub learn_new : t.count ≤ place_of p (held t) → t.count < 15
      → Kept (record { count = t.count + 1; pairs = set t.pairs t.count p }) (learnt (held t) p)
  unfolding learnt
  learn_new h f =
      let k : t.count < length t.pairs = omega arith in
      let m : t.count + 1 ≤ length (set t.pairs t.count p) = omega (arith, length-set t.pairs t.count p) in
      record {
        few = omega arith;
        counted = length-take-le (t.count + 1) (set t.pairs t.count p) m;
        are = rw (counted, le-ltb (place_of p (held t)) t.count h, lt-ltb t.count 15 f, add-one, take-suc-set t.pairs t.count p k);
      }

pub learnt_few : (t : List Pair) (p : Pair) → length t ≤ 15 → length (learnt t p) ≤ 15
unfolding learnt
learnt_few t p h =
    cond_case (λ (x : List Pair). length x ≤ 15) (has p t) _ _ (λ e. h)
    (λ e. cond_case (λ (x : List Pair). length x ≤ 15) (ltb (length t) 15) _ _
    (λ f. rw length-append (omega (arith, ltb-true (length t) 15 f))) (λ f. h))

-- ---- the pair of a letter
pub same_eq : (q p : Pair) → same_pair q p ≡ true → q ≡ p
unfolding same_pair
same_eq q p h =
    by_test (eqb q.on p.on)
    (λ e. λ i. record { on = eqb-true q.on p.on e i; off = eqb-true q.off p.off (rw e at h) i })
    (λ e. not_both (rw e at h) refl)

pub place_is : (p : Pair) (t : List Pair) → place_of p t < length t → get_or t (place_of p t) (pair 0 0) ≡ p
place_is p [] h = absurd (omega arith)
place_is p (q ∷ t) h =
    by_test (same_pair q p)
    (λ e. rw e (same_eq q p e))
    (λ e. rw e (place_is p t (omega (arith, rw e at h))))

-- ---- letters after several pairs, and pairs that have one already
pub letters_more : (t ps qs : List Pair) → letters_of t (ps ++ qs) ≡ letters_of (letters_of t ps) qs
letters_more t [] qs = refl
letters_more t (p ∷ ps) qs = letters_more (learnt t p) ps qs

-- a pair that has a letter gets no other
pub learnt_known : (t : List Pair) (p : Pair) → place_of p t < length t → learnt t p ≡ t
unfolding learnt
learnt_known t p h = rw (lt-ltb (place_of p t) (length t) h)

same_self : (p : Pair) → same_pair p p ≡ true
unfolding same_pair
same_self p = rw (eq-eqb p.on p.on refl, eq-eqb p.off p.off refl)

-- a pair that stands in a list is found in it
pub place_within_law : (t : List Pair) (i : ℕ) → i < length t → place_of (get_or t i (pair 0 0)) t < length t
place_within_law [] i h = absurd (omega arith)
place_within_law (q ∷ t) zero h = rw (same_self q) (omega arith)
place_within_law (q ∷ t) (suc i) h =
    by_test (same_pair q (get_or t i (pair 0 0)))
    (λ e. rw e (omega arith))
    (λ e. rw e (omega (arith, place_within_law t i (omega arith))))

pub learnt_again : (t : List Pair) (i : ℕ) → i < length t → learnt t (get_or t i (pair 0 0)) ≡ t
learnt_again t i h = learnt_known t (get_or t i (pair 0 0)) (place_within_law t i h)
