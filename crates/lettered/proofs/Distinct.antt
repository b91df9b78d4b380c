-- The pairs that have letters are the first 15 distinct ones, in the order in which each first occurs.
use Prim.Native.Nat.{suc, ◌≤◌}
use mathlib.Core.Path.{◌≡◌, refl, sym, ap, ◌∙◌}
use mathlib.Core.Bool.{true, false, cond}
use mathlib.Core.List.{List, [], ◌∷◌, ◌++◌, append-nil}
use native.Mathlib.Omega.{arith}
use borrow.Author.Tests.{lt-ltb, ltb-false}
use lib.Dec.{ltb, leb-suc-suc}
use lib.ListN.{length, take}
use lib.Seq.{append_snoc, take_all, take-append-le}
use Rattle.laws.proofs.Choice.{by_test}
use Rattle.words.specs.declared.Pair.{Pair}
use Rattle.words.specs.Pairs.{same_pair, without, distinct}
use Rattle.code.specs.Letters.{place_of, has, learnt, letters_of}
use Rattle.code.proofs.Lettering.{same_eq, learnt_few}

-- ---- a pair in a list
has_first : (q r : Pair) (t : List Pair) → same_pair r q ≡ true → has q (r ∷ t) ≡ true
has_first q r t e = rw e (lt-ltb 0 (suc (length t)) (omega arith))

has_later : (q r : Pair) (t : List Pair) → same_pair r q ≡ false → has q (r ∷ t) ≡ has q t
has_later q r t e = rw e (leb-suc-suc (suc (place_of q t)) (length t))

-- a list with p at its end has p, and the others that it had
has_last : (q p : Pair) (t : List Pair) → same_pair p q ≡ true → has q (t ++ (p ∷ [])) ≡ true
has_last q p [] e = has_first q p [] e
has_last q p (r ∷ t) e =
    by_test (same_pair r q) (λ f. has_first q r (t ++ (p ∷ [])) f) (λ f. has_later q r (t ++ (p ∷ [])) f ∙ has_last q p t e)

has_other : (q p : Pair) (t : List Pair) → same_pair p q ≡ false → has q (t ++ (p ∷ [])) ≡ has q t
has_other q p [] e = has_later q p [] e
has_other q p (r ∷ t) e =
    by_test (same_pair r q)
    (λ f. has_first q r (t ++ (p ∷ [])) f ∙ sym (has_first q r t f))
    (λ f. has_later q r (t ++ (p ∷ [])) f ∙ has_other q p t e ∙ sym (has_later q r t f))

-- ---- the pairs of a list that another has not
abbrev others : List Pair → List Pair → List Pair
others t [] = []
others t (q ∷ l) = cond (has q t) (others t l) (q ∷ others t l)

others_none : (l : List Pair) → others [] l ≡ l
others_none [] = refl
others_none (q ∷ l) = ap (λ (m : List Pair). q ∷ m) (others_none l)

others_known : (p : Pair) (t l : List Pair) → has p t ≡ true → others t (without p l) ≡ others t l
others_known p t [] h = refl
others_known p t (q ∷ l) h =
    by_test (same_pair p q)
    (λ e.
    let k : has q t ≡ true = rw (same_eq p q e) at h in
    rw (e, k) (others_known p t l h))
    (λ e. rw (e, others_known p t l h))

others_last : (p : Pair) (t l : List Pair) → others (t ++ (p ∷ [])) l ≡ others t (without p l)
others_last p t [] = refl
others_last p t (q ∷ l) =
    by_test (same_pair p q)
    (λ e. rw (e, has_last q p t e, others_last p t l))
    (λ e. rw (e, has_other q p t e, others_last p t l))

-- ---- those with letters
learn : (t ps : List Pair) (p : Pair)
    → take 15 (learnt t p ++ others (learnt t p) (distinct ps)) ≡ take 15 (t ++ others t (distinct (p ∷ ps)))
unfolding learnt
learn t ps p =
    by_test (has p t)
    (λ e. rw (e, others_known p t (distinct ps) e))
    (λ e. by_test (ltb (length t) 15)
    (λ f. rw (e, f, append_snoc t p (others (t ++ (p ∷ [])) (distinct ps)), others_last p t (distinct ps)))
    (λ f.
    let full : 15 ≤ length t = ltb-false (length t) 15 f in
    rw (e, f, take-append-le 15 t (others t (distinct ps)) full) (sym (take-append-le 15 t _ full))))

from : (t ps : List Pair) → length t ≤ 15 → letters_of t ps ≡ take 15 (t ++ others t (distinct ps))
from t [] h = rw append-nil (sym (take_all 15 t h))
from t (p ∷ ps) h = from (learnt t p) ps (learnt_few t p h) ∙ learn t ps p

pub letters_are_law : (ps : List Pair) → letters_of [] ps ≡ take 15 (distinct ps)
letters_are_law ps = from [] ps (omega arith) ∙ ap (take 15) (others_none (distinct ps))
