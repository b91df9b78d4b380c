-- The place of one more completion among those of a wait, and that the record of a list becomes that of one more.
use Prim.Native.Nat.{ℕ, suc, ◌+◌, ◌-◌, ◌≤◌, ◌<◌}
use mathlib.Core.Path.{◌≡◌, refl, sym, ap, ◌∙◌}
use mathlib.Core.Bool.{Bool, not}
use mathlib.Core.List.{List, [], ◌∷◌, ◌++◌, append_assoc}
use native.Mathlib.Nat.{add-zero}
use native.Mathlib.Numerals.{add-one, one-add}
use native.Mathlib.Omega.{arith}
use borrow.Author.Tests.{lt-ltb, ltb-false}
use lib.Dec.{ltb}
use lib.ListN.{length, take, drop, get_or, set, replicate}
use lib.Seq.{length-take-le, take-suc, take-take, set_at, take-append_seam, drop-append-add}
use Rattle.std.specs.List.{copy_within, position, position_or_len}
use Rattle.std.specs.Option.{unwrap_or}
use Rattle.std.proofs.lemmas.List.{drop-take}
use Rattle.std.proofs.lemmas.List.Sums.{prefix_len-le-length}
use Rattle.laws.proofs.Choice.{by_test, cond_case}
use Rattle.words.specs.Places.{connectors}
use Rattle.connector.specs.declared.Completion.{Completion}
use Rattle.hub.specs.Completions.{inserted, ordered, no_completion, completions_of, put_in}

-- there is one more afterwards
pub inserted_length : (x : Completion) (l : List Completion) → length (inserted x l) ≡ suc (length l)
inserted_length x [] = refl
inserted_length x (y ∷ l) =
    cond_case (λ (m : List Completion). length m ≡ suc (suc (length l))) (ltb x.moment.0 y.moment.0) _ _
    (λ _. refl) (λ _. ap suc (inserted_length x l))

-- ---- the place of one more, where the first that is later stands, or behind all
-- where the first that passes stands, or behind all
pub place_is : {A : Type 0} (p : A → Bool) (l : List A) → unwrap_or (position p l) (length l) ≡ position_or_len p l
place_is p l =
    by_test (ltb (position_or_len p l) (length l)) (λ e. rw e)
    (λ e. rw e (omega (arith, ltb-false _ _ e, prefix_len-le-length (λ x. not (p x)) l)))

inserted_at : (x : Completion) (l : List Completion)
    → let at = position_or_len (λ (y : Completion). ltb x.moment.0 y.moment.0) l in
    inserted x l ≡ take at l ++ (x ∷ drop at l)
inserted_at x [] = refl
inserted_at x (y ∷ l) =
    by_test (ltb x.moment.0 y.moment.0) (λ e. rw e)
    (λ e. rw (e, one-add) (ap (λ (l : List Completion). y ∷ l) (inserted_at x l)))

-- those from a place on, up to n of them, moved on by one, and one more at the place
moved_on : {A : Type 0} (l : List A) (i n : ℕ) (x : A) → i ≤ n → n < length l
    → set (copy_within l i n (i + 1)) i x ≡ (take i (take n l) ++ (x ∷ drop i (take n l))) ++ drop (n + 1) l
moved_on l i n x h k =
    let first : take (i + 1) l ≡ take i l ++ (get_or l i x ∷ []) = rw add-one (take-suc l i x (omega arith)) in
    let behind : (i + 1) + (n - i) ≡ n + 1 = omega arith in
    let whole : i + (n - i) ≡ n = omega arith in
    let part : take (n - i) (drop i l) ≡ drop i (take n l) =
    sym (drop-take i (n - i) l) ∙ ap (λ (m : ℕ). drop i (take m l)) whole in
    rw (behind, first, part, take-take i n l h)
    (simp append_assoc (rw (set_at (take i l) (get_or l i x) (drop i (take n l) ++ drop (n + 1) l) x i (length-take-le i l (omega arith)))))

-- one more among the first of some, in its place
pub inserted_in : (x : Completion) (l : List Completion) (n : ℕ) → n < length l
    → let at = unwrap_or (position (λ (y : Completion). ltb x.moment.0 y.moment.0) (take n l)) (length (take n l)) in
    set (copy_within l at n (at + 1)) at x ≡ inserted x (take n l) ++ drop (n + 1) l
inserted_in x l n h =
    let few = prefix_len-le-length (λ (y : Completion). not (ltb x.moment.0 y.moment.0)) (take n l) in
    rw (place_is (λ (y : Completion). ltb x.moment.0 y.moment.0) (take n l), inserted_at x (take n l))
    (moved_on l (position_or_len (λ (y : Completion). ltb x.moment.0 y.moment.0) (take n l)) n x (omega (arith, few, length-take-le n l (omega arith))) h)

-- ---- the record of a list
-- one more in the record of a list makes that of the list with it in its place
pub put_in_is : (l : List Completion) (x : Completion) → length l < connectors → put_in (completions_of l) x ≡ completions_of (inserted x l)
unfolding put_in
put_in_is l x h =
    let sized : length l + 1 ≡ length (inserted x l) = add-one (length l) ∙ sym (inserted_length x l) in
    let room : connectors - length l ≡ suc (connectors - length (inserted x l)) = omega (arith, inserted_length x l) in
    let rest = drop-append-add l (replicate (connectors - length l) no_completion) 1 ∙ ap (λ (n : ℕ). drop 1 (replicate n no_completion)) room in
    rw (lt-ltb (length l) connectors h, take-append_seam l) (λ i. record { count = sized i; items = inserted x l ++ rest i })

-- ---- several, one after the other
-- the last of some is put in its place among the others
pub ordered_more : (done l : List Completion) (x : Completion) → ordered done (l ++ (x ∷ [])) ≡ inserted x (ordered done l)
ordered_more done [] x = refl
ordered_more done (y ∷ l) x = ordered_more (inserted y done) l x

-- none is lost
pub ordered_length : (done l : List Completion) → length (ordered done l) ≡ length done + length l
ordered_length done [] = sym (add-zero (length done))
ordered_length done (y ∷ l) = omega (arith, ordered_length (inserted y done) l, inserted_length y done)
