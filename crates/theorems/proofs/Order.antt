-- A wait's completions are in their order, none is lost and none is doubled, and they are no more than there are connectors.
use Prim.Native.Nat.{ℕ, suc, ◌+◌, ◌-◌, ◌≤◌, ◌<◌}
use mathlib.Core.Path.{◌≡◌, refl, sym, ap, ◌∙◌, subst}
use mathlib.Core.Bool.{Bool, true, false, cond, not}
use mathlib.Core.List.Perm
use mathlib.Core.List.{List, [], ◌∷◌, Perm}
use mathlib.Core.Option.{Option, none, some}
use native.Mathlib.Omega.{arith}
use borrow.Author.Tests.{ltb-true, ltb-false, leb-true, leb-false, le-leb, eqb-true, ne_eqb}
use lib.Dec.{ltb, eqb}
use lib.ListN.{length}
use Rattle.laws.specs.Checks.{between, is_some}
use Rattle.laws.specs.Lists.{all, gathered}
use Rattle.laws.proofs.Choice.{cond_case, by_test, and_left, and_right, and_true}
use Rattle.laws.proofs.Slots.{up_length, gathered_few}
use Rattle.words.specs.Places.{connectors, ports}
use Rattle.meaning.specs.Time.{Transmission, complete, finish}
use Rattle.meaning.specs.Log.{Deed, now, last_of, owner_of, on_air}
use Rattle.meaning.specs.Table.{Completion, due_of, due, inserted, ordered, completions, Call, log_of}
use Rattle.theorems.specs.Order.{Sorted, at_moment}
use Rattle.theorems.proofs.Ports.{all_gathered}
use Rattle.theorems.proofs.Times.{Begun, begun_later, complete_is, BegunBy, last_begun, on_air_is}

-- ---- sorted by moment
behind : (x : Completion) (l : List Completion) → Sorted (x ∷ l) → Sorted l
behind x [] s = tt
behind x (y ∷ l) s = s.1

in_front : (y x : Completion) (l : List Completion) → y.moment ≤ x.moment → Sorted (y ∷ l) → Sorted (inserted x l) → Sorted (y ∷ inserted x l)
in_front y x [] b s t = (b, tt)
in_front y x (z ∷ l) b s t = go (ltb z.moment x.moment) t
  where
    go : (v : Bool) → Sorted (cond v (z ∷ inserted x l) (x ∷ z ∷ l)) → Sorted (y ∷ cond v (z ∷ inserted x l) (x ∷ z ∷ l))
    go true t = (s.0, t)
    go false t = (b, t)

inserted_sorted : (x : Completion) (l : List Completion) → Sorted l → Sorted (inserted x l)
inserted_sorted x [] s = tt
inserted_sorted x (y ∷ l) s =
    cond_case Sorted (ltb y.moment x.moment) (y ∷ inserted x l) (x ∷ y ∷ l)
    (λ e. in_front y x l (omega (arith, ltb-true y.moment x.moment e)) s (inserted_sorted x l (behind y l s)))
    (λ e. (ltb-false y.moment x.moment e, s))

ordered_sorted : (l : List Completion) → Sorted (ordered l)
ordered_sorted [] = tt
ordered_sorted (x ∷ l) = inserted_sorted x (ordered l) (ordered_sorted l)

-- ---- none lost and none doubled: `Perm` is the library's "the one list is the other in some order"
inserted_same : (x : Completion) (l : List Completion) → Perm (inserted x l) (x ∷ l)
inserted_same x [] = Perm.refl (x ∷ [])
inserted_same x (y ∷ l) =
    cond_case (λ (m : List Completion). Perm m (x ∷ y ∷ l)) (ltb y.moment x.moment) (y ∷ inserted x l) (x ∷ y ∷ l)
    (λ e. Perm.trans (Perm.cons y (inserted_same x l)) (Perm.swap x y l)) (λ e. Perm.refl (x ∷ y ∷ l))

ordered_same : (l : List Completion) → Perm (ordered l) l
ordered_same [] = Perm.refl []
ordered_same (x ∷ l) = Perm.trans (inserted_same x (ordered l)) (Perm.cons x (ordered_same l))

-- ---- those at one moment stay in their order
at_inserted : (t : ℕ) (x : Completion) (l : List Completion) → at_moment t (inserted x l) ≡ at_moment t (x ∷ l)
at_inserted t x [] = refl
at_inserted t x (y ∷ l) =
    cond_case (λ (m : List Completion). at_moment t m ≡ at_moment t (x ∷ y ∷ l)) (ltb y.moment x.moment) (y ∷ inserted x l) (x ∷ y ∷ l)
    (λ e. ap (λ (k : List Completion). cond (eqb y.moment t) (y ∷ k) k) (at_inserted t x l) ∙ apart (ltb-true y.moment x.moment e))
    (λ e. refl)
  where
    apart : y.moment < x.moment → at_moment t (y ∷ x ∷ l) ≡ at_moment t (x ∷ y ∷ l)
    apart h =
        by_test (eqb y.moment t)
        (λ e. let f = eqb-true y.moment t e in rw (e, ne_eqb x.moment t (λ g. omega arith)))
        (λ e. rw e)

at_ordered : (t : ℕ) (l : List Completion) → at_moment t (ordered l) ≡ at_moment t l
at_ordered t [] = refl
at_ordered t (x ∷ l) =
    at_inserted t x (ordered l) ∙ ap (λ (k : List Completion). cond (eqb x.moment t) (x ∷ k) k) (at_ordered t l)

-- ---- how many
inserted_length : (x : Completion) (l : List Completion) → length (inserted x l) ≡ suc (length l)
inserted_length x [] = refl
inserted_length x (y ∷ l) =
    cond_case (λ (m : List Completion). length m ≡ suc (suc (length l))) (ltb y.moment x.moment) (y ∷ inserted x l) (x ∷ y ∷ l)
    (λ e. ap suc (inserted_length x l)) (λ e. refl)

ordered_length : (l : List Completion) → length (ordered l) ≡ length l
ordered_length [] = refl
ordered_length (x ∷ l) = inserted_length x (ordered l) ∙ ap suc (ordered_length l)

module _ (n : ℕ) (log : List Deed) where
  -- moments never fall
  pub completions_sorted : Sorted (completions n log)
  completions_sorted = ordered_sorted (gathered (due n log) ports)

  -- the completions are what is due of the connectors, each once
  pub completions_same : Perm (completions n log) (gathered (due n log) ports)
  completions_same = ordered_same (gathered (due n log) ports)

  -- "then by port": at one moment they stand in the order of their ports
  pub then_by_port : (t : ℕ) → at_moment t (completions n log) ≡ at_moment t (gathered (due n log) ports)
  then_by_port t = at_ordered t (gathered (due n log) ports)

  -- of a connector at most one
  pub due_at_most_one : (p : ℕ) → length (due n log p) ≤ 1
  due_at_most_one p = go (on_air p log)
    where
      go : (o : Option Transmission) → length (due_of n (now log) p (owner_of p log) o) ≤ 1
      go none = omega arith
      go (some s) = cond_case (λ (l : List Completion). length l ≤ 1) (complete s _) _ [] (λ e. omega arith) (λ e. omega arith)

  -- "A wait returns up to three completions": no more than there are connectors
  pub at_most_three : length (completions n log) ≤ connectors
  at_most_three =
      rw (ordered_length (gathered (due n log) ports))
      (omega (arith, gathered_few (due n log) due_at_most_one ports, up_length 1 connectors))

-- ---- within the wait
module _ (test : Completion → Bool) where
  all_inserted : (x : Completion) (l : List Completion) → test x ≡ true → all test l ≡ true → all test (inserted x l) ≡ true
  all_inserted x [] e f = and_true (test x) true e refl
  all_inserted x (y ∷ l) e f =
      let first = and_left (test y) (all test l) f in
      cond_case (λ (m : List Completion). all test m ≡ true) (ltb y.moment x.moment) (y ∷ inserted x l) (x ∷ y ∷ l)
      (λ _. and_true (test y) _ first (all_inserted x l e (and_right (test y) (all test l) f)))
      (λ _. and_true (test x) _ e f)

  all_ordered : (l : List Completion) → all test l ≡ true → all test (ordered l) ≡ true
  all_ordered [] e = refl
  all_ordered (x ∷ l) e =
      all_inserted x (ordered l) (and_left (test x) (all test l) e) (all_ordered l (and_right (test x) (all test l) e))

module _ (h : List Call) (n : ℕ) where
  abbrev log : List Deed
  log = log_of h

  abbrev inside : Completion → Bool
  inside x = between 1 n x.moment

  due_inside : (p : ℕ) → all inside (due n log p) ≡ true
  due_inside p = go (on_air p log) (λ s e. on_air_is p log s e)
    where
      go : (o : Option Transmission) → ((s : Transmission) → o ≡ some s → (last_of p log ≡ some s) × (complete s (now log) ≡ false))
          → all inside (due_of n (now log) p (owner_of p log) o) ≡ true
      go none air = refl
      go (some s) air =
          let begun : Begun s (now log) = subst (BegunBy (now log)) (air s refl).0 (last_begun h p) in
          let before = leb-false (finish s) (now log) (sym (complete_is begun) ∙ (air s refl).1) in
          cond_case (λ (l : List Completion). all inside l ≡ true) (complete s (now log + n)) _ []
          (λ e.
          let reached = leb-true (finish s) (now log + n) (sym (complete_is {t = now log + n} (begun_later begun (omega arith))) ∙ e) in
          rw (le-leb 1 (finish s - now log) (omega arith), le-leb (finish s - now log) n (omega arith)))
          (λ e. refl)

  -- after every history each completion is at a moment behind the wait's start and not behind its end
  pub moments_within : all (λ x. between 1 n x.moment) (completions n (log_of h)) ≡ true
  moments_within =
      all_ordered inside (gathered (due n log) ports) (all_gathered (due n log) inside due_inside ports)

-- "One without an owner is listed without an addressee."
pub unowned_unaddressed : (n : ℕ) (log : List Deed) (p : ℕ) → owner_of p log ≡ none → all (λ x. not (is_some x.owner)) (due n log p) ≡ true
unowned_unaddressed n log p e = go (on_air p log)
  where
    go : (o : Option Transmission) → all (λ x. not (is_some x.owner)) (due_of n (now log) p (owner_of p log) o) ≡ true
    go none = refl
    go (some s) = by_test (complete s (now log + n)) (λ c. rw (c, e)) (λ c. rw c)
