-- The completions of a wait are those of two with the same sum, one behind the other.
use Prim.Native.Nat.{ℕ, ◌+◌, ◌-◌, ◌≤◌, ◌<◌}
use mathlib.Core.Path.{◌≡◌, refl, sym, ap, ap₂, ◌∙◌}
use mathlib.Core.Bool.{Bool, true, false, cond}
use mathlib.Core.List.{List, [], ◌∷◌, ◌++◌, map, map-append}
use mathlib.Core.Option.{Option, none, some}
use native.Mathlib.Omega.{arith}
use native.Mathlib.Nat.{add_assoc}
use lib.Dec.{ltb}
use borrow.Author.Tests.{ltb-true, ltb-false, lt-ltb, le-ltb}
use Rattle.laws.proofs.Choice.{by_test, not_both, cond_case}
use Rattle.laws.specs.Lists.{gathered}
use Rattle.words.specs.Places.{ports}
use Rattle.request.specs.declared.Place.{Place}
use Rattle.request.specs.Place.{place_of}
use Rattle.meaning.specs.Time.{Transmission, complete, finish}
use Rattle.meaning.specs.Log.{until}
use Rattle.waveform.proofs.Paced.{fit_later, complete_later}
use Rattle.waveform.proofs.Meaning.{finish_tells, finish_first}
use Rattle.connector.specs.declared.Completion.{Completion}
use Rattle.hub.specs.Completions.{inserted, ordered}
use Rattle.pace.specs.Pace.{micros}
use Rattle.history.specs.Waiting.{moved_by}
use Rattle.shown.proofs.Known.{Known, due_of}
use Rattle.shown.proofs.Shown.{FitFor}
use Rattle.history.proofs.Joining.{due, completions, ordered_append}

-- ---- completions up to a moment, and behind it
-- none is later than a
abbrev Upto : ℕ → List Completion → Type 0
Upto a [] = Unit
Upto a (x ∷ l) = (x.moment.0 ≤ a) × Upto a l

-- all are later than a
abbrev Behind : ℕ → List Completion → Type 0
Behind a [] = Unit
Behind a (x ∷ l) = (a < x.moment.0) × Behind a l

module _ (a : ℕ) where
  -- one more that is not later
  upto_inserted : (x : Completion) (l : List Completion) → x.moment.0 ≤ a → Upto a l → Upto a (inserted x l)
  upto_inserted x [] h u = (h, tt)
  upto_inserted x (y ∷ l) h u =
      cond_case (Upto a) (ltb x.moment.0 y.moment.0) (x ∷ y ∷ l) (y ∷ inserted x l)
      (λ e. (h, u)) (λ e. (u.0, upto_inserted x l h u.1))

  -- one more that is later
  behind_inserted : (x : Completion) (l : List Completion) → a < x.moment.0 → Behind a l → Behind a (inserted x l)
  behind_inserted x [] h u = (h, tt)
  behind_inserted x (y ∷ l) h u =
      cond_case (Behind a) (ltb x.moment.0 y.moment.0) (x ∷ y ∷ l) (y ∷ inserted x l)
      (λ e. (h, u)) (λ e. (u.0, behind_inserted x l h u.1))

  -- an early one goes among the early ones, a late one among the late ones
  insert_early : (x : Completion) (l m : List Completion) → x.moment.0 ≤ a → Behind a m → inserted x (l ++ m) ≡ inserted x l ++ m
  insert_early x [] [] h b = refl
  insert_early x [] (y ∷ m) h b = rw (lt-ltb x.moment.0 y.moment.0 (omega (arith, b.0)))
  insert_early x (y ∷ l) m h b = by (ltb x.moment.0 y.moment.0) (insert_early x l m h b)
    where
      by : (v : Bool) → inserted x (l ++ m) ≡ inserted x l ++ m
          → cond v (x ∷ y ∷ (l ++ m)) (y ∷ inserted x (l ++ m)) ≡ cond v (x ∷ y ∷ l) (y ∷ inserted x l) ++ m
      by true e = refl
      by false e = ap (λ (k : List Completion). y ∷ k) e

  -- a late one goes among the late ones
  insert_late : (x : Completion) (l m : List Completion) → a < x.moment.0 → Upto a l → inserted x (l ++ m) ≡ l ++ inserted x m
  insert_late x [] m h u = refl
  insert_late x (y ∷ l) m h u =
      rw (le-ltb x.moment.0 y.moment.0 (omega (arith, u.0)))
      (ap (λ (k : List Completion). y ∷ k) (insert_late x l m h u.1))

  -- none of two lists in order is later
  upto_ordered : (l e : List Completion) → Upto a l → Upto a e → Upto a (ordered l e)
  upto_ordered l [] u v = u
  upto_ordered l (x ∷ e) u v = upto_ordered (inserted x l) e (upto_inserted x l v.0 u) v.1

  -- all of two lists in order are later
  behind_ordered : (l e : List Completion) → Behind a l → Behind a e → Behind a (ordered l e)
  behind_ordered l [] u v = u
  behind_ordered l (x ∷ e) u v = behind_ordered (inserted x l) e (behind_inserted x l v.0 u) v.1

  -- early ones go among the early ones
  ordered_early : (l m e : List Completion) → Upto a e → Behind a m → ordered (l ++ m) e ≡ ordered l e ++ m
  ordered_early l m [] u b = refl
  ordered_early l m (x ∷ e) u b =
      ap (λ (k : List Completion). ordered k e) (insert_early x l m u.0 b) ∙ ordered_early (inserted x l) m e u.1 b

  -- late ones go among the late ones
  ordered_late : (l m e : List Completion) → Behind a e → Upto a l → ordered (l ++ m) e ≡ l ++ ordered m e
  ordered_late l m [] b u = refl
  ordered_late l m (x ∷ e) b u =
      ap (λ (k : List Completion). ordered k e) (insert_late x l m b.0 u) ∙ ordered_late l (inserted x m) e b.1 u

  -- so of one port more, with those that are early and those that are late
  split_more : (l m e f : List Completion) → Upto a l → Behind a m → Upto a e → Behind a f
      → ordered (l ++ m) (e ++ f) ≡ ordered l e ++ ordered m f
  split_more l m e f u b v c =
      ordered_append (l ++ m) e f ∙ ap (λ (k : List Completion). ordered k f) (ordered_early l m e v b)
      ∙ ordered_late (ordered l e) m f c (upto_ordered l e u v)

  -- so of all ports
  split_all : (early late : ℕ → List Completion) → ((p : ℕ) → Upto a (early p)) → ((p : ℕ) → Behind a (late p)) → (ps : List ℕ)
      → (l m : List Completion) → Upto a l → Behind a m
      → ordered (l ++ m) (gathered (λ p. early p ++ late p) ps) ≡ ordered l (gathered early ps) ++ ordered m (gathered late ps)
  split_all early late up down [] l m u b = refl
  split_all early late up down (p ∷ ps) l m u b =
      ordered_append (l ++ m) (early p ++ late p) (gathered (λ q. early q ++ late q) ps)
      ∙ ap (λ (k : List Completion). ordered k (gathered (λ q. early q ++ late q) ps)) (split_more l m (early p) (late p) u b (up p) (down p))
      ∙ split_all early late up down ps (ordered l (early p)) (ordered m (late p)) (upto_ordered l (early p) u (up p))
      (behind_ordered m (late p) b (down p))
      ∙ ap₂ (λ (x y : List Completion). x ++ y) (sym (ordered_append l (early p) (gathered early ps)))
      (sym (ordered_append m (late p) (gathered late ps)))

-- ---- moments counted from earlier
-- the order of two does not depend on where they are counted from
inserted_moved : (a : ℕ) (x : Completion) (l : List Completion) → inserted (moved_by a x) (map (moved_by a) l) ≡ map (moved_by a) (inserted x l)
inserted_moved a x [] = refl
inserted_moved a x (y ∷ l) =
    rw (same_test x.moment.0 y.moment.0) (by (ltb x.moment.0 y.moment.0) (inserted_moved a x l))
  where
    same_test : (m n : ℕ) → ltb (a + m) (a + n) ≡ ltb m n
    same_test m n =
        by_test (ltb m n)
        (λ e. lt-ltb (a + m) (a + n) (omega (arith, ltb-true m n e)) ∙ sym e)
        (λ e. le-ltb (a + m) (a + n) (omega (arith, ltb-false m n e)) ∙ sym e)

    by : (v : Bool) → inserted (moved_by a x) (map (moved_by a) l) ≡ map (moved_by a) (inserted x l)
        → cond v (moved_by a x ∷ moved_by a y ∷ map (moved_by a) l) (moved_by a y ∷ inserted (moved_by a x) (map (moved_by a) l))
        ≡ map (moved_by a) (cond v (x ∷ y ∷ l) (y ∷ inserted x l))
    by true e = refl
    by false e = ap (λ (k : List Completion). moved_by a y ∷ k) e

-- nor does that of a list
ordered_moved : (a : ℕ) (l e : List Completion) → ordered (map (moved_by a) l) (map (moved_by a) e) ≡ map (moved_by a) (ordered l e)
ordered_moved a l [] = refl
ordered_moved a l (x ∷ e) =
    ap (λ (k : List Completion). ordered k (map (moved_by a) e)) (inserted_moved a x l) ∙ ordered_moved a (inserted x l) e

-- ---- what is due of one connector
module _ (t a b : ℕ) (place : Place) (x : Known) where
  -- the completions of the whole wait are those of the first and, moved, those of the second
  due_add : (o : Option Transmission) → FitFor t o
      → due_of t (a + b) place x (until t o) ≡ due_of t a place x (until t o) ++ map (moved_by a) (due_of (t + a) b place x (until (t + a) o))
  due_add none g = refl
  due_add (some s) g = by (complete s t) refl (complete s (t + a)) refl
    where
      late : complete s (t + a) ≡ false → finish s - t ≡ a + (finish s - (t + a))
      late e = omega (arith, (finish_first (fit_later g a) e).0)

      second : complete s (t + a) ≡ false → (w : Bool)
          → cond w (record { owner = x.owner; moment = micros (finish s - t); place = place; id = s.fields.id } ∷ []) []
          ≡ map (moved_by a)
          (cond w (record { owner = x.owner; moment = micros (finish s - (t + a)); place = place; id = s.fields.id } ∷ []) [])
      second e true = rw (late e)
      second e false = refl

      by : (u : Bool) → complete s t ≡ u → (v : Bool) → complete s (t + a) ≡ v
          → due_of t (a + b) place x (cond u none (some s))
          ≡ due_of t a place x (cond u none (some s)) ++ map (moved_by a) (due_of (t + a) b place x (cond v none (some s)))
      by true d true e = refl
      by true d false e = not_both (complete_later g a d) e
      by false d true e = rw (← add_assoc t a b, complete_later (fit_later g a) b e, e)
      by false d false e = rw (← add_assoc t a b, e) (second e (complete s (t + a + b)))

  -- what the first wait completes is not later than its end
  due_upto : (o : Option Transmission) → FitFor t o → Upto a (due_of t a place x (until t o))
  due_upto none g = tt
  due_upto (some s) g = by (complete s t)
    where
      soon : (w : Bool) → complete s (t + a) ≡ w
          → Upto a (cond w (record { owner = x.owner; moment = micros (finish s - t); place = place; id = s.fields.id } ∷ []) [])
      soon true e = (omega (arith, (finish_tells (fit_later g a)).0 e), tt)
      soon false e = tt

      by : (v : Bool) → Upto a (due_of t a place x (cond v none (some s)))
      by true = tt
      by false = soon (complete s (t + a)) refl

  -- what the second completes is later
  due_behind : (o : Option Transmission) → FitFor t o → Behind a (map (moved_by a) (due_of (t + a) b place x (until (t + a) o)))
  due_behind none g = tt
  due_behind (some s) g = by (complete s (t + a)) refl
    where
      soon : complete s (t + a) ≡ false → (w : Bool)
          → Behind a
          (map (moved_by a)
          (cond w (record { owner = x.owner; moment = micros (finish s - (t + a)); place = place; id = s.fields.id } ∷ []) []))
      soon e true = (omega (arith, (finish_first (fit_later g a) e).0), tt)
      soon e false = tt

      by : (v : Bool) → complete s (t + a) ≡ v
          → Behind a (map (moved_by a) (due_of (t + a) b place x (cond v none (some s))))
      by true e = tt
      by false e = soon e (complete s (t + a + b))

-- ---- the completions of the whole hub
module _ (t : ℕ) (K : ℕ → Known) (fit : (p : ℕ) → FitFor t (K p).sending) (a b : ℕ) where
  -- what the second wait completes, counted from the first one's start
  abbrev later : ℕ → List Completion
  later port = map (moved_by a) (due (t + a) K b port)

  -- a port completes in both what it completes in the whole
  both : (port : ℕ) → due t K (a + b) port ≡ due t K a port ++ later port
  both port = due_add t a b (place_of 1 port) (K port) (K port).sending (fit port)

  -- those of the first are not later than its end
  upto : (port : ℕ) → Upto a (due t K a port)
  upto port = due_upto t a b (place_of 1 port) (K port) (K port).sending (fit port)

  -- those of the second are
  behind : (port : ℕ) → Behind a (later port)
  behind port = due_behind t a b (place_of 1 port) (K port) (K port).sending (fit port)

  -- all of the second are counted so
  moved_all : (ps : List ℕ) → gathered later ps ≡ map (moved_by a) (gathered (due (t + a) K b) ps)
  moved_all [] = refl
  moved_all (p ∷ ps) =
      ap (λ (l : List Completion). later p ++ l) (moved_all ps)
      ∙ sym (map-append (moved_by a) (due (t + a) K b p) (gathered (due (t + a) K b) ps))

  -- the completions of the whole are those of the first, and behind them those of the second
  pub completions_add : completions t K (a + b) ≡ completions t K a ++ map (moved_by a) (completions (t + a) K b)
  completions_add =
      (λ i. ordered [] (gathered (λ p. both p i) ports))
      ∙ split_all a (due t K a) later upto behind ports [] [] tt tt
      ∙ ap (λ (l : List Completion). completions t K a ++ l)
      (ap (ordered []) (moved_all ports) ∙ ordered_moved a [] (gathered (due (t + a) K b) ports))
