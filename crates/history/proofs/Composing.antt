-- Waiting composes, from a fresh hub and after any calls; a wait of 0 changes nothing.
use Prim.Native.Nat.{ℕ, ◌+◌, ◌≤◌}
use mathlib.Core.Path.{◌≡◌, refl, sym, ap, ap₂, ◌∙◌, subst}
use mathlib.Core.Bool.{Bool, true}
use mathlib.Core.List.{List, [], ◌∷◌, ◌++◌, map}
use mathlib.Core.Option.{Option, none, some}
use native.Mathlib.Omega.{arith}
use native.Mathlib.Nat.{add_assoc, add-zero}
use lib.Dec.{ltb}
use lib.ListN.{length}
use borrow.Author.Tests.{le-ltb}
use Rattle.laws.proofs.Choice.{by_test}
use Rattle.laws.specs.Lists.{all, gathered}
use Rattle.laws.specs.Checks.{between}
use Rattle.words.specs.Places.{ports}
use Rattle.request.specs.declared.Place.{Place}
use Rattle.request.specs.Place.{place_of}
use Rattle.meaning.specs.Time.{Transmission, complete}
use Rattle.meaning.specs.Log.{now, relay_of, until}
use Rattle.meaning.specs.Table.{Call, waiting, log_of}
use Rattle.meaning.specs.Table as table
use Rattle.theorems.proofs.Order.{moments_within}
use Rattle.connector.specs.declared.Completion.{Completion}
use Rattle.hub.specs.declared.Hub.{Hub}
use Rattle.hub.specs.Record.{fresh_hub}
use Rattle.hub.specs.Completions.{ordered}
use Rattle.hub.specs.Wait.{wait_call}
use Rattle.history.specs.Heard.{completion_out}
use Rattle.history.specs.Run.{Called, called, run}
use Rattle.history.specs.Waiting.{moved_by, Reached, reached, at, afterwards, Composes, ChangesNothing}
use Rattle.reads.proofs.Cursor.{mode_in}
use Rattle.lamp.proofs.Meaning.{shown_at}
use Rattle.shown.proofs.Known.{Known, due_of}
use Rattle.shown.proofs.Shown.{Fits, fits_later}
use Rattle.history.proofs.Agrees.{hub_of}
use Rattle.history.proofs.Joining.{due, completions}
use Rattle.history.proofs.Calling.{wait_passes, wait_completes}
use Rattle.history.proofs.Waits.{completions_add}
use Rattle.history.proofs.Told.{completions_are}
use Rattle.shown.proofs.View.{view}
use Rattle.shown.proofs.Logged.{logged_fits}
use Rattle.history.proofs.Following.{hub_at, Keeps, follows}

-- the hub of some history, with its store
record Past (r : Reached) : Type 0 where
  history : List Call
  hub : r.hub ≡ hub_at (log_of history)
  stored : Keeps r.store (log_of history)

-- a call more
past_call : (hub : Hub) (store : List ℕ) (call : Call) → Past (record { hub = hub; store = store })
    → Past (afterwards (called hub store call))
past_call hub store call p =
    let f = follows p.history store p.stored call in
    let same : called hub store call ≡ called (hub_at (log_of p.history)) store call = ap (λ (x : Hub). called x store call) p.hub in
    record {
      history = call ∷ p.history;
      hub = ap (λ (c : Called). c.hub) same ∙ f.hub;
      stored = subst (λ (c : Called). Keeps c.store (log_of (call ∷ p.history))) (sym same) f.stored;
    }

-- calls more
past : (hub : Hub) (store : List ℕ) (l : List Call) → Past (record { hub = hub; store = store }) → Past (reached hub store l)
past hub store [] p = p
past hub store (call ∷ l) p =
    past (called hub store call).hub (called hub store call).store l (past_call hub store call p)

-- every hub that calls reach from a fresh one is such a hub
past_fresh : (store : List ℕ) → length store ≡ 1560 → (calls : List Call) → Past (reached fresh_hub store calls)
unfolding mode_in shown_at
past_fresh store size calls =
    past fresh_hub store calls (record { history = []; hub = refl; stored = record { size = size; held = λ slot h. tt } })

-- ---- waits of a hub that shows what is known at a moment
-- the hub that shows what is known, with a store
abbrev present : ℕ → (ℕ → Known) → (ℕ → ℕ) → List ℕ → Reached
present t K R store = record { hub = hub_of t K R; store = store }

module _ (t : ℕ) (K : ℕ → Known) (R : ℕ → ℕ) (fit : (p : ℕ) → Fits t (K p)) (store : List ℕ) where
  -- what a wait leaves
  wait_leaves : (n : ℕ) → n ≤ 1000000000 → afterwards (at (present t K R store) (waiting n)) ≡ present (t + n) K R store
  unfolding wait_call
  wait_leaves n low = rw (le-ltb 1000000000 n low) (ap (λ (x : Hub). record { hub = x; store = store }) (wait_passes t K R fit n))

  -- what a wait completes
  wait_gives : (n : ℕ) → n ≤ 1000000000 → (at (present t K R store) (waiting n)).completions ≡ completions t K n
  unfolding wait_call
  wait_gives n low = rw (le-ltb 1000000000 n low) (wait_completes t K R fit n)

-- a wait that is refused completes nothing
pub refused_completes_nothing : (hub : Hub) (store : List ℕ) (n : ℕ) → ltb 1000000000 n ≡ true
    → (called hub store (waiting n)).completions ≡ []
unfolding wait_call
refused_completes_nothing hub store n e = rw e

-- nothing is complete at once
due_at_once : (t : ℕ) (place : Place) (x : Known) (o : Option Transmission) → due_of t 0 place x (until t o) ≡ []
due_at_once t place x none = refl
due_at_once t place x (some s) = by_test (complete s t) (λ e. rw e) (λ e. rw (e, add-zero t, e))

-- nor of any port
none_at_once : (t : ℕ) (K : ℕ → Known) (ps : List ℕ) → gathered (due t K 0) ps ≡ []
none_at_once t K [] = refl
none_at_once t K (p ∷ ps) = rw (due_at_once t (place_of 1 p) (K p) (K p).sending) (none_at_once t K ps)

module _ (t : ℕ) (K : ℕ → Known) (R : ℕ → ℕ) (fit : (p : ℕ) → Fits t (K p)) (store : List ℕ) where
  -- two waits and one of their sum
  two_waits : (a b : ℕ) → a + b ≤ 1000000000 → Composes (present t K R store) a b
  two_waits a b short =
      let first = wait_leaves t K R fit store a (omega arith) in
      let later : (p : ℕ) → Fits (t + a) (K p) = λ p. fits_later a (fit p) in
      let hubs : afterwards (at (afterwards (at (present t K R store) (waiting a))) (waiting b))
      ≡ afterwards (at (present t K R store) (waiting (a + b))) =
      ap (λ (r : Reached). afterwards (at r (waiting b))) first ∙ wait_leaves (t + a) K R later store b (omega arith)
      ∙ ap (λ (u : ℕ). present u K R store) (add_assoc t a b)
      ∙ sym (wait_leaves t K R fit store (a + b) short) in
      record {
        completions =
            wait_gives t K R fit store (a + b) short ∙ completions_add t K (λ p. (fit p).sends) a b
            ∙ ap₂ (λ (x y : List Completion). x ++ map (moved_by a) y) (sym (wait_gives t K R fit store a (omega arith)))
            (sym (ap (λ (r : Reached). (at r (waiting b)).completions) first ∙ wait_gives (t + a) K R later store b (omega arith)));
        hub = hubs;
        later = λ l. ap (λ (r : Reached). run r.hub r.store l) hubs;
      }

  -- a wait of 0
  no_wait : ChangesNothing (present t K R store) (waiting 0)
  unfolding wait_call
  no_wait =
      let same : afterwards (at (present t K R store) (waiting 0)) ≡ present t K R store =
      wait_leaves t K R fit store 0 (omega arith) ∙ ap (λ (u : ℕ). present u K R store) (add-zero t) in
      record {
        accepted = refl;
        hub = same;
        completions =
            wait_gives t K R fit store 0 (omega arith)
            ∙ ap (ordered []) (none_at_once t K ports);
        later = λ l. ap (λ (r : Reached). run r.hub r.store l) same;
      }

-- ---- after any calls

-- what holds of every hub that shows a history holds of every hub that calls reached
after_any : (P : Reached → Type 0)
    → ((h : List Call) (store : List ℕ) → P (record { hub = hub_at (log_of h); store = store }))
    → (store : List ℕ) → length store ≡ 1560 → (calls : List Call) → P (reached fresh_hub store calls)
after_any P each store size calls =
    let p = past_fresh store size calls in
    let r = reached fresh_hub store calls in
    subst (λ (x : Hub). P (record { hub = x; store = r.store })) (sym p.hub) (each p.history r.store)

-- an accepted wait, and two of the same sum
pub waiting_composes : (store : List ℕ) → length store ≡ 1560 → (calls : List Call) (a b : ℕ) → a + b ≤ 1000000000
    → Composes (reached fresh_hub store calls) a b
waiting_composes store size calls a b short =
    after_any (λ r. Composes r a b)
    (λ h s. two_waits (now (log_of h)) (view (log_of h)) (λ p. relay_of p (log_of h)) (logged_fits h) s a b short) store size calls

-- "A wait of 0 changes nothing."
pub wait_of_0 : (store : List ℕ) → length store ≡ 1560 → (calls : List Call) → ChangesNothing (reached fresh_hub store calls) (waiting 0)
wait_of_0 =
    after_any (λ r. ChangesNothing r (waiting 0))
    (λ h s. no_wait (now (log_of h)) (view (log_of h)) (λ p. relay_of p (log_of h)) (logged_fits h) s)

-- ---- when a wait's completions are
-- a test of each, in the meaning's words and in the hub's
all_out : (test : table.Completion → Bool) (l : List Completion) → all test (map completion_out l) ≡ all (λ x. test (completion_out x)) l
all_out test [] = refl
all_out test (x ∷ l) = rw (all_out test l)

-- behind the wait's start, and not behind its end
pub waits_within : (store : List ℕ) → length store ≡ 1560 → (calls : List Call) (n : ℕ) → n ≤ 1000000000
    → all (λ x. between 1 n x.moment.0) (at (reached fresh_hub store calls) (waiting n)).completions ≡ true
waits_within store size calls n low =
    after_any (λ r. all (λ x. between 1 n x.moment.0) (at r (waiting n)).completions ≡ true)
    (λ h s.
    let log = log_of h in
    let l = completions (now log) (view log) n in
    ap (all (λ x. between 1 n x.moment.0)) (wait_gives (now log) (view log) (λ p. relay_of p log) (logged_fits h) s n low)
    ∙ sym (all_out (λ x. between 1 n x.moment) l)
    ∙ ap (all (λ x. between 1 n x.moment)) (sym (completions_are log n))
    ∙ moments_within h n)
    store size calls
