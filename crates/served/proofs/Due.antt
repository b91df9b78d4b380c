-- What the server says is due is exact, after any events.
use Prim.Native.Nat.{ℕ, suc, ◌+◌, ◌-◌, ◌≤◌}
use mathlib.Core.Path.{◌≡◌, refl, sym, ap, ◌∙◌, subst}
use mathlib.Core.Bool.{true}
use mathlib.Core.List.{List, [], ◌∷◌, ◌++◌, map}
use Rattle.std.proofs.Common.{Option, Some, None}
use native.Mathlib.Omega.{arith}
use borrow.Author.Tests.{ne_eqb}
use lib.ListN.{length}
use Rattle.laws.specs.Checks.{between}
use Rattle.laws.specs.Lists.{all}
use Rattle.laws.proofs.Choice.{clash, and_left, between_least, between_most}
use Rattle.meaning.specs.Table.{Call, waiting}
use Rattle.pace.specs.declared.Micros.{Micros}
use Rattle.connector.specs.declared.Completion.{Completion}
use Rattle.hub.specs.Record.{fresh_hub}
use Rattle.hub.specs.Completions.{completions_of}
use Rattle.hub.specs.Wait.{completed, wait_call}
use Rattle.history.specs.Waiting.{moved_by, Reached, reached, at, afterwards}
use Rattle.history.proofs.Calling.{listed_of}
use Rattle.history.proofs.Composing.{waiting_composes, waits_within}
use Rattle.server.specs.Record.{all_buffers}
use Rattle.server.specs.Calls.{first_due, due_of}
use Rattle.served.specs.Events.{Event, history_of}
use Rattle.served.specs.Serving.{fresh_state, served}
use Rattle.served.specs.Due.{completed_in, DueExactly, not_soon, soon}
use Rattle.served.proofs.Serving.{reached_append, given}

-- a list of completions, by its first
abbrev first_of : List Completion → Option Micros
first_of [] = None
first_of (x ∷ l) = Some x.moment

first_of_law : (l : List Completion) → first_due (completions_of l) ≡ first_of l
first_of_law [] = refl
first_of_law (x ∷ l) = rw (ne_eqb (suc (length l)) 0 (λ e. omega arith))

-- nothing in front of nothing
none_in_front : (k l : List Completion) → k ++ l ≡ [] → k ≡ []
none_in_front [] l e = refl
none_in_front (x ∷ k) l e = clash (cc)

-- how a list begins that others are joined to
begins : (k l : List Completion) (x : Completion) (rest : List Completion) → k ++ l ≡ x ∷ rest
    → (P : Type 0) → (k ≡ [] → l ≡ x ∷ rest → P) → ((more : List Completion) → k ≡ x ∷ more → P) → P
begins [] l x rest e P f g = f refl e
begins (y ∷ k) l x rest e P f g = let same : y ≡ x = cc in g k (ap (λ (z : Completion). z ∷ k) same)

-- the first completion of a wait is behind its start and not behind its end
first_within : (store : List ℕ) → length store ≡ 1560 → (calls : List Call) (n : ℕ) → n ≤ 1000000000 → (x : Completion) (l : List Completion)
    → (at (reached fresh_hub store calls) (waiting n)).completions ≡ x ∷ l → between 1 n x.moment.0 ≡ true
first_within store sized calls n low x l e =
    let each : all (λ y. between 1 n y.moment.0) (x ∷ l) ≡ true = rw e at (waits_within store sized calls n low) in
    and_left (between 1 n x.moment.0) (all (λ y. between 1 n y.moment.0) l) each

module _ (store : List ℕ) (sized : length store ≡ 1560) (calls : List Call) where
  abbrev here : Reached
  here = reached fresh_hub store calls

  abbrev longest : ℕ
  longest = 1000000000

  -- the longest wait in two goes
  parted : (n : ℕ) → n ≤ longest
      → completed_in here.hub longest
      ≡ completed_in here.hub n ++ map (moved_by n) (at (afterwards (at here (waiting n))) (waiting (longest - n))).completions
  parted n low =
      let sum : n + (longest - n) ≡ longest = omega arith in
      ap (completed_in here.hub) (sym sum) ∙ (waiting_composes store sized calls n (longest - n) (omega arith)).completions

  -- the wait behind a wait is one of the same history with that wait more
  within_later : (t : ℕ) (y : Completion) (m : List Completion) → (at (afterwards (at here (waiting t))) (waiting (longest - t))).completions ≡ y ∷ m
      → 1 ≤ y.moment.0
  within_later t y m e =
      let same = ap (λ (r : Reached). (at r (waiting (longest - t))).completions) (reached_append fresh_hub store calls (waiting t ∷ [])) in
      between_least 1 (longest - t) y.moment.0 (first_within store sized (calls ++ waiting t ∷ []) (longest - t) (omega arith) y m (same ∙ e))

  -- a wait of just that long completes something: else the first completion would be at the start of the wait behind it
  not_later : (x : Completion) (l then : List Completion) → map (moved_by x.moment.0) then ≡ x ∷ l
      → ((y : Completion) (m : List Completion) → then ≡ y ∷ m → 1 ≤ y.moment.0) → {A : Type 0} → A
  not_later x l [] moved later = clash (cc)
  not_later x l (y ∷ m) moved later =
      let equal : moved_by x.moment.0 y ≡ x = cc in
      let moments : x.moment.0 + y.moment.0 ≡ x.moment.0 = ap (λ (z : Completion). z.moment.0) equal in
      absurd (omega (arith, later y m refl))

  due_by : (l : List Completion) → completed_in here.hub longest ≡ l → DueExactly here.hub (first_of l)
  due_by [] e = not_soon (λ n low. none_in_front _ _ (sym (parted n low) ∙ e))
  due_by (x ∷ l) e =
      let t = x.moment.0 in
      let low = between_most 1 longest t (first_within store sized calls longest (omega arith) x l e) in
      begins (completed_in here.hub t) _ x l (sym (parted t low) ∙ e) _
      (λ none moved. not_later x l _ moved (within_later t))
      (λ more done.
      soon low
      (λ n less.
      begins (completed_in here.hub n) _ x l (sym (parted n (omega arith)) ∙ e) _ (λ none moved. none)
      (λ rest some. absurd (omega (arith, between_most 1 n t (first_within store sized calls n (omega arith) x rest some)))))
      x more done)

  due_reached : DueExactly here.hub (first_due (wait_call here.hub longest).completions)
  unfolding wait_call
  due_reached =
      let l = completed here.hub.connectors longest in
      subst (DueExactly here.hub) (sym (first_of_law l)) (due_by l (listed_of l))

-- after any events
pub due_exact : (room : ℕ) → 128 ≤ room → (store buffers : List ℕ) → length store ≡ 1560 → length buffers ≡ all_buffers → (events : List Event)
    → let s = (served room events (fresh_state store buffers)).state.server in
    DueExactly s.hub (due_of s)
due_exact room enough store buffers sized long events =
    subst (λ (r : Reached). DueExactly r.hub (first_due (wait_call r.hub 1000000000).completions))
    (sym (given room enough store buffers sized long events).after)
    (due_reached store sized (history_of room events))
