-- A transmission renewed any number of times stays exact, and no copy of it is sent too many.
use Prim.Native.Nat.{ℕ, ◌+◌, ◌≤◌}
use mathlib.Core.Path.{◌≡◌, refl, sym, ap, subst, ◌∙◌}
use mathlib.Core.Bool.{true}
use mathlib.Core.List.{List, [], ◌∷◌, ◌++◌}
use mathlib.Core.Option.{Option, none, some, map, some-injective}
use native.Mathlib.Omega.{arith}
use lib.Dec.{eqb}
use borrow.Author.Tests.{eq-eqb, eqb-true}
use Rattle.laws.specs.Lists.{all}
use Rattle.laws.proofs.Choice.{clash, cond_case, and_true}
use Rattle.meaning.specs.Time.{Transmission, done, total, finished}
use Rattle.meaning.specs.Time as time
use Rattle.meaning.specs.Log.{Deed, passed, setting, switched, event, started, renewed, halted, left, now, last_of, on_air}
use Rattle.meaning.specs.Table.{deeds_of, Call, judge, log_of}
use Rattle.waveform.specs.Meaning.{unfinished}
use Rattle.waveform.specs.Paced.{Fit}
use Rattle.waveform.proofs.Paced.{fit_renewed, renewed_runs}
use Rattle.waveform.proofs.Meaning.{unfinished_is, repeat_left, finished_renewed, renewed_grows}
use Rattle.theorems.proofs.Completing.{untouched}
use Rattle.history.specs.Copies.{spares, CopiesBy, at_start, at_renewal}
use Rattle.shown.proofs.Shown.{FitFor}
use Rattle.shown.proofs.View.{until_some}
use Rattle.shown.proofs.Logged.{logged_fit}

-- ---- its copies

-- what a connector had last has so many copies
abbrev Counted : List Deed → ℕ → Option Transmission → Type 0
Counted log p none = Unit
Counted log p (some s) = CopiesBy log p s

-- a deed more that spares it
spared : (log : List Deed) (p : ℕ) (d : Deed) → spares p d ≡ true → (o : Option Transmission) → Counted log p o → Counted (d ∷ log) p o
spared log p d e none c = tt
spared log p d e (some s) (at_start since earlier connection splits quiet n) =
    at_start (d ∷ since) earlier connection (ap (λ (l : List Deed). d ∷ l) splits) (and_true _ _ e quiet) n
spared log p d e (some s) (at_renewal since earlier splits quiet n) =
    at_renewal (d ∷ since) earlier (ap (λ (l : List Deed). d ∷ l) splits) (and_true _ _ e quiet) n

-- a renewal
counted_renewed : (log : List Deed) (p q : ℕ) → q ≡ p → (o : Option Transmission)
    → Counted (event (renewed q) ∷ log) p (map (λ s. time.renewed s (now log)) o)
unfolding time.renewed finished done
counted_renewed log p q e none = tt
counted_renewed log p q e (some s) = at_renewal [] log (ap (λ (n : ℕ). event (renewed n) ∷ log) e) refl refl

-- so by any log
counted : (log : List Deed) (p : ℕ) → Counted log p (last_of p log)
unfolding time.started
counted [] p = tt
counted (passed n ∷ log) p = spared log p (passed n) refl (last_of p log) (counted log p)
counted (setting q x ∷ log) p = spared log p (setting q x) refl (last_of p log) (counted log p)
counted (switched q state ∷ log) p = spared log p (switched q state) refl (last_of p log) (counted log p)
counted (event (started q connection f ps) ∷ log) p =
    cond_case (Counted (event (started q connection f ps) ∷ log) p) (eqb q p) _ _
    (λ e. at_start [] log connection (ap (λ (n : ℕ). event (started n connection f ps) ∷ log) (eqb-true q p e)) refl refl)
    (λ e. spared log p (event (started q connection f ps)) (rw e) (last_of p log) (counted log p))
counted (event (renewed q) ∷ log) p =
    cond_case (Counted (event (renewed q) ∷ log) p) (eqb q p) _ _
    (λ e. counted_renewed log p q (eqb-true q p e) (last_of p log))
    (λ e. spared log p (event (renewed q)) (rw e) (last_of p log) (counted log p))
counted (event (halted q) ∷ log) p =
    cond_case (Counted (event (halted q) ∷ log) p) (eqb q p) _ _
    (λ e. tt) (λ e. spared log p (event (halted q)) (rw e) (last_of p log) (counted log p))
counted (event (left connection) ∷ log) p = spared log p (event (left connection)) refl (last_of p log) (counted log p)

-- by any log, however often a transmission was renewed: its copies are its repeat, or those finished at its last renewal plus repeat
pub renewed_often : (log : List Deed) (p : ℕ) (s : Transmission) → last_of p log ≡ some s → CopiesBy log p s
renewed_often log p s e = subst (Counted log p) e (counted log p)

-- ---- after a history, a transmission on air
module _ (h : List Call) (p : ℕ) (s : Transmission) (air : on_air p (log_of h) ≡ some s) where
  -- it was started last
  last : last_of p (log_of h) ≡ some s
  unfolding on_air
  last = until_some (now (log_of h)) (last_of p (log_of h)) air

  -- it is one of an accepted command
  fit : Fit s (now (log_of h))
  fit = subst (FitFor (now (log_of h))) last (logged_fit h p)

  -- Document 002: "at no time can the command repeat more than 5 times after the button is released", where repeat is 5.
  pub never_more_than_repeat : unfinished s (now (log_of h)) s.copies ≤ s.fields.repeat
  never_more_than_repeat = omega (arith, unfinished_is fit s.copies, repeat_left fit)

  module _ (call : Call) (e : deeds_of (judge (log_of h) call) ≡ event (renewed p) ∷ []) where
    -- A call renews it: it stays on air, and nothing of it changes but the number of copies, which becomes those finished at this moment
    -- plus repeat; it runs on since its first start.
    pub renewed_exact : on_air p (log_of (call ∷ h))
        ≡ some (record { fields = s.fields; pairs = s.pairs; start = s.start; copies = finished s (now (log_of h)) + s.fields.repeat })
    unfolding on_air time.renewed
    renewed_exact = rw (e, eq-eqb p p refl, last, renewed_runs fit)

    -- Exactly repeat copies are sent from now on: so many are not yet finished, counted one by one.
    pub sent_repeat_times : (r : Transmission) → on_air p (log_of (call ∷ h)) ≡ some r
        → unfinished r (now (log_of (call ∷ h))) r.copies ≡ r.fields.repeat
    unfolding time.renewed
    sent_repeat_times r air =
        let same : time.renewed s (now (log_of h)) ≡ r = some-injective _ _ (sym renewed_exact ∙ air) in
        let t : now (log_of (call ∷ h)) ≡ now (log_of h) = rw e in
        rw (t, ← same)
        (unfinished_is (fit_renewed fit) (time.renewed s (now (log_of h))).copies
        ∙ rw (finished_renewed s (now (log_of h)) (now (log_of h))) (omega arith))

    -- A total never falls.
    pub total_never_falls : (r : Transmission) → on_air p (log_of (call ∷ h)) ≡ some r → (s.copies ≤ r.copies) × (total s ≤ total r)
    unfolding time.renewed
    total_never_falls r air =
        let same : time.renewed s (now (log_of h)) ≡ r = some-injective _ _ (sym renewed_exact ∙ air) in
        rw (← same) (renewed_grows fit)

    -- with the copies that it has already it stays what it is
    unchanged : s.copies ≡ finished s (now (log_of h)) + s.fields.repeat → on_air p (log_of (call ∷ h)) ≡ some s
    unchanged n = renewed_exact ∙ ap (λ (m : ℕ). some (record { fields = s.fields; pairs = s.pairs; start = s.start; copies = m })) (sym n)

    -- Two renewals in one copy give one total: where no copy was finished since the one before, nothing changes.
    pub renewed_in_one_copy : (since earlier : List Deed) → log_of h ≡ since ++ (event (renewed p) ∷ earlier) → all (spares p) since ≡ true
        → finished s (now (log_of h)) ≡ finished s (now earlier) → on_air p (log_of (call ∷ h)) ≡ some s
    unfolding time.renewed
    renewed_in_one_copy since earlier splits quiet n = unchanged (go (last_of p earlier) had ∙ rw n)
      where
        had : map (λ r. time.renewed r (now earlier)) (last_of p earlier) ≡ some s
        had =
            let f = sym (untouched p since (event (renewed p) ∷ earlier) quiet) ∙ ap (last_of p) (sym splits) ∙ last in
            rw (eq-eqb p p refl) at f

        go : (o : Option Transmission) → map (λ r. time.renewed r (now earlier)) o ≡ some s
            → s.copies ≡ finished s (now earlier) + s.fields.repeat
        go none f = clash (cc)
        go (some r) f =
            let same : time.renewed r (now earlier) ≡ s = some-injective _ _ f in
            rw (← same) (ap (λ (m : ℕ). m + r.fields.repeat) (sym (finished_renewed r (now earlier) (now earlier))))

    -- A renewal in the first copy changes nothing either.
    pub renewed_in_first_copy : (since earlier : List Deed) (connection : ℕ)
        → log_of h ≡ since ++ (event (started p connection s.fields s.pairs) ∷ earlier) → all (spares p) since ≡ true
        → finished s (now (log_of h)) ≡ 0 → on_air p (log_of (call ∷ h)) ≡ some s
    unfolding time.started
    renewed_in_first_copy since earlier connection splits quiet n =
        let d = event (started p connection s.fields s.pairs) in
        let f = sym (untouched p since (d ∷ earlier) quiet) ∙ ap (last_of p) (sym splits) ∙ last in
        let same : time.started s.fields s.pairs (now earlier) ≡ s = some-injective _ _ (rw (eq-eqb p p refl) at f) in
        let copies : s.fields.repeat ≡ s.copies = ap (λ (r : Transmission). r.copies) same in
        unchanged (omega (arith, n, copies))
