-- The longest code that a line can start is complete within 35 waits of the longest kind, and its one notice has come by then.
use Prim.Native.Nat.{ℕ, zero, suc, ◌+◌, ◌-◌, ◌*◌, ◌≤◌}
use mathlib.Core.Path.{◌≡◌, refl, ap, ◌∙◌}
use mathlib.Core.Bool.{true, false}
use mathlib.Core.List.{List, [], ◌∷◌, ◌++◌}
use mathlib.Core.Option.{some}
use native.Mathlib.Nat.{suc-mul, sub_self, zero-mul, mul-le-mul, mul-le-mul_left}
use native.Mathlib.Omega.{arith}
use borrow.Author.Tests.{eq-eqb, le-leb, lt-leb}
use lib.ListN.{length, drop}
use Rattle.laws.specs.Checks.{between}
use Rattle.laws.specs.Lists.{all, times}
use Rattle.laws.proofs.Choice.{clash, and_left, and_right}
use Rattle.words.specs.declared.Pair.{Pair}
use Rattle.words.specs.declared.Fields.{Fields}
use Rattle.words.specs.Pairs.{counts_of}
use Rattle.words.specs.Places.{connectors}
use Rattle.meaning.specs.Time.{lasts, in_ticks, further_copy, waveform, total, done, complete, finish}
use Rattle.meaning.specs.Time as time
use Rattle.meaning.specs.Log.{Deed, passed, event, started, now, on_air}
use Rattle.meaning.specs.Table.{Call, deeds_of, judge, log_of}
use Rattle.theorems.specs.Deeds.{Port, Limits, count_fits, pair_fits, Did, nothing, changes, reads, lights, switches, starts, renews, halts, leaves, passes}
use Rattle.theorems.specs.Notices.{notice_of, notices, logged_all, LeftAlone, longest_waits}
use Rattle.theorems.proofs.Deeds.{between_is, did}
use Rattle.theorems.proofs.Times.{micro_first}
use Rattle.theorems.proofs.Completing.{completes_exactly_once}

-- ---- how long counts last
lasts_append : (a b : List ℕ) → lasts (a ++ b) ≡ lasts a + lasts b
lasts_append [] b = omega arith
lasts_append (x ∷ a) b = omega (arith, lasts_append a b)

lasts_drop : (k : ℕ) (l : List ℕ) → lasts (drop k l) ≤ lasts l
lasts_drop zero l = omega arith
lasts_drop (suc k) [] = omega arith
lasts_drop (suc k) (x ∷ l) = omega (arith, lasts_drop k l)

lasts_times : (n : ℕ) (l : List ℕ) → lasts (times n l) ≡ n * lasts l
lasts_times zero l = omega arith
lasts_times (suc n) l = omega (arith, lasts_append l (times n l), lasts_times n l, suc-mul n (lasts l))

module _ (freq : ℕ) where
  pair_lasts : (x : Pair) → pair_fits freq x ≡ true → (4 ≤ x.on) × (x.on ≤ 50000) × (x.off ≤ 50000)
  pair_lasts x e =
      let a = and_left (count_fits freq x.on) (count_fits freq x.off) e in
      let b = and_right (count_fits freq x.on) (count_fits freq x.off) e in
      let on = between_is 4 50000 x.on (and_left (between 4 50000 x.on) _ a) in
      let off = between_is 4 50000 x.off (and_left (between 4 50000 x.off) _ b) in
      (on.0, on.1, off.1)

  counts_most : (ps : List Pair) → all (pair_fits freq) ps ≡ true → lasts (counts_of ps) ≤ 100000 * length ps
  counts_most [] e = omega arith
  counts_most (x ∷ ps) e =
      let h = pair_lasts x (and_left (pair_fits freq x) (all (pair_fits freq) ps) e) in
      omega (arith, h.1, h.2, counts_most ps (and_right (pair_fits freq x) (all (pair_fits freq) ps) e))

  counts_some : (ps : List Pair) → all (pair_fits freq) ps ≡ true → 1 ≤ length ps → 4 ≤ lasts (counts_of ps)
  counts_some [] e h = absurd (omega arith)
  counts_some (x ∷ ps) e h = omega (arith, (pair_lasts x (and_left (pair_fits freq x) (all (pair_fits freq) ps) e)).0)

-- so many copies last at least one, and at most so many times the first
waveform_lasts : (f : Fields) (ps : List Pair) (n : ℕ) → 1 ≤ n
    → (lasts (counts_of ps) ≤ lasts (waveform f ps n)) × (lasts (waveform f ps n) ≤ n * lasts (counts_of ps))
waveform_lasts f ps zero h = absurd (omega arith)
waveform_lasts f ps (suc n) h =
    let e = lasts_append (counts_of ps) (times n (further_copy f ps)) in
    let k = lasts_times n (further_copy f ps) in
    let d : n * lasts (further_copy f ps) ≤ n * lasts (counts_of ps) = mul-le-mul_left n (lasts_drop (f.offset - 1) (counts_of ps)) in
    (omega arith, omega (arith, suc-mul n (lasts (counts_of ps))))

module _ (f : Fields) (ps : List Pair) (t : ℕ) (limits : Limits f ps) where
  periods_most : lasts (waveform f ps f.repeat) ≤ 520000000
  periods_most =
      let c : lasts (counts_of ps) ≤ 26000000 = omega (arith, counts_most f.freq ps limits.pairs_fit, limits.pairs_most) in
      let w = (waveform_lasts f ps f.repeat limits.repeat_least).1 in
      omega (arith, mul-le-mul limits.repeat_most c)

  -- "repeat .. above 20 is taken as 20", 260 pairs of two counts of 50000, and 15000 Hz: the longest ends before 35,000 seconds
  pub finish_within_35 : finish (time.started f ps t) ≤ t + 35 * 1000000000
  unfolding finish total time.started
  finish_within_35 =
      let m : in_ticks (lasts (waveform f ps f.repeat)) ≤ 35000000000 * f.freq =
      omega (arith, periods_most, limits.freq_least) in
      omega (arith, micro_first (in_ticks (lasts (waveform f ps f.repeat))) f.freq (omega (arith, limits.freq_least)) 35000000000 m)

  -- and none is complete at once
  starts_incomplete : complete (time.started f ps t) t ≡ false
  unfolding complete done total time.started
  starts_incomplete =
      let w = (waveform_lasts f ps f.repeat limits.repeat_least).0 in
      let c = counts_some f.freq ps limits.pairs_fit (omega (arith, limits.offset_within_law)) in
      lt-leb (in_ticks (lasts (waveform f ps f.repeat))) ((t - t) * f.freq) (rw (sub_self t, zero-mul f.freq) (omega arith))

-- ---- the waits
waits_alone : (p k : ℕ) (log : List Deed) → LeftAlone p log (longest_waits k)
waits_alone p zero log = tt
waits_alone p (suc k) log = (refl, waits_alone p k (passed 1000000000 ∷ log))

waits_last : (k : ℕ) (log : List Deed) → now (logged_all log (longest_waits k)) ≡ now log + k * 1000000000
waits_last zero log = omega arith
waits_last (suc k) log = omega (arith, waits_last k (passed 1000000000 ∷ log))

-- what a call started was on a port and within the limits
started_within : {log : List Deed} {call : Call} {ds : List Deed} (p c : ℕ) (f : Fields) (ps : List Pair) → Did log call ds
    → ds ≡ event (started p c f ps) ∷ [] → Port connectors p × Limits f ps
started_within p c f ps nothing e = clash (cc)
started_within p c f ps (changes r b word _ _ _ _ _) e = clash (cc)
started_within p c f ps (reads r v _ _ _ _) e = clash (cc)
started_within p c f ps (lights r b target ramp _ _ _ _ _ _) e = clash (cc)
started_within p c f ps (switches r b v _ _ _) e = clash (cc)
started_within p c f ps (starts r b g qs _ port _ limits _) e =
    let a : r ≡ p = cc in
    let x : g ≡ f = cc in
    let y : qs ≡ ps = cc in
    (rw (← a) port, rw (← x, ← y) limits)
started_within p c f ps (renews r b s _ _ _ _ _) e = clash (cc)
started_within p c f ps (halts r b _ _ _) e = clash (cc)
started_within p c f ps (leaves b _ _) e = clash (cc)
started_within p c f ps (passes n _ _) e = clash (cc)

-- after every history: what a call has started on a connector gives exactly one notice, its own, within 35 of the longest waits
pub within_35 : (h : List Call) (call : Call) (p c : ℕ) (f : Fields) (ps : List Pair)
    → deeds_of (judge (log_of h) call) ≡ event (started p c f ps) ∷ []
    → notices p (log_of (call ∷ h)) (longest_waits 35) ≡ notice_of p (time.started f ps (now (log_of h))) ∷ []
unfolding on_air
within_35 h call p c f ps e =
    let w = started_within p c f ps (did (log_of h) call) e in
    let t = now (log_of h) in
    let s = time.started f ps t in
    let l : log_of (call ∷ h) ≡ event (started p c f ps) ∷ log_of h = ap (λ (ds : List Deed). ds ++ log_of h) e in
    let air : on_air p (log_of (call ∷ h)) ≡ some s = rw l (rw (eq-eqb p p refl, starts_incomplete f ps t w.1)) in
    let n : now (logged_all (log_of (call ∷ h)) (longest_waits 35)) ≡ t + 35 * 1000000000 = waits_last 35 (log_of (call ∷ h)) ∙ rw l in
    completes_exactly_once (call ∷ h) p s (longest_waits 35) w.0 air (waits_alone p 35 (log_of (call ∷ h)))
    ∙ rw (le-leb (finish s) (now (logged_all (log_of (call ∷ h)) (longest_waits 35))) (rw n (finish_within_35 f ps t w.1)))
