-- The moment of completion is the first at which the ticks done reach the total; every transmission that a history has was started in time.
use Prim.Native.Nat.{ℕ, ◌+◌, ◌-◌, ◌*◌, ◌≤◌}
use mathlib.Core.Path.{◌≡◌, refl, sym, ◌∙◌}
use mathlib.Core.Bool.{false}
use mathlib.Core.List.{List, [], ◌∷◌, ◌++◌}
use mathlib.Core.Option.{Option, none, some, map}
use native.Mathlib.Nat.{add-mul, div-lt_iff_lt-mul, lt-div-mul-add, mul-le-mul_right}
use native.Mathlib.Omega.{arith}
use borrow.Author.Tests.{le-leb, lt-leb, leb-true, leb-false}
use lib.Dec.{leb, eqb}
use Rattle.laws.proofs.Choice.{clash, cond_case, by_test, not_both}
use Rattle.meaning.specs.Time.{Transmission, total, done, complete, first_micro, finish}
use Rattle.meaning.specs.Time as time
use Rattle.meaning.specs.Log.{Deed, now, last_of, on_air, until}
use Rattle.meaning.specs.Table.{Call, log_of}
use Rattle.theorems.specs.Deeds.{Limits, Did, nothing, changes, reads, lights, switches, starts, renews, halts, leaves, passes}
use Rattle.theorems.proofs.Deeds.{did}

-- ---- the first whole microsecond
module _ (ticks freq : ℕ) (f : 1 ≤ freq) where
  -- by then so many ticks have passed
  pub micro_reached : ticks ≤ first_micro ticks freq * freq
  unfolding first_micro
  micro_reached = omega (arith, lt-div-mul-add {a = ticks + (freq - 1)} {b = freq} f)

  -- and at no earlier whole microsecond
  pub micro_first : (m : ℕ) → ticks ≤ m * freq → first_micro ticks freq ≤ m
  unfolding first_micro
  micro_first m h =
      let k = (div-lt_iff_lt-mul {k = freq} {x = ticks + (freq - 1)} {y = m + 1} f).1 (omega (arith, add-mul m 1 freq)) in
      omega arith

-- "After t microseconds a transmission has done t × freq / 1,000,000 periods": so many ticks, millionths of a period
pub done_after : (s : Transmission) (t : ℕ) → done s (s.start + t) ≡ t * s.fields.freq
unfolding done
done_after s t = let e : s.start + t - s.start ≡ t = omega arith in rw e

-- ---- a transmission that was started by the moment t
pub record Begun (s : Transmission) (t : ℕ) : Type 0 where
  pub by_then : s.start ≤ t
  pub limits : Limits s.fields s.pairs

pub begun_later : {s : Transmission} {t u : ℕ} → Begun s t → t ≤ u → Begun s u
begun_later b h = record { by_then = omega (arith, b.by_then); limits = b.limits }

-- "complete at the first whole microsecond when the fraction reaches the total": at `finish` and ever after, and never before
pub complete_is : {s : Transmission} {t : ℕ} → Begun s t → complete s t ≡ leb (finish s) t
unfolding complete finish done
complete_is {s} {t} b =
    by_test (leb (total s) ((t - s.start) * s.fields.freq))
    (λ e. e ∙ sym (le-leb _ t (omega (arith, b.by_then, first (leb-true _ _ e)))))
    (λ e. e ∙ sym (lt-leb _ t (by_test (leb (s.start + first_micro (total s) s.fields.freq) t)
    (λ l. not_both (le-leb _ _ (reached (leb-true _ t l))) e) (λ l. leb-false _ t l))))
  where
    high : 1 ≤ s.fields.freq
    high = omega (arith, b.limits.freq_least)

    first : total s ≤ (t - s.start) * s.fields.freq → first_micro (total s) s.fields.freq ≤ t - s.start
    first h = micro_first (total s) s.fields.freq high (t - s.start) h

    reached : s.start + first_micro (total s) s.fields.freq ≤ t → total s ≤ (t - s.start) * s.fields.freq
    reached h =
        let m = first_micro (total s) s.fields.freq in
        let before = micro_reached (total s) s.fields.freq high in
        omega (arith, mul-le-mul_right {m = m} {n = t - s.start} s.fields.freq (omega arith))

-- ---- over a history
abbrev pub BegunBy : ℕ → Option Transmission → Type 0
BegunBy t none = Unit
BegunBy t (some s) = Begun s t

later_begun : {t u : ℕ} (o : Option Transmission) → t ≤ u → BegunBy t o → BegunBy u o
later_begun none h b = tt
later_begun (some s) h b = begun_later b h

renewed_begun : (t : ℕ) (o : Option Transmission) → BegunBy t o → BegunBy t (map (λ s. time.renewed s t) o)
unfolding time.renewed
renewed_begun t none b = tt
renewed_begun t (some s) b = record { by_then = b.by_then; limits = b.limits }

did_begun : (p : ℕ) (log : List Deed) (call : Call) (ds : List Deed) → Did log call ds → BegunBy (now log) (last_of p log)
    → BegunBy (now (ds ++ log)) (last_of p (ds ++ log))
unfolding time.started
did_begun p log call ds nothing b = b
did_begun p log call ds (changes r c word _ _ _ _ _) b = b
did_begun p log call ds (reads r v _ _ _ _) b = b
did_begun p log call ds (lights r c target ramp _ _ _ _ _ _) b = b
did_begun p log call ds (switches r c v _ _ _) b = b
did_begun p log call ds (starts r c f ps _ _ _ limits _) b =
    cond_case (BegunBy (now log)) (eqb r p) (some (time.started f ps (now log))) (last_of p log)
    (λ _. record { by_then = omega arith; limits = limits }) (λ _. b)
did_begun p log call ds (renews r c s _ _ _ _ _) b =
    cond_case (BegunBy (now log)) (eqb r p) (map (λ s. time.renewed s (now log)) (last_of p log)) (last_of p log)
    (λ _. renewed_begun (now log) (last_of p log) b) (λ _. b)
did_begun p log call ds (halts r c _ _ _) b = cond_case (BegunBy (now log)) (eqb r p) none (last_of p log) (λ _. tt) (λ _. b)
did_begun p log call ds (leaves c _ _) b = b
did_begun p log call ds (passes n _ _) b = later_begun (last_of p log) (omega arith) b

-- what a connector had last was started by now, within the limits
pub last_begun : (h : List Call) (p : ℕ) → BegunBy (now (log_of h)) (last_of p (log_of h))
last_begun [] p = tt
last_begun (call ∷ h) p = did_begun p (log_of h) call _ (did (log_of h) call) (last_begun h p)

-- what is on air is what it had last, and not complete
pub on_air_is : (p : ℕ) (log : List Deed) (s : Transmission) → on_air p log ≡ some s → (last_of p log ≡ some s) × (complete s (now log) ≡ false)
unfolding on_air
on_air_is p log s e = go (last_of p log) e
  where
    go : (o : Option Transmission) → until (now log) o ≡ some s → (o ≡ some s) × (complete s (now log) ≡ false)
    go none e = clash (cc)
    go (some r) e =
        by_test (complete r (now log))
        (λ t. let f : none ≡ some s = rw t at e in clash (cc))
        (λ t. let f : some r ≡ some s = rw t at e in let g : r ≡ s = cc in (f, rw (← g) t))

-- what is off the air stays so as time passes
pub none_later : (t n : ℕ) (o : Option Transmission) → BegunBy t o → until t o ≡ none → until (t + n) o ≡ none
none_later t n none b e = refl
none_later t n (some s) b e =
    by_test (complete s t)
    (λ c.
    let h = leb-true (finish s) t (sym (complete_is b) ∙ c) in
    rw (complete_is {t = t + n} (begun_later b (omega arith)), le-leb (finish s) (t + n) (omega arith)))
    (λ c. let f : some s ≡ none = rw c at e in cc)
