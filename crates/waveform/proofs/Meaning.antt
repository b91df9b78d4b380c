-- What the notions of a transmission say.
use Prim.Native.Nat.{ℕ, zero, suc, ◌+◌, ◌-◌, ◌*◌, ◌%◌, ◌≤◌, ◌<◌}
use mathlib.Core.Path.{◌≡◌, refl, sym, ap, ◌∙◌}
use mathlib.Core.Bool.{Bool, true, false, not}
use mathlib.Core.List.{List, [], ◌∷◌, ◌++◌}
use native.Mathlib.Nat.{suc-mul, mul-le-mul_right, le-div_iff_mul-le}
use native.Mathlib.Omega.{arith}
use lib.Dec.{ltb, leb}
use lib.ListN.{length}
use borrow.Author.Tests.{ltb-true, ltb-false, lt-ltb, le-ltb, le-leb, leb-true, leb-false, eqb-true, eqb-false, eq-eqb, ne_eqb}
use Rattle.laws.proofs.Choice.{cond_case, by_test, not_both}
use Rattle.meaning.specs.Time.{in_ticks, first_micro, on_at, Transmission, waveform, lasts, total, done, complete, finish, carrier, finished, renewed}
use Rattle.pace.proofs.Exact.{first_micro_law}
use Rattle.waveform.specs.Meaning.{is_even, SameStart, copy_end, unfinished}
use Rattle.waveform.proofs.Copies.{waveform_ticks}
use Rattle.waveform.proofs.Turning.{turned, on_behind}
use Rattle.waveform.specs.Paced.{Fit, removed, lead, tail}
use Rattle.waveform.proofs.Paced.{tail_some, total_is, finished_is, fit_renewed}

-- ---- the carrier: on in an on count, its start included (y = 0) and its end not
even_next : (n : ℕ) → is_even (suc n) ≡ not (is_even n)
even_next n =
    by_test (is_even n)
    (λ e. ne_eqb (suc n % 2) 0 (λ h. omega (arith, eqb-true (n % 2) 0 e)) ∙ ap not (sym e))
    (λ e. eq-eqb (suc n % 2) 0 (omega (arith, eqb-false (n % 2) 0 e)) ∙ ap not (sym e))

turned_even : (n : ℕ) → (turned n true ≡ is_even n) × (turned n false ≡ not (is_even n))
turned_even zero = (refl, refl)
turned_even (suc n) =
    ((turned_even n).1 ∙ sym (even_next n), (turned_even n).0 ∙ twice (is_even n) ∙ ap not (sym (even_next n)))
  where
    twice : (b : Bool) → b ≡ not (not b)
    twice true = refl
    twice false = refl

pub carrier_count : (before : List ℕ) (x : ℕ) (behind : List ℕ) (y : ℕ) → y < in_ticks x
    → on_at true (before ++ x ∷ behind) (in_ticks (lasts before) + y) ≡ is_even (length before)
carrier_count before x behind y h =
    on_behind true before (x ∷ behind) y ∙ rw (lt-ltb y (in_ticks x) h) (turned_even (length before)).0

off_behind : (on : Bool) (counts : List ℕ) (place : ℕ) → in_ticks (lasts counts) ≤ place → on_at on counts place ≡ false
off_behind on [] place h = refl
off_behind on (x ∷ counts) place h =
    rw (le-ltb place (in_ticks x) (omega arith)) (off_behind (not on) counts (place - in_ticks x) (omega arith))

-- behind the end it is off
pub carrier_off : (counts : List ℕ) (place : ℕ) → in_ticks (lasts counts) ≤ place → on_at true counts place ≡ false
carrier_off counts place h = off_behind true counts place h

-- the same of a transmission: with y of its count x done at t, and once complete
pub carrier_within : (s : Transmission) (t : ℕ) (before : List ℕ) (x : ℕ) (behind : List ℕ) (y : ℕ) → y < in_ticks x
    → waveform s.fields s.pairs s.copies ≡ before ++ x ∷ behind → done s t ≡ in_ticks (lasts before) + y
    → carrier s t ≡ is_even (length before)
unfolding carrier
carrier_within s t before x behind y h e d = rw (e, d) (carrier_count before x behind y h)

pub carrier_complete : (s : Transmission) (t : ℕ) → complete s t ≡ true → carrier s t ≡ false
unfolding carrier complete total
carrier_complete s t e = carrier_off (waveform s.fields s.pairs s.copies) (done s t) (leb-true _ _ e)

-- ---- "complete at the first whole microsecond when the fraction reaches the total"
module _ (s : Transmission) (u : ℕ) (some : 1 ≤ s.fields.freq) (since : s.start ≤ u) where
  complete_finished : complete s u ≡ true → finish s ≤ u
  unfolding complete finish done
  complete_finished e =
      let l = (first_micro_law (total s) s.fields.freq some).1 (u - s.start) (leb-true _ _ e) in
      omega arith

  finished_complete : finish s ≤ u → complete s u ≡ true
  unfolding complete finish done
  finished_complete h =
      let m = first_micro (total s) s.fields.freq in
      let l = mul-le-mul_right {m = m} {n = u - s.start} s.fields.freq (omega arith) in
      le-leb (total s) (done s u) (omega (arith, (first_micro_law (total s) s.fields.freq some).0))

module _ {s : Transmission} {t : ℕ} (g : Fit s t) where
  some_freq : 1 ≤ s.fields.freq
  some_freq = omega (arith, g.within.freq_least)

  -- complete from that moment on, and only then
  pub finish_tells : (complete s t ≡ true → finish s ≤ t) × (finish s ≤ t → complete s t ≡ true)
  finish_tells = (complete_finished s t some_freq g.since, finished_complete s t some_freq g.since)

  start_finish : s.start ≤ finish s
  unfolding finish
  start_finish = omega arith

  -- it is the first such moment
  pub finish_first : complete s t ≡ false
      → (t < finish s) × (complete s (finish s) ≡ true) × ((u : ℕ) → s.start ≤ u → complete s u ≡ true → finish s ≤ u)
  finish_first runs = (
    by_test (ltb t (finish s)) (ltb-true t (finish s))
        (λ e. not_both (finish_tells.1 (ltb-false t (finish s) e)) runs),
    finished_complete s (finish s) some_freq start_finish (omega arith),
    λ u h. complete_finished s u some_freq h,
  )

  -- ---- the copies finished
  end_is_at : (n : ℕ) → copy_end s (suc n) ≡ in_ticks (lead s) + suc n * in_ticks (tail s)
  end_is_at n = waveform_ticks s.fields s.pairs g.within.offset_odd (suc n) (omega arith)

  -- they are those whose end is reached
  pub finished_copies : (n : ℕ) → (n ≤ finished s t → copy_end s n ≤ done s t) × (copy_end s n ≤ done s t → n ≤ finished s t)
  finished_copies zero = (λ h. omega arith, λ h. omega arith)
  finished_copies (suc n) =
      let x = done s t - in_ticks (lead s) in
      let by = le-div_iff_mul-le {k = in_ticks (tail s)} {x = suc n} {y = x} (omega (arith, tail_some g)) in (
        λ h. let k = by.0 (omega (arith, finished_is g)) in omega (arith, end_is_at n, suc-mul n (in_ticks (tail s)), tail_some g),
        λ h. let k = by.1 (omega (arith, end_is_at n)) in omega (arith, finished_is g),
      )

  -- "at an exact boundary the copy just ended is finished", and the next one is not
  pub finished_boundary : (n : ℕ) → done s t ≡ copy_end s n → finished s t ≡ n
  finished_boundary n e =
      by_test (ltb n (finished s t))
      (λ h.
      let k = (finished_copies (suc n)).0 (omega (arith, ltb-true)) in
      omega (arith, end_after n))
      (λ h. let k = (finished_copies n).1 (omega arith) in omega (arith, ltb-false))
    where
      end_after : (n : ℕ) → copy_end s n < copy_end s (suc n)
      end_after zero = omega (arith, end_is_at 0, tail_some g)
      end_after (suc n) = omega (arith, end_is_at n, end_is_at (suc n), suc-mul (suc n) (in_ticks (tail s)), tail_some g)

  -- so those not yet finished are the others
  pub unfinished_is : (n : ℕ) → unfinished s t n ≡ n - finished s t
  unfinished_is zero = omega arith
  unfinished_is (suc n) =
      cond_case (λ (m : ℕ). m + unfinished s t n ≡ suc n - finished s t) (leb (copy_end s (suc n)) (done s t)) 0 1
      (λ e. let k = (finished_copies (suc n)).1 (leb-true _ _ e) in omega (arith, unfinished_is n))
      (λ e.
      let high = leb-false (copy_end s (suc n)) (done s t) e in
      by_test (leb (suc n) (finished s t))
      (λ h. let k = (finished_copies (suc n)).0 (leb-true _ _ h) in omega arith)
      (λ h. omega (arith, unfinished_is n, leb-false (suc n) (finished s t) h)))

  -- at no moment are more than repeat copies left: what renewals added is finished
  pub repeat_left : s.copies ≤ finished s t + s.fields.repeat
  repeat_left =
      let x = done s t - in_ticks (lead s) in
      let k = (le-div_iff_mul-le {k = in_ticks (tail s)} {x = removed s} {y = x} (omega (arith, tail_some g))).1 g.gone in
      omega (arith, finished_is g)

-- ---- "A line may be renewed for days."
-- the total of a renewed transmission, which runs since its first start
pub renewed_total : (s : Transmission) (t : ℕ)
    → (total (renewed s t) ≡ copy_end s (finished s t + s.fields.repeat)) × SameStart s (renewed s t)
unfolding total renewed
renewed_total s t = (refl, record { fields = refl; pairs = refl; start = refl })

-- which copies are finished does not hang on how many there are to be
pub finished_renewed : (s : Transmission) (t u : ℕ) → finished (renewed s t) u ≡ finished s u
unfolding finished renewed done
finished_renewed s t u = refl

-- a renewal may add copies and takes none away
pub renewed_grows : {s : Transmission} {t : ℕ} → Fit s t → (s.copies ≤ (renewed s t).copies) × (total s ≤ total (renewed s t))
unfolding renewed
renewed_grows {s} {t} g =
    let more = mul-le-mul_right {m = s.copies} {n = finished s t + s.fields.repeat} (in_ticks (tail s)) (repeat_left g) in
    (repeat_left g, omega (arith, total_is g, total_is (fit_renewed g)))
