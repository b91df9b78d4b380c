-- A pace is a transmission at a moment: started, renewed and passed alike.
use Prim.Native.Nat.{ℕ, suc, ◌+◌, ◌-◌, ◌*◌, ◌/◌, ◌≤◌, ◌<◌}
use mathlib.Core.Path.{◌≡◌, sym, ap, ap₂, ◌∙◌}
use mathlib.Core.Bool.{true, false, cond}
use mathlib.Core.List.{List}
use native.Mathlib.Nat.{add-mul, mul_assoc, suc-mul, zero-mul, zero-add, sub-zero}
use native.Mathlib.Nat.{mul-le-mul, mul-le-mul_right, div-mul-le_self, lt-div-mul-add}
use native.Mathlib.Omega.{arith}
use lib.Dec.{ltb, leb}
use lib.ListN.{length, take, drop}
use borrow.Author.Tests.{ltb-true, ltb-false, leb-true, leb-false, le-leb, lt-leb}
use Rattle.laws.proofs.Choice.{cond_case}
use Rattle.words.specs.declared.Pair.{Pair}
use Rattle.code.specs.Accepted.{Accepted}
use Rattle.words.specs.declared.Fields.{Fields}
use Rattle.command.specs.Fields.{FieldsWithin}
use Rattle.pace.specs.declared.Passed.TheVariants.{Running, Complete}
use Rattle.pace.specs.Pace as pace
use Rattle.meaning.specs.Time.{in_ticks, first_micro, Transmission, total, done, complete, finish, finished, started, renewed}
use Rattle.pace.specs.Pace.{periods_of, pace_of, periods, micros, end_of, passed}
use Rattle.pace.proofs.Exact.{moment_wait}
use Rattle.pace.proofs.Lasting.{tail_low}
use Rattle.waveform.specs.Paced.{removed, lead, tail, pace_at, Fit}
use Rattle.waveform.proofs.Copies.{waveform_ticks, further_lasts, first_lasts}
use Rattle.waveform.proofs.Places.{leb_both, none_gone, one_gone, less_left}

-- ---- the notions in ticks
pub done_later : (s : Transmission) (t n : ℕ) → s.start ≤ t → done s (t + n) ≡ done s t + n * s.fields.freq
unfolding done
done_later s t n h =
    let e : t + n - s.start ≡ (t - s.start) + n = omega arith in
    ap (λ (m : ℕ). m * s.fields.freq) e ∙ add-mul (t - s.start) n s.fields.freq

module _ {s : Transmission} {t : ℕ} (g : Fit s t) where
  pub tail_some : 1 ≤ tail s
  tail_some = tail_low g.accepted (s.fields.offset / 2) (omega (arith, g.offset))

  tail_pos : 0 < in_ticks (tail s)
  tail_pos = omega (arith, tail_some)

  pub total_is : total s ≡ in_ticks (lead s) + s.copies * in_ticks (tail s)
  unfolding total
  total_is =
      waveform_ticks s.fields s.pairs g.within.offset_odd s.copies (omega (arith, g.enough, g.within.repeat_least))

  -- behind the pairs before the offset, each copy finishes as the pairs from it on are done once more
  pub finished_is : finished s t ≡ (done s t - in_ticks (lead s)) / in_ticks (tail s)
  unfolding finished
  finished_is =
      rw (
        further_lasts s.fields s.pairs g.within.offset_odd,
        first_lasts (s.fields.offset / 2) s.pairs,
        add-mul (lead s) (tail s) 1000000,
      )
      (cond_case (λ (n : ℕ). n ≡ (done s t - in_ticks (lead s)) / in_ticks (tail s))
      (ltb (done s t) _) _ _
      (λ e. omega (arith, none_gone (in_ticks (lead s)) (in_ticks (tail s)) tail_pos (done s t) (omega (arith, ltb-true))))
      (λ e. omega (arith, one_gone (in_ticks (lead s)) (in_ticks (tail s)) tail_pos (done s t) (omega (arith, ltb-false)))))

  -- what renewals took off lies behind
  pub gone_low : removed s * in_ticks (tail s) ≤ done s t
  gone_low = omega (arith, g.gone)

  -- with that, the record's end is the total
  pub end_is : end_of (pace_at s t) + removed s * in_ticks (tail s) ≡ total s
  unfolding end_of pace_at
  end_is =
      let e : s.copies ≡ (s.copies - removed s) + removed s = omega arith in
      let c = ap (λ (m : ℕ). m * in_ticks (tail s)) e in
      omega (
        arith,
        total_is,
        add-mul (s.copies - removed s) (removed s) (in_ticks (tail s)),
        mul_assoc (s.copies - removed s) (tail s) 1000000,
      )

  pub fit_later : (n : ℕ) → Fit s (t + n)
  fit_later n =
      record {
        within = g.within;
        accepted = g.accepted;
        offset = g.offset;
        since = omega (arith, g.since);
        enough = g.enough;
        gone = omega (arith, g.gone, done_later s t n g.since);
      }

  pub complete_later : (n : ℕ) → complete s t ≡ true → complete s (t + n) ≡ true
  unfolding complete
  complete_later n e = le-leb (total s) (done s (t + n)) (omega (arith, done_later s t n g.since, leb-true (total s) (done s t) e))

-- ---- renewed
module _ {s : Transmission} {t : ℕ} (g : Fit s t) where
  -- a renewal takes the finished copies off the record
  removed_renewed : removed (renewed s t) ≡ finished s t
  unfolding renewed
  removed_renewed = omega arith

  pub fit_renewed : Fit (renewed s t) t
  unfolding renewed done
  fit_renewed =
      record {
        within = g.within;
        accepted = g.accepted;
        offset = g.offset;
        since = g.since;
        enough = omega arith;
        gone = rw (removed_renewed, finished_is g) (div-mul-le_self (done s t - in_ticks (lead s)) (in_ticks (tail s)));
      }

  pub pace_renewed : pace.renewed (pace_at s t) s.fields.repeat ≡ pace_at (renewed s t) t
  unfolding pace_at renewed done pace.renewed pace.finished
  pace_renewed = ap₂ (pace_of (lead s) (tail s)) copies at
    where
      copies : s.fields.repeat ≡ (renewed s t).copies - removed (renewed s t)
      copies = omega arith

      at : done s t - removed s * in_ticks (tail s) - pace.finished (pace_at s t) * in_ticks (tail s)
          ≡ done s t - removed (renewed s t) * in_ticks (tail s)
      at =
          rw (removed_renewed, finished_is g)
          (less_left (in_ticks (lead s)) (in_ticks (tail s)) (tail_pos g) (removed s) (done s t) g.gone)

  -- with a repeat of 1 or more the copy in hand is still to be finished
  pub renewed_runs : complete (renewed s t) t ≡ false
  unfolding complete renewed done
  renewed_runs =
      let b = finished s t in
      let low = mul-le-mul_right {m = suc b} {n = b + s.fields.repeat} (in_ticks (tail s)) (omega (arith, g.within.repeat_least)) in
      let e = ap (λ (n : ℕ). n * in_ticks (tail s)) (finished_is g) in
      let d = lt-div-mul-add {a = done s t - in_ticks (lead s)} {b = in_ticks (tail s)} (tail_pos g) in
      lt-leb (total (renewed s t)) (done s t) (omega (arith, total_is fit_renewed, suc-mul b (in_ticks (tail s))))

-- ---- started
module _ (f : Fields) (ps : List Pair) (t : ℕ) where
  done_none : done (started f ps t) t ≡ 0
  unfolding done started
  done_none = let e : t - t ≡ 0 = omega arith in rw (e, zero-mul)

  removed_none : removed (started f ps t) ≡ 0
  unfolding started
  removed_none = omega arith

  pub pace_started : pace_at (started f ps t) t
      ≡ pace.started (periods (periods_of (take (f.offset / 2) ps))) (periods (periods_of (drop (f.offset / 2) ps))) f.repeat
  unfolding pace_at started
  pace_started =
      let s = started f ps t in
      let copies : f.repeat - removed s ≡ f.repeat = omega (arith, removed_none) in
      let at : done s t - removed s * in_ticks (tail s) ≡ 0 = omega (arith, done_none) in
      ap₂ (pace_of (lead s) (tail s)) copies at

  module _ (w : FieldsWithin f) (a : Accepted f.freq ps) (h : f.offset < 2 * length ps) where
    pub fit_started : Fit (started f ps t) t
    unfolding started
    fit_started =
        record {
          within = w;
          accepted = a;
          offset = h;
          since = omega arith;
          enough = omega arith;
          gone = rw (removed_none, zero-mul) (omega arith);
        }

    pub started_runs : complete (started f ps t) t ≡ false
    unfolding complete started
    started_runs =
        let s = started f ps t in
        let low = mul-le-mul w.repeat_least (tail_some fit_started) in
        lt-leb (total s) (done s t)
        (omega (arith, done_none, total_is fit_started, mul_assoc f.repeat (tail s) 1000000))

-- ---- a wait
module _ {s : Transmission} {t : ℕ} (g : Fit s t) (runs : complete s t ≡ false) where
  pub under_way : done s t < total s
  unfolding complete
  under_way = leb-false (total s) (done s t) runs

  -- the moment is counted from the wait's start; a record of all the copies has come so far from 0
  moment_is : first_micro (total s - done s t) s.fields.freq ≡ finish s - t
  unfolding finish done end_of
  moment_is =
      let whole = pace_of (lead s) (tail s) s.copies 0 in
      let e : end_of whole ≡ total s = omega (arith, total_is g, mul_assoc s.copies (tail s) 1000000) in
      let freq = s.fields.freq in
      let m : first_micro (total s) freq ≡ (t - s.start) + first_micro (total s - done s t) freq =
      rw (e, sub-zero, zero-add) at
      (moment_wait whole freq (t - s.start) (omega (arith, g.within.freq_least)) (rw (e, zero-add) under_way)) in
      omega (arith, g.since)

  -- a wait reaches the record's end just when the transmission is complete after it
  passes : (n : ℕ) → leb (end_of (pace_at s t)) ((pace_at s t).at.0 + n * s.fields.freq) ≡ complete s (t + n)
  unfolding complete pace_at
  passes n =
      let k = removed s * in_ticks (tail s) in
      let e : (pace_at s t).at.0 + n * s.fields.freq + k ≡ done s (t + n) =
      omega (arith, done_later s t n g.since, gone_low g) in
      sym (leb_both (end_of (pace_at s t)) ((pace_at s t).at.0 + n * s.fields.freq) k) ∙ ap₂ leb (end_is g) e

  pub passed_is : (n : ℕ)
      → passed (pace_at s t) s.fields.freq n
      ≡ cond (complete s (t + n)) (Complete (micros (finish s - t))) (Running (pace_at s (t + n)))
  unfolding passed pace_at
  passed_is n =
      let freq = s.fields.freq in
      let left : end_of (pace_at s t) - (pace_at s t).at.0 ≡ total s - done s t = omega (arith, end_is g, gone_low g) in
      let at : (pace_at s t).at.0 + n * freq ≡ done s (t + n) - removed s * in_ticks (tail s) =
      omega (arith, done_later s t n g.since, gone_low g) in
      rw (passes n, left, moment_is, at)
