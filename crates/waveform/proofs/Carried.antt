-- The carrier that a record shows is the transmission's.
use Prim.Native.Nat.{ℕ, zero, suc, ◌+◌, ◌-◌, ◌*◌, ◌/◌, ◌%◌, ◌≤◌, ◌<◌}
use mathlib.Core.Path.{◌≡◌, refl, sym, ap, ◌∙◌}
use mathlib.Core.Bool.{true, false}
use mathlib.Core.List.{List, [], ◌∷◌, ◌++◌}
use native.Mathlib.Nat.{add-mul-mod_self_right, div-add-mod', div-lt_iff_lt-mul, mod-lt}
use native.Mathlib.Omega.{arith}
use lib.Dec.{ltb}
use lib.ListN.{take, drop, take-append-drop}
use borrow.Author.Tests.{ltb-true, ltb-false}
use Rattle.laws.proofs.Choice.{cond_case}
use Rattle.words.specs.declared.Pair.{Pair}
use Rattle.words.specs.declared.Fields.{Fields}
use Rattle.words.specs.Pairs.{counts_of}
use Rattle.meaning.specs.Time.{in_ticks, on_at, Transmission, waveform, further_copy, done, complete, carrier}
use Rattle.pace.specs.Pace.{periods_of, place_of}
use Rattle.pace.proofs.Lasting.{periods_split}
use Rattle.laws.specs.Lists.{times}
use Rattle.waveform.proofs.Copies.{first_lasts, further_is}
use Rattle.waveform.proofs.Turning.{on_before, on_pairs, on_times}
use Rattle.waveform.specs.Paced.{Fit, removed, lead, tail, pace_at}
use Rattle.waveform.proofs.Paced.{tail_some, total_is, under_way}

counts_append : (a b : List Pair) → counts_of (a ++ b) ≡ counts_of a ++ counts_of b
counts_append [] b = refl
counts_append (p ∷ a) b = rw (counts_append a b)

module _ (f : Fields) (ps : List Pair) (odd : f.offset % 2 ≡ 1) where
  -- what the pairs before the offset last, and those from it on
  abbrev before : ℕ
  before = in_ticks (periods_of (take (f.offset / 2) ps))

  abbrev behind : ℕ
  behind = in_ticks (periods_of (drop (f.offset / 2) ps))

  in_first : (n x : ℕ) → 1 ≤ n → x < before + behind → on_at true (waveform f ps n) x ≡ on_at true (counts_of ps) x
  in_first zero x l h = absurd (omega arith)
  in_first (suc n) x l h =
      on_before true (counts_of ps) (times n (further_copy f ps)) x (omega (arith, first_lasts (f.offset / 2) ps))

  in_pairs : (y : ℕ) → on_at true (counts_of ps) (before + y) ≡ on_at true (counts_of (drop (f.offset / 2) ps)) y
  in_pairs y =
      ap (λ (l : List ℕ). on_at true l (before + y))
      (ap counts_of (sym (take-append-drop (f.offset / 2) ps)) ∙ counts_append (take (f.offset / 2) ps) (drop (f.offset / 2) ps))
      ∙ on_pairs (take (f.offset / 2) ps) (counts_of (drop (f.offset / 2) ps)) y

  -- in every copy from the offset on the carrier is that of the pairs
  in_copy : (n q y : ℕ) → q < n → y < behind
      → on_at true (waveform f ps n) (before + (q * behind + y)) ≡ on_at true (counts_of ps) (before + y)
  in_copy zero q y l h = absurd (omega arith)
  in_copy (suc n) zero y l h =
      ap (on_at true (waveform f ps (suc n))) (omega arith) ∙ in_first (suc n) (before + y) (omega arith) (omega arith)
  in_copy (suc n) (suc q) y l h =
      let all : before + (suc q * behind + y) ≡ in_ticks (periods_of ps) + (q * behind + y) =
      omega (arith, periods_split (f.offset / 2) ps) in
      ap (on_at true (waveform f ps (suc n))) all
      ∙ on_pairs ps (times n (further_copy f ps)) (q * behind + y)
      ∙ ap (λ (l : List ℕ). on_at true (times n l) (q * behind + y)) (further_is f ps odd)
      ∙ on_times n q (drop (f.offset / 2) ps) y (omega arith) h
      ∙ sym (in_pairs y)

module _ {s : Transmission} {t : ℕ} (g : Fit s t) (runs : complete s t ≡ false) where
  -- before the offset, and behind it
  carrier_first : done s t < in_ticks (lead s) → carrier s t ≡ on_at true (counts_of s.pairs) (done s t)
  unfolding carrier
  carrier_first h =
      in_first s.fields s.pairs g.within.offset_odd s.copies (done s t)
      (omega (arith, g.enough, g.within.repeat_least)) (omega arith)

  carrier_later : in_ticks (lead s) ≤ done s t
      → carrier s t ≡ on_at true (counts_of s.pairs) (in_ticks (lead s) + (done s t - in_ticks (lead s)) % in_ticks (tail s))
  unfolding carrier
  carrier_later h =
      let x = done s t - in_ticks (lead s) in
      let pos : 0 < in_ticks (tail s) = omega (arith, tail_some g) in
      let q : x / in_ticks (tail s) < s.copies =
      (div-lt_iff_lt-mul pos).1 (omega (arith, total_is g, under_way g runs)) in
      let e : done s t ≡ in_ticks (lead s) + (x / in_ticks (tail s) * in_ticks (tail s) + x % in_ticks (tail s)) =
      omega (arith, div-add-mod' x (in_ticks (tail s))) in
      ap (on_at true (waveform s.fields s.pairs s.copies)) e
      ∙ in_copy s.fields s.pairs g.within.offset_odd s.copies (x / in_ticks (tail s)) (x % in_ticks (tail s)) q (mod-lt x pos)

  pub carrier_paced : on_at true (counts_of s.pairs) (place_of (pace_at s t)) ≡ carrier s t
  unfolding place_of pace_at
  carrier_paced =
      let k = removed s * in_ticks (tail s) in
      let at = done s t - k in
      cond_case (λ (x : ℕ). on_at true (counts_of s.pairs) x ≡ carrier s t) (ltb at (in_ticks (lead s))) _ _
      (λ e.
      let l : at < in_ticks (lead s) = ltb-true _ _ e in
      let d : at ≡ done s t = omega (arith, g.gone) in
      ap (on_at true (counts_of s.pairs)) d ∙ sym (carrier_first (omega arith)))
      (λ e.
      let l : in_ticks (lead s) ≤ at = ltb-false _ _ e in
      let d : done s t - in_ticks (lead s) ≡ at - in_ticks (lead s) + k = omega arith in
      let m : (at - in_ticks (lead s)) % in_ticks (tail s) ≡ (done s t - in_ticks (lead s)) % in_ticks (tail s) =
      sym (ap (λ (n : ℕ). n % in_ticks (tail s)) d ∙ add-mul-mod_self_right (at - in_ticks (lead s)) (removed s) (in_ticks (tail s))) in
      rw m (sym (carrier_later (omega arith))))
