-- Laws of numbers: the loop that reads one.
use Prim.Native.Nat.{ℕ, ◌+◌, ◌^◌, ◌≤◌, ◌<◌}
use mathlib.Core.Path.{◌≡◌, refl, sym, ap, ◌∙◌}
use mathlib.Core.List.{List, [], ◌∷◌}
use mathlib.Core.Bool.{Bool, true, false, cond}
use native.Mathlib.Nat.{pow-succ', pow-le-pow_right}
use native.Mathlib.Numerals.{add-one}
use native.Mathlib.Omega.{arith}
use borrow.Author.Tests.{ltb-false, leb-true, leb-false, ne_eqb, lt-ltb, le-ltb}
use lib.Dec.{ltb, leb}
use lib.ListN.{length, drop, get_or}
use Rattle.laws.proofs.Choice.{by_test, not_both}
use Rattle.laws.proofs.Lists.{leading_more}
use Rattle.words.specs.Digits.{is_digit, worth}
use Rattle.text.specs.declared.number.Number.TheVariants.{Value}
use Rattle.text.specs.Number.{run, number_of, number_at, grown, found_number}

pub digit_range : (b : ℕ) → is_digit b ≡ true → (48 ≤ b) × (b ≤ 57)
digit_range b h = go (ltb b 48) refl h
  where
    go : (t : Bool) → ltb b 48 ≡ t → cond t false (leb b 57) ≡ true → (48 ≤ b) × (b ≤ 57)
    go true e g = not_both g refl
    go false e g = (ltb-false b 48 e, leb-true b 57 g)

-- what is known after n digits worth v, at i: where the run is not too long, what is left gives the same number
pub record Reading (s : List ℕ) (at v n i : ℕ) : Type 0 where
  pub place : i ≡ at + n
  pub few : n ≤ 6 → v < 10 ^ n
  pub many : 6 < n → v < 1000000
  pub count : n + length (run (drop i s)) ≡ length (run (drop at s))
  pub same : length (run (drop at s)) ≤ 6 → worth v (run (drop i s)) ≡ worth 0 (run (drop at s))

pub reading_start : (s : List ℕ) (at : ℕ) → Reading s at 0 0 at
reading_start s at =
    record { place = omega arith; few = λ h. omega arith; many = λ h. omega arith; count = omega arith; same = λ h. refl }

module _ {s : List ℕ} {at v n i : ℕ} (r : Reading s at v n i) where
  pub reading_small : v < 1000000
  reading_small =
      by_test (leb n 6)
      (λ e. let h = leb-true n 6 e in omega (arith, r.few h, pow-le-pow_right {n = 10} (omega arith) h))
      (λ e. r.many (leb-false n 6 e))

  pub reading_more : i < length s → is_digit (get_or s i 0) ≡ true → {w : ℕ} → w ≡ grown v n (get_or s i 0) → Reading s at w (n + 1) (i + 1)
  unfolding grown
  reading_more h e {w} g =
      let d = digit_range (get_or s i 0) e in
      let m = leading_more is_digit s i h e in
      let l = ap length m in
      record {
        place = omega (arith, r.place);
        few = λ k. rw (g, lt-ltb n 6 (omega arith), add-one, pow-succ') (omega (arith, r.few (omega arith)));
        many = λ k. rw (g, le-ltb n 6 (omega arith)) reading_small;
        count = omega (arith, r.count, l);
        same = λ k. rw (g, lt-ltb n 6 (omega (arith, r.count, l))) (sym (ap (worth v) m) ∙ r.same k);
      }

  pub reading_stop : run (drop i s) ≡ [] → number_at s at ≡ found_number v n i
  unfolding number_at number_of
  reading_stop e =
      let l : length (run (drop at s)) ≡ n = omega (arith, r.count, ap length e) in
      by_test (ltb 6 n)
      (λ t. rw (l, t, ← r.place))
      (λ t.
      let w : worth 0 (run (drop at s)) ≡ v = sym (r.same (omega (arith, ltb-false 6 n t))) ∙ ap (worth v) e in
      rw (l, w, ← r.place))

-- "leading zeros count for nothing": a zero in front of one to five digits changes nothing, value or end
pub zero_in_front : (s : List ℕ) (at : ℕ) → at < length s → get_or s at 0 ≡ 48 → let ds = run (drop (at + 1) s) in
    1 ≤ length ds → length ds ≤ 5 → number_at s at ≡ number_at s (at + 1)
unfolding number_at number_of
zero_in_front s at below zero some few =
    let ds = run (drop (at + 1) s) in
    let e : run (drop at s) ≡ 48 ∷ ds = leading_more is_digit s at below (rw zero) ∙ ap (λ (b : ℕ). b ∷ ds) zero in
    rw (
      e,
      ne_eqb (length (48 ∷ ds)) 0 (omega arith),
      le-ltb 6 (length (48 ∷ ds)) (omega arith),
      ne_eqb (length ds) 0 (omega arith),
      le-ltb 6 (length ds) (omega arith),
    ) (ap (Value (worth 0 ds)) (omega arith))
