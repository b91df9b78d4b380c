-- Laws of the quick reader of spelled pairs: the loop over at most five digits behind a comma, and a pair of two such counts.
use Prim.Native.Nat.{ℕ, ◌+◌, ◌-◌, ◌*◌, ◌≤◌, ◌<◌}
use mathlib.Core.Path.{◌≡◌, ◌∙◌}
use mathlib.Core.List.{List}
use mathlib.Core.Bool.{true, false}
use native.Mathlib.Omega.{arith}
use borrow.Author.Tests.{lt-ltb, le-ltb, lt-leb, ltb-true, ltb-false, ne_eqb}
use lib.Dec.{ltb}
use Rattle.std.specs.Prelude.{Some, Ok}
use lib.ListN.{length, get_or}
use Rattle.laws.proofs.Choice.{by_test}
use Rattle.laws.proofs.Lists.{leading_stop}
use Rattle.words.specs.Digits.{is_digit}
use Rattle.text.specs.Number.{grown, number_at}
use Rattle.text.specs.declared.number.Number.TheVariants.{Value}
use Rattle.text.proofs.Reading.{Reading, reading_start, reading_more, reading_stop, reading_small, digit_range}
use Rattle.code.specs.declared.next.Next.TheVariants.{Spelled}
use Rattle.code.specs.declared.next.After.TheVariants.{Spelling}
use Rattle.words.specs.Pairs.{pair}
use Rattle.code.specs.Limits.{legal}
use Rattle.code.specs.Next.{is_letter, count_at, off_at, after_on, spelled_at, begun_at, next_pair}
use Rattle.decoder.specs.Quick.{NumberBehind, ShortAt}
use Rattle.code.proofs.Smallest.{legal_is}

-- the digits from a place to before i, worth v
pub record Shortly (s : List ℕ) (at v i : ℕ) : Type 0 where
  pub low : at ≤ i
  pub read : Reading s at v (i - at) i
  pub few : i ≤ at + 5
  pub digit : at < i → is_digit (get_or s at 0) ≡ true

pub shortly_start : (s : List ℕ) (at : ℕ) → Shortly s at 0 at
shortly_start s at =
    let e : at - at ≡ 0 = omega arith in
    record { low = omega arith; read = rw e (reading_start s at); few = omega arith; digit = λ h. absurd (omega arith) }

module _ {s : List ℕ} {at v i : ℕ} (r : Shortly s at v i) where
  pub shortly_small : v ≤ 1000000
  shortly_small = let h = reading_small r.read in omega arith

  pub shortly_more : i ≤ at + 4 → i < length s → is_digit (get_or s i 0) ≡ true → {w : ℕ} → w ≡ v * 10 + (get_or s i 0 - 48) → Shortly s at w (i + 1)
  unfolding grown
  shortly_more h k e {w} g =
      let n : i + 1 - at ≡ (i - at) + 1 = omega (arith, r.low) in
      let d : w ≡ grown v (i - at) (get_or s i 0) = rw (lt-ltb (i - at) 6 (omega arith)) g in
      record {
        low = omega (arith, r.low);
        read = rw n (reading_more r.read k e d);
        few = omega arith;
        digit = λ b. by_test (ltb at i) (λ t. r.digit (ltb-true at i t))
            (λ t.
            let q : at ≡ i = omega (arith, r.low, ltb-false at i t) in
            rw q e);
      }

  -- where there are digits and another byte ends them
  pub shortly_stop : (comma : ℕ) → comma + 1 ≡ at → comma < length s → get_or s comma 0 ≡ 44 → i < length s → is_digit (get_or s i 0) ≡ false
      → ShortAt s comma (Some (v, i))
  shortly_stop comma p b c k e h =
      let n : 1 ≤ i - at = by_test (ltb at i) (λ t. omega (arith, ltb-true at i t)) (λ t. absurd (none (omega (arith, r.low, ltb-false at i t)))) in
      let m : number_at s at ≡ Value v i =
      reading_stop r.read (leading_stop is_digit s i k e) ∙ rw (ne_eqb (i - at) 0 (omega arith), le-ltb 6 (i - at) (omega (arith, r.few))) in
      record { below = b; is_comma = c; digit = rw p (r.digit (omega arith)); number = rw p m }
    where
      none : i - at ≡ 0 → ⊥
      none z = omega (arith, rw z at (r.read.few (omega arith)))

-- ---- a comma and a pair of two such counts

digit_no_letter : (b : ℕ) → is_digit b ≡ true → is_letter b ≡ false
unfolding is_letter
digit_no_letter b e = let d = digit_range b e in rw (lt-ltb b 65 (omega (arith, d.1)))

module _ (freq : ℕ) (s : List ℕ) where
  count_is : (at v next : ℕ) → number_at s at ≡ Value v next → legal freq v ≡ true → count_at freq s at ≡ Some (v, next)
  unfolding count_at
  count_is at v next r e = rw (r, e)

  off_is : (on at w next : ℕ) → is_digit (get_or s at 0) ≡ true → number_at s at ≡ Value w next → legal freq w ≡ true
      → off_at freq on s at ≡ Ok (Spelled (pair on w) next)
  unfolding off_at
  off_is on at w next d r e = rw (digit_no_letter (get_or s at 0) d, count_is at w next r e)

  after_is : (on comma w next : ℕ) → NumberBehind s comma w next → legal freq w ≡ true → after_on freq on s comma ≡ Ok (Spelled (pair on w) next)
  unfolding after_on is_letter
  after_is on comma w next r e =
      rw (lt-leb (length s) comma r.below, r.is_comma) (off_is on (comma + 1) w next r.digit r.number e)

  -- two such numbers, both legal, are what stands there behind a spelled pair
  pub quick_is : (at v comma w next : ℕ) → ShortAt s at (Some (v, comma)) → legal freq v ≡ true → ShortAt s comma (Some (w, next)) → legal freq w ≡ true
      → (n m : ℕ) → n < 260 → next_pair freq n m Spelling s at ≡ Ok (Spelled (pair v w) next)
  unfolding next_pair is_letter begun_at spelled_at
  quick_is at v comma w next f e g k n m h =
      let first = f (omega (arith, (legal_is e).low)) in
      let second = g (omega (arith, (legal_is k).low)) in
      rw (
        lt-leb (length s) at first.below,
        first.is_comma,
        first.digit,
        lt-leb 260 n h,
        count_is (at + 1) v comma first.number e,
      ) (after_is v comma w next second k)
