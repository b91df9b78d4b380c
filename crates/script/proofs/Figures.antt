-- Laws of a word that is a number: the loop that reads its digits.
use Prim.Native.Nat.{ℕ, ◌+◌, ◌-◌, ◌*◌, ◌^◌, ◌≤◌, ◌<◌}
use mathlib.Core.Path.{◌≡◌, refl, sym, ap, ◌∙◌}
use mathlib.Core.Bool.{true, false}
use mathlib.Core.List.{List}
use native.Mathlib.Nat.{pow-succ', pow-le-pow_right}
use native.Mathlib.Numerals.{add-one}
use native.Mathlib.Omega.{arith}
use borrow.Author.Tests.{le-leb, lt-leb}
use lib.ListN.{length, drop, get_or, drop_of_length-le}
use Rattle.laws.specs.Checks.{between}
use Rattle.laws.specs.Lists.{all}
use Rattle.laws.proofs.Choice.{by_test, clash, and_true, and_false, between_true}
use Rattle.laws.proofs.Lists.{drop_next, all_more, all_stop, all_done}
use Rattle.words.specs.Digits.{is_digit, worth}
use Rattle.text.proofs.Reading.{digit_range}
use Rattle.std.proofs.Common.{Some, None}
use Rattle.script.specs.Input.{is_number, figures_of}

-- no digits, or too many
pub too_few : (w : List ℕ) → length w ≡ 0 → is_number w ≡ false
unfolding is_number
too_few w e = rw e

pub too_many : (w : List ℕ) → 10 < length w → is_number w ≡ false
unfolding is_number
too_many w h = rw (le-leb 1 (length w) (omega arith), lt-leb (length w) 10 h)

-- what the word was, by what was read of it
pub bad_word : (w : List ℕ) → figures_of w ≡ None → is_number w ≡ false
bad_word w e = by_test (is_number w) (λ t. let f : Some (worth 0 w) ≡ None = rw t at e in clash (cc)) (λ t. t)

pub good_word : (w : List ℕ) (v : ℕ) → figures_of w ≡ Some v → (is_number w ≡ true) × (worth 0 w ≡ v)
good_word w v e =
    by_test (is_number w)
    (λ t. let f : Some (worth 0 w) ≡ Some v = rw t at e in (t, cc))
    (λ t. let f : None ≡ Some v = rw t at e in clash (cc))

-- what is known after i digits worth v: what is left gives the same number
pub record Figured (w : List ℕ) (v i : ℕ) : Type 0 where
  pub within : i ≤ length w
  pub small : v < 10 ^ i
  pub same : worth v (drop i w) ≡ worth 0 w
  pub digits : all is_digit (drop i w) ≡ all is_digit w

pub figured_start : (w : List ℕ) → Figured w 0 0
figured_start w = record { within = omega arith; small = omega arith; same = refl; digits = refl }

module _ {w : List ℕ} {v i : ℕ} (f : Figured w v i) where
  -- ten digits and what one more could add have room
  pub figured_small : i ≤ 10 → v < 10 ^ 10
  figured_small h = omega (arith, f.small, pow-le-pow_right {n = 10} (omega arith) h)

  pub figured_more : i < length w → is_digit (get_or w i 0) ≡ true → Figured w (v * 10 + (get_or w i 0 - 48)) (i + 1)
  figured_more h e =
      let d = digit_range (get_or w i 0) e in
      record {
        within = omega arith;
        small = rw (add-one, pow-succ') (omega (arith, f.small));
        same = sym (ap (worth v) (drop_next w i 0 h)) ∙ f.same;
        digits = sym (all_more is_digit w i 0 h e) ∙ f.digits;
      }

  pub figured_bad : i < length w → is_digit (get_or w i 0) ≡ false → is_number w ≡ false
  unfolding is_number
  figured_bad h e = rw (sym f.digits ∙ all_stop is_digit w i 0 h e) (and_false (between 1 10 (length w)))

  pub figured_end : length w ≤ i → worth 0 w ≡ v
  figured_end h = sym f.same ∙ ap (worth v) (drop_of_length-le w h)

  pub figured_number : length w ≤ i → 1 ≤ length w → length w ≤ 10 → is_number w ≡ true
  unfolding is_number
  figured_number h l m =
      and_true (between 1 10 (length w)) (all is_digit w) (between_true 1 10 (length w) l m) (sym f.digits ∙ all_done is_digit w i 0 h)
