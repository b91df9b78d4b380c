-- Laws of the digits of a number that stand at a place of a text: they are read, and what stands behind them is known.
use Prim.Native.Nat.{ℕ, ◌+◌, ◌≤◌, ◌<◌}
use mathlib.Core.Path.{◌≡◌, refl, sym, ap, ◌∙◌}
use mathlib.Core.List.{List, [], ◌∷◌, ◌++◌, append-nil}
use mathlib.Core.Bool.{true}
use native.Mathlib.Omega.{arith}
use borrow.Author.Tests.{lt-ltb, le-ltb, lt-leb, ne_eqb}
use lib.ListN.{length, drop, get_or, length-drop, length-append}
use Rattle.laws.specs.Lists.{all}
use Rattle.laws.proofs.Choice.{and_left}
use Rattle.laws.proofs.Lists.{leading_all, stands_at, stands_below, stands_behind}
use Rattle.text.specs.declared.number.Number.TheVariants.{Value}
use Rattle.std.proofs.Common.{Some}
use Rattle.words.specs.Digits.{is_digit, worth}
use Rattle.text.specs.Number.{run, number_of, number_at}
use Rattle.text.specs.Field.{ends_field, after_comma, field_within}
use Rattle.words.specs.Decimal.{decimal}
use Rattle.text.proofs.Decimals.{decimal_digits, decimal_few, decimal_some, decimal_worth}

module _ (s : List ℕ) (at : ℕ) (ds rest : List ℕ) (digits : all is_digit ds ≡ true) (some : 1 ≤ length ds) (e : drop at s ≡ ds ++ rest) where
  pub digits_first : is_digit (get_or s at 0) ≡ true
  digits_first = go ds digits some e
    where
      go : (l : List ℕ) → all is_digit l ≡ true → 1 ≤ length l → drop at s ≡ l ++ rest → is_digit (get_or s at 0) ≡ true
      go [] d h f = absurd (omega arith)
      go (b ∷ l) d h f = rw (stands_at s at b (l ++ rest) 0 f) (and_left (is_digit b) (all is_digit l) d)

  pub digits_below : at < length s
  digits_below = omega (arith, sym (length-drop at s) ∙ ap length e ∙ length-append ds rest)

  pub digits_read : length ds ≤ 6 → run rest ≡ [] → number_at s at ≡ Value (worth 0 ds) (at + length ds)
  unfolding number_at number_of
  digits_read few stop =
      let g : run (drop at s) ≡ ds =
      ap run e ∙ leading_all is_digit ds rest digits ∙ ap (λ (l : List ℕ). ds ++ l) stop ∙ append-nil ds in
      rw (g, ne_eqb (length ds) 0 (omega arith), le-ltb 6 (length ds) few)

-- a written number
pub number_behind : (s : List ℕ) (at n : ℕ) (rest : List ℕ) → drop at s ≡ decimal n ++ rest → n < 1000000 → run rest ≡ []
    → number_at s at ≡ Value n (at + length (decimal n))
number_behind s at n rest e h stop =
    rw decimal_worth at (digits_read s at (decimal n) rest (decimal_digits n) (decimal_some n) e (decimal_few n h) stop)

-- a number that is a whole field, with a comma behind it
module _ (s : List ℕ) (at n : ℕ) (rest : List ℕ) (e : drop at s ≡ decimal n ++ (44 ∷ rest)) where
  comma_behind : drop (at + length (decimal n)) s ≡ 44 ∷ rest
  comma_behind = stands_behind s at (decimal n) (44 ∷ rest) e

  pub field_ends : ends_field s (at + length (decimal n)) ≡ true
  unfolding ends_field
  field_ends =
      rw (
        lt-leb (length s) (at + length (decimal n)) (stands_below s _ 44 rest comma_behind),
        stands_at s (at + length (decimal n)) 44 rest 0 comma_behind,
      )

  pub field_comma : after_comma s (at + length (decimal n)) ≡ at + length (decimal n) + 1
  unfolding after_comma
  field_comma = rw (lt-ltb (at + length (decimal n)) (length s) (stands_below s _ 44 rest comma_behind))

  pub field_behind : drop (at + length (decimal n) + 1) s ≡ rest
  field_behind = stands_behind s (at + length (decimal n)) (44 ∷ []) rest comma_behind

  pub field_good : (least most : ℕ) → least ≤ n → n ≤ most → n < 1000000 → field_within least most s at ≡ Some (n, at + length (decimal n))
  unfolding field_within
  field_good least most l m h =
      rw (number_behind s at n (44 ∷ rest) e h refl, field_ends, le-ltb n least l, le-ltb most n m)
