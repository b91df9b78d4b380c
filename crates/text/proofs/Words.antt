-- Laws of words: the loop that compares one with a field.
use Prim.Native.Nat.{ℕ, ◌+◌, ◌≤◌, ◌<◌}
use mathlib.Core.Path.{◌≡◌}
use mathlib.Core.List.{List}
use mathlib.Core.Bool.{false}
use borrow.Author.Tests.{eq-eqb, ne_eqb, leb-true, leb-false}
use lib.Dec.{leb}
use lib.ListN.{length, drop, get_or, drop_of_length-le}
use Rattle.laws.proofs.Choice.{by_test}
use Rattle.laws.proofs.Lists.{drop_next}
use Rattle.text.specs.Field.{field_is, ends_field}

module _ (w s : List ℕ) (j i : ℕ) where
  pub word_same : j < length w → i < length s → get_or s i 0 ≡ get_or w j 0
      → field_is (drop j w) (drop i s) ≡ field_is (drop (j + 1) w) (drop (i + 1) s)
  word_same hj hi e = rw (drop_next w j 0 hj, drop_next s i 0 hi, eq-eqb (get_or s i 0) (get_or w j 0) e)

  pub word_other : j < length w → i < length s → (get_or s i 0 ≡ get_or w j 0 → ⊥) → field_is (drop j w) (drop i s) ≡ false
  word_other hj hi e = rw (drop_next w j 0 hj, drop_next s i 0 hi, ne_eqb (get_or s i 0) (get_or w j 0) e)

  pub word_short : j < length w → length s ≤ i → field_is (drop j w) (drop i s) ≡ false
  word_short hj hi = rw (drop_next w j 0 hj, drop_of_length-le s hi)

  pub word_end : length w ≤ j → field_is (drop j w) (drop i s) ≡ ends_field s i
  unfolding ends_field
  word_end hj =
      by_test (leb (length s) i)
      (λ e. rw (e, drop_of_length-le w hj, drop_of_length-le s (leb-true (length s) i e)))
      (λ e. rw (e, drop_of_length-le w hj, drop_next s i 0 (leb-false (length s) i e)))
