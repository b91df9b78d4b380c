-- Counts spelled one by one, as document 01's own reading takes them: it finds the fault that the composer finds, and else their pairs.
use Prim.Native.Nat.{ℕ, zero, suc, ◌+◌, ◌*◌, ◌%◌, ◌≤◌, ◌<◌}
use mathlib.Core.Path.{◌≡◌, refl, sym, ◌∙◌}
use mathlib.Core.Bool.{true, false, cond, not}
use mathlib.Core.List.{List, [], ◌∷◌, ◌++◌, map, append_assoc, append-nil}
use mathlib.Core.Option.{some}
use native.Mathlib.Omega.{arith}
use borrow.Author.Tests.{lt-ltb, le-ltb, le-leb, lt-leb, ltb-true, ltb-false, ne_eqb}
use lib.Dec.{ltb, eqb}
use lib.ListN.{length, take, drop, length-append}
use lib.Seq.{drop-append_seam}
use Rattle.laws.specs.Checks.{◌⇒◌, first}
use Rattle.laws.specs.Lists.{all, joined}
use Rattle.laws.proofs.Choice.{by_test, and_left, and_right, and_false}
use Rattle.laws.proofs.Lists.{leading_all}
use Rattle.words.specs.declared.Pair.{Pair}
use Rattle.words.specs.Digits.{is_digit, worth}
use Rattle.words.specs.Decimal.{decimal}
use Rattle.words.specs.Pairs.{pair, pairs_of}
use Rattle.text.specs.Number.{run}
use Rattle.text.proofs.Decimals.{decimal_digits, decimal_few, decimal_some, decimal_value}
use Rattle.text.proofs.Reading.{digit_range}
use Rattle.meaning.specs.Line.{is_count, is_letter, opening, on, off_due, off, spelling, Reading, faulty, sound, reads, code_in}
use Rattle.code.specs.Limits.{legal}
use Rattle.code.proofs.Smallest.{legal_is}
use Rattle.reads.proofs.Bytewise.{count_is, on_run, off_run}
use Rattle.composer.specs.Fault.{counts_fault}
use Rattle.readback.specs.Composed.{Wide, EachWide}

no_letter : (b : ℕ) → is_digit b ≡ true → is_letter b ≡ false
no_letter b e = let r = digit_range b e in rw (lt-leb 65 b (omega arith))

-- the number of a decimal, any of a machine
pub number_back : (n : ℕ) → Wide n → worth 0 (decimal n) ≡ n
number_back n w = decimal_value n (omega arith)

two_less : (m n : ℕ) → ltb (suc (suc m)) (suc (suc n)) ≡ ltb m n
two_less m n =
    by_test (ltb m n)
    (λ e. rw (e, lt-ltb (suc (suc m)) (suc (suc n)) (omega (arith, ltb-true m n e))))
    (λ e. rw (e, le-ltb (suc (suc m)) (suc (suc n)) (omega (arith, ltb-false m n e))))

-- digits and what stands behind them
module _ (l x : List ℕ) (digits : all is_digit l ≡ true) (stop : run x ≡ []) where
  run_is : run (l ++ x) ≡ l
  run_is = leading_all is_digit l x digits ∙ rw stop (append-nil l)

  behind_run : drop (length (run (l ++ x))) (l ++ x) ≡ x
  behind_run = rw run_is (drop-append_seam l x)

-- counts with commas between them, and what stands behind the first
abbrev text : List ℕ → List ℕ
text counts = joined 44 (map decimal counts)

abbrev rest : List ℕ → List ℕ
rest [] = []
rest (c ∷ cs) = 44 ∷ text (c ∷ cs)

text_is : (c : ℕ) (cs : List ℕ) → text (c ∷ cs) ≡ decimal c ++ rest cs
text_is c [] = sym (append-nil (decimal c))
text_is c (d ∷ cs) = refl

rest_stops : (cs : List ℕ) → run (rest cs) ≡ []
rest_stops [] = refl
rest_stops (c ∷ cs) = refl

module _ (freq : ℕ) where
  -- a decimal is a count where its number is legal; one of over six digits is neither
  decimal_count : (n : ℕ) → Wide n → is_count freq (decimal n) ≡ legal freq n
  decimal_count n w = go (decimal n) (decimal_digits n) (decimal_some n) (number_back n w) (decimal_few n)
    where
      go : (l : List ℕ) → all is_digit l ≡ true → 1 ≤ length l → worth 0 l ≡ n → (n < 1000000 → length l ≤ 6) → is_count freq l ≡ legal freq n
      go [] digits any value few = absurd (omega arith)
      go (b ∷ l) digits any value few =
          count_is freq b l digits
          ∙ rw value
          (by_test (legal freq n)
          (λ e. rw (e, le-leb (suc (length l)) 6 (few (omega (arith, (legal_is e).high)))))
          (λ e. rw (e, and_false)))

  -- digits where a count may stand, with no digit behind them
  module _ (ps : List Pair) (x : List ℕ) (stop : run x ≡ []) where
    on_begun : (l : List ℕ) → all is_digit l ≡ true → 1 ≤ length l → length ps < 260 → reads freq ps spelling (l ++ x) ≡ reads freq ps (on l) x
    on_begun [] digits any room = absurd (omega arith)
    on_begun (b ∷ l) digits any room =
        let rest = and_right (is_digit b) _ digits in
        rw (and_left (is_digit b) _ digits, lt-leb 260 (length ps) room)
        (on_run freq ps (b ∷ []) (l ++ x) ∙ rw (behind_run l x rest stop, run_is l x rest stop))

    off_begun : (n : ℕ) (l : List ℕ) → all is_digit l ≡ true → 1 ≤ length l → reads freq ps (off_due n) (l ++ x) ≡ reads freq ps (off n l) x
    off_begun n [] digits any = absurd (omega arith)
    off_begun n (b ∷ l) digits any =
        let rest = and_right (is_digit b) _ digits in
        let digit = and_left (is_digit b) _ digits in
        rw (no_letter b digit, digit) (off_run freq ps n (b ∷ []) (l ++ x) ∙ rw (behind_run l x rest stop, run_is l x rest stop))

  -- the 261st pair
  full : (ps : List Pair) (l x : List ℕ) → all is_digit l ≡ true → 1 ≤ length l → 260 ≤ length ps → reads freq ps spelling (l ++ x) ≡ faulty 20
  full ps [] x digits any most = absurd (omega arith)
  full ps (b ∷ l) x digits any most = rw (and_left (is_digit b) _ digits, le-leb 260 (length ps) most)

  -- at first as behind a comma
  opened : (ps : List Pair) (c : ℕ) (cs : List ℕ) → reads freq ps opening (text (c ∷ cs)) ≡ reads freq ps spelling (text (c ∷ cs))
  opened ps c cs = rw (text_is c cs) (go (decimal c) (decimal_digits c) (decimal_some c))
    where
      go : (l : List ℕ) → all is_digit l ≡ true → 1 ≤ length l → reads freq ps opening (l ++ rest cs) ≡ reads freq ps spelling (l ++ rest cs)
      go [] digits any = absurd (omega arith)
      go (b ∷ l) digits any = rw (no_letter b (and_left (is_digit b) _ digits))

  -- what counts are behind the pairs ps, where there may be so many more
  abbrev spelled_as : ℕ → List Pair → List ℕ → Reading
  spelled_as most ps counts = first
      ((not (all (legal freq) (take most counts)) ⇒ faulty 9)
      ∷ (ltb most (length counts) ⇒ faulty 20)
      ∷ (not (eqb (length counts % 2) 0) ⇒ faulty 10)
      ∷ []) (sound (ps ++ pairs_of counts))

  -- no count more, and a legal pair first
  none_left : (m : ℕ) (ps : List Pair) → spelled_as m ps [] ≡ sound ps
  none_left zero ps = rw append-nil
  none_left (suc m) ps = rw (append-nil, le-ltb (suc m) 0 (omega arith))

  one_less : (m : ℕ) (ps : List Pair) (c d : ℕ) (cs : List ℕ) → legal freq c ≡ true → legal freq d ≡ true
      → spelled_as (suc (suc m)) ps (c ∷ d ∷ cs) ≡ spelled_as m (ps ++ (pair c d ∷ [])) cs
  one_less m ps c d cs first-legal next-legal =
      let even : suc (suc (length cs)) % 2 ≡ length cs % 2 = omega arith in
      rw (first-legal, next-legal, two_less m (length cs), even, append_assoc)

  -- a pair behind the pairs ps, which leaves room for k more
  module _ (k : ℕ) (ps : List Pair) (room : suc k + length ps ≡ 260)
      (again : (qs : List Pair) (c : ℕ) (cs : List ℕ) → k + length qs ≡ 260 → EachWide (c ∷ cs)
      → reads freq qs spelling (text (c ∷ cs)) ≡ spelled_as (2 * k) qs (c ∷ cs)) where
    behind_off : (c d : ℕ) (cs : List ℕ) → EachWide (c ∷ d ∷ cs) → legal freq c ≡ true
        → reads freq ps (off c (decimal d)) (rest cs) ≡ spelled_as (suc (suc (2 * k))) ps (c ∷ d ∷ cs)
    behind_off c d [] w good =
        rw (decimal_count d (w 1 (omega arith)), number_back d (w 1 (omega arith)))
        (by_test (legal freq d)
        (λ e. rw e (rw e at (sym (one_less (2 * k) ps c d [] good e ∙ none_left (2 * k) (ps ++ (pair c d ∷ []))))))
        (λ e. rw (good, e)))
    behind_off c d (n ∷ cs) w good =
        let qs = ps ++ (pair c d ∷ []) in
        rw (decimal_count d (w 1 (omega arith)), number_back d (w 1 (omega arith)))
        (by_test (legal freq d)
        (λ e. rw e
        (rw e at (again qs n cs (omega (arith, length-append ps (pair c d ∷ []))) (λ i h. w (suc (suc i)) (omega arith))
        ∙ sym (one_less (2 * k) ps c d (n ∷ cs) good e))))
        (λ e. rw (good, e)))

    behind_on : (c : ℕ) (cs : List ℕ) → EachWide (c ∷ cs) → reads freq ps (on (decimal c)) (rest cs) ≡ spelled_as (suc (suc (2 * k))) ps (c ∷ cs)
    behind_on c [] w =
        rw (decimal_count c (w 0 (omega arith)), le-ltb (suc (suc (2 * k))) 1 (omega arith))
        (by_test (legal freq c) (λ e. rw e) (λ e. rw e))
    behind_on c (d ∷ cs) w =
        let due : legal freq c ≡ true → reads freq ps (off_due c) (text (d ∷ cs)) ≡ spelled_as (suc (suc (2 * k))) ps (c ∷ d ∷ cs) =
        λ e. rw (text_is d cs) (off_begun ps (rest cs) (rest_stops cs) c (decimal d) (decimal_digits d) (decimal_some d)) ∙ behind_off c d cs w e in
        rw (decimal_count c (w 0 (omega arith)), number_back c (w 0 (omega arith)))
        (by_test (legal freq c) (λ e. rw e (rw e at (due e))) (λ e. rw e))

  -- all counts behind the pairs ps, where there may be k pairs more
  spelled : (k : ℕ) (ps : List Pair) (c : ℕ) (cs : List ℕ) → k + length ps ≡ 260 → EachWide (c ∷ cs)
      → reads freq ps spelling (text (c ∷ cs)) ≡ spelled_as (2 * k) ps (c ∷ cs)
  spelled zero ps c cs room w =
      rw (text_is c cs, lt-ltb 0 (suc (length cs)) (omega arith)) (full ps (decimal c) (rest cs) (decimal_digits c) (decimal_some c) (omega arith))
  spelled (suc k) ps c cs room w =
      let double : 2 * suc k ≡ suc (suc (2 * k)) = omega arith in
      rw (text_is c cs, double)
      (on_begun ps (rest cs) (rest_stops cs) (decimal c) (decimal_digits c) (decimal_some c) (omega arith)
      ∙ behind_on k ps room (spelled k) c cs w)

  -- the whole code: the fault that the composer gives, or the pairs that the counts are
  pub counts_read : (counts : List ℕ) → EachWide counts
      → code_in freq (joined 44 (map decimal counts))
      ≡ cond (eqb (counts_fault freq counts) 0) (sound (pairs_of counts)) (faulty (counts_fault freq counts))
  unfolding code_in counts_fault
  counts_read [] w = refl
  counts_read (c ∷ cs) w =
      opened [] c cs
      ∙ spelled 260 [] c cs refl w
      ∙ rw (ne_eqb (suc (length cs)) 0 (λ z. omega arith))
      (by_test (all (legal freq) (take 520 (c ∷ cs)))
      (λ e. rw e
      (by_test (ltb 520 (suc (length cs))) (λ f. rw f) (λ f. rw f
      (by_test (eqb (suc (length cs) % 2) 0) (λ g. rw g) (λ g. rw g)))))
      (λ e. rw e))

  -- counts that the composer refuses are refused with the same number
  pub counts_refused : (counts : List ℕ) → EachWide counts → (counts_fault freq counts ≡ 0 → ⊥)
      → (code_in freq (joined 44 (map decimal counts))).fault ≡ some (counts_fault freq counts)
  counts_refused counts w wrong = rw (counts_read counts w, ne_eqb (counts_fault freq counts) 0 wrong)
