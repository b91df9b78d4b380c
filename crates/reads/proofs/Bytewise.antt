-- The code reader reads a code as the table reads it, byte by byte.
use Prim.Native.Nat.{ℕ, zero, suc, ◌+◌, ◌-◌, ◌≤◌}
use mathlib.Core.Path.{◌≡◌, refl, sym, ap, ◌∙◌}
use mathlib.Core.Bool.{true, false, cond, ◌&&◌}
use mathlib.Core.List.{List, [], ◌∷◌, ◌++◌, append_assoc, append-nil}
use native.Mathlib.Nat.{add-zero}
use native.Mathlib.Omega.{arith}
use borrow.Author.Tests.{ne_eqb, lt-ltb, le-ltb, le-leb, lt-leb, ltb-true, leb-true, leb-false}
use lib.Dec.{eqb, ltb, leb}
use Rattle.std.specs.Prelude.{Some, None, Result}
use lib.ListN.{length, drop, get_or, length-append}
use lib.Seq.{drop-drop, get_or-drop}
use Rattle.laws.specs.Checks.{◌⇒◌, first, between}
use Rattle.laws.specs.Lists.{all}
use Rattle.laws.proofs.Choice.{by_test, and_true, between_is, between_checks}
use Rattle.laws.proofs.Lists.{stands_at, stands_below, stands_end, stands_behind}
use Rattle.laws.proofs.Cutting.{leading_passes, leading_end}
use Rattle.words.specs.declared.Pair.{Pair}
use Rattle.words.specs.Digits.{is_digit, worth}
use Rattle.words.specs.Pairs.{pair}
use Rattle.meaning.specs.Line.{is_number, within, is_count, is_letter, lettered, opening, on, off_due, off, spelling, Stride, stop, go, lettering, Reading, faulty, sound, after, reads, code_in}
use Rattle.text.specs.Number.{run, number_of, number_at}
use Rattle.code.specs.declared.next.Next.{Next}
use Rattle.code.specs.declared.next.After.TheVariants.{Nothing, Spelling, Lettering}
use Rattle.code.specs.Limits.{legal}
use Rattle.code.specs.Next as next
use Rattle.code.specs.Next.{count_at, paired, off_at, after_on, spelled_at, letter_at, begun_at, next_pair}
use Rattle.code.specs.Read.{read_on, read_from, read_code}
use Rattle.code.proofs.Lettering.{learnt_again}
use Rattle.lettered.proofs.Learnt.{lettered_more}
use Rattle.reads.specs.Readings.{reading_of}

-- the byte at a place, 0 behind the end
byte_of : (s : List ℕ) (at : ℕ) (x : List ℕ) → drop at s ≡ x → get_or s at 0 ≡ get_or x 0 0
byte_of s at x e = ap (λ (i : ℕ). get_or s i 0) (sym (add-zero at)) ∙ sym (get_or-drop at s 0 0) ∙ ap (λ (l : List ℕ). get_or l 0 0) e

letter_is : (b : ℕ) → next.is_letter b ≡ is_letter b
unfolding next.is_letter
letter_is b = between_is 65 90 b

module _ (freq : ℕ) where
  -- digits are a count where they are few and the number that they are is a legal one
  pub count_is : (b : ℕ) (ds : List ℕ) → all is_digit (b ∷ ds) ≡ true
      → is_count freq (b ∷ ds) ≡ leb (suc (length ds)) 6 && legal freq (worth 0 (b ∷ ds))
  unfolding legal is_count within is_number
  count_is b ds e =
      rw (e, lt-ltb 0 (suc (length ds)) (omega arith), between_checks 4 50000 (worth 0 (b ∷ ds)))
      (by_test (leb (suc (length ds)) 6)
      (λ f. rw f (by_test (between 4 50000 (worth 0 (b ∷ ds))) (λ g. rw g) (λ g. rw g)))
      (λ f. rw f))

  -- ---- a count, digit by digit
  pub on_run : (ps : List Pair) (ds x : List ℕ) → reads freq ps (on ds) x ≡ reads freq ps (on (ds ++ run x)) (drop (length (run x)) x)
  on_run ps ds [] = rw append-nil
  on_run ps ds (b ∷ x) =
      by_test (is_digit b)
      (λ e. rw e (on_run ps (ds ++ (b ∷ [])) x ∙ rw append_assoc))
      (λ e. rw (e, append-nil, e))

  pub off_run : (ps : List Pair) (n : ℕ) (ds x : List ℕ)
      → reads freq ps (off n ds) x ≡ reads freq ps (off n (ds ++ run x)) (drop (length (run x)) x)
  off_run ps n ds [] = rw append-nil
  off_run ps n ds (b ∷ x) =
      by_test (is_digit b)
      (λ e. rw e (off_run ps n (ds ++ (b ∷ [])) x ∙ rw append_assoc))
      (λ e. rw (e, append-nil, e))

  -- ---- behind a spelled pair: a letter, or the comma before another spelled pair
  abbrev behind_pair : List Pair → ℕ → Stride
  behind_pair ps b = first ((is_letter b ⇒ lettering ps b) ∷ (eqb b 44 ⇒ go ps spelling) ∷ []) (stop 9)

  abbrev behind_spelled : List Pair → List ℕ → Reading
  behind_spelled ps [] = sound ps
  behind_spelled ps (b ∷ x) = after (behind_pair ps b) (λ qs q. reads freq qs q x)

  -- an off count that has ended
  off_ended : (ps : List Pair) (n : ℕ) (ds x y : List ℕ) → drop (length (run x)) x ≡ y
      → reads freq ps (off n ds) y ≡ cond (is_count freq ds) (behind_spelled (ps ++ (pair n (worth 0 ds) ∷ [])) y) (faulty 9)
  off_ended ps n ds x [] e = refl
  off_ended ps n ds x (b ∷ y) e =
      rw (leading_end is_digit x e) (by_test (is_count freq ds) (λ f. rw f) (λ f. rw f))

  -- ---- the reader behind the pairs ps, with room for one more at least
  module _ (s : List ℕ) (k : ℕ) (ps : List Pair)
      (again : (qs : List Pair) (at : ℕ) → k + length qs ≡ 260
      → reading_of (read_from (suc k) freq s qs (lettered qs) Spelling at) ≡ behind_spelled qs (drop at s))
      (room : suc k + length ps ≡ 260) where
    abbrev then : Result Next ℕ → Reading
    then x = reading_of (read_on (read_from (suc k) freq s) ps (lettered ps) x)

    count_some : (at c : ℕ) (w : List ℕ) → drop at s ≡ c ∷ w → is_digit c ≡ true
        → count_at freq s at ≡ cond (is_count freq (c ∷ run w)) (Some (worth 0 (c ∷ run w), at + suc (length (run w)))) None
    unfolding count_at number_at number_of
    count_some at c w e g =
        let digits : all is_digit (c ∷ run w) ≡ true = and_true (is_digit c) (all is_digit (run w)) g (leading_passes is_digit w) in
        rw (e, g, ne_eqb (suc (length (run w))) 0 (λ z. absurd (omega arith)), count_is c (run w) digits)
        (by_test (leb (suc (length (run w))) 6)
        (λ f. rw (f, le-ltb 6 (suc (length (run w))) (leb-true (suc (length (run w))) 6 f)))
        (λ f. rw (f, lt-ltb 6 (suc (length (run w))) (leb-false (suc (length (run w))) 6 f))))

    count_none : (at : ℕ) (x : List ℕ) → drop at s ≡ x → run x ≡ [] → count_at freq s at ≡ None
    unfolding count_at number_at number_of
    count_none at x e g = rw (e, g)

    -- where a count of digits that begins at a place ends
    behind_run : (at c : ℕ) (w : List ℕ) → drop at s ≡ c ∷ w → drop (at + suc (length (run w))) s ≡ drop (length (run w)) w
    behind_run at c w e = sym (drop-drop (suc (length (run w))) at s) ∙ ap (drop (suc (length (run w)))) e

    off_is : (n at : ℕ) (z : List ℕ) → drop at s ≡ z → then (off_at freq n s at) ≡ reads freq ps (off_due n) z
    unfolding off_at
    off_is n at [] e = rw (byte_of s at [] e, letter_is 0, count_none at [] e refl)
    off_is n at (c ∷ w) e =
        rw (byte_of s at (c ∷ w) e, letter_is c)
        (by_test (is_letter c) (λ f. rw f) λ f. rw f
        (by_test (is_digit c)
        (λ g. rw (g, count_some at c w e g)
        (spelled ∙ sym (off_ended ps n (c ∷ run w) w (drop (length (run w)) w) refl) ∙ sym (off_run ps n (c ∷ []) w)))
        (λ g. rw (count_none at (c ∷ w) e (rw g), g))))
      where
        spelled : then (paired n (cond (is_count freq (c ∷ run w)) (Some (worth 0 (c ∷ run w), at + suc (length (run w)))) None))
            ≡ cond (is_count freq (c ∷ run w)) (behind_spelled (ps ++ (pair n (worth 0 (c ∷ run w)) ∷ [])) (drop (length (run w)) w)) (faulty 9)
        spelled =
            let v = worth 0 (c ∷ run w) in
            by_test (is_count freq (c ∷ run w))
            (λ f.
            rw (
              f,
              ← lettered_more ps (pair n v),
              again (ps ++ (pair n v ∷ [])) (at + suc (length (run w))) (omega (arith, length-append ps (pair n v ∷ []))),
              behind_run at c w e,
            ))
            (λ f. rw f)

    on_is : (at b : ℕ) (x : List ℕ) → drop at s ≡ b ∷ x → is_digit b ≡ true → then (spelled_at freq (length ps) s at) ≡ reads freq ps (on (b ∷ [])) x
    unfolding spelled_at after_on
    on_is at b x e d =
        rw (lt-leb 260 (length ps) (omega arith), count_some at b x e d)
        (by_test (is_count freq (b ∷ run x))
        (λ f. rw f (ended_on f (drop (length (run x)) x) refl) ∙ sym (on_run ps (b ∷ []) x))
        (λ f. rw f (bad f (drop (length (run x)) x) refl) ∙ sym (on_run ps (b ∷ []) x)))
      where
        ended_on : is_count freq (b ∷ run x) ≡ true → (y : List ℕ) → drop (length (run x)) x ≡ y
            → then (after_on freq (worth 0 (b ∷ run x)) s (at + suc (length (run x)))) ≡ reads freq ps (on (b ∷ run x)) y
        ended_on f [] g =
            let end = at + suc (length (run x)) in
            rw (f, le-leb (length s) end (stands_end s end (behind_run at b x e ∙ g)))
        ended_on f (c ∷ y) g =
            let end = at + suc (length (run x)) in
            let here : drop end s ≡ c ∷ y = behind_run at b x e ∙ g in
            rw (leading_end is_digit x g, f, lt-leb (length s) end (stands_below s end c y here), stands_at s end c y 0 here, letter_is c)
            (by_test (is_letter c) (λ l. rw l) λ l. rw l
            (by_test (eqb c 44) (λ k. rw k (off_is (worth 0 (b ∷ run x)) (end + 1) y (stands_behind s end (c ∷ []) y here))) (λ k. rw k)))

        bad : is_count freq (b ∷ run x) ≡ false → (y : List ℕ) → drop (length (run x)) x ≡ y
            → faulty 9 ≡ reads freq ps (on (b ∷ run x)) y
        bad f [] g = rw f
        bad f (c ∷ y) g = rw (leading_end is_digit x g, f)

  -- ---- what the reader makes of a digit and of a letter behind the pairs ps
  record Begun (s : List ℕ) (k : ℕ) (ps : List Pair) : Type 0 where
    digit : (at b : ℕ) (x : List ℕ) → drop at s ≡ b ∷ x → is_digit b ≡ true
        → reading_of (read_on (read_from k freq s) ps (lettered ps) (spelled_at freq (length ps) s at))
        ≡ after (cond (leb 260 (length ps)) (stop 20) (go ps (on (b ∷ [])))) (λ qs q. reads freq qs q x)
    letter : (at b : ℕ) (x : List ℕ) → drop at s ≡ b ∷ x
        → reading_of (read_on (read_from k freq s) ps (lettered ps) (letter_at (length ps) (length (lettered ps)) b (at + 1)))
        ≡ after (lettering ps b) (λ qs q. reads freq qs q x)

  -- what is left of the text behind the pairs ps, where there may be k more
  record Left (s : List ℕ) (k : ℕ) (ps : List Pair) (at : ℕ) : Type 0 where
    spelled : reading_of (read_from (suc k) freq s ps (lettered ps) Spelling at) ≡ behind_spelled ps (drop at s)
    lettering : 1 ≤ length ps → reading_of (read_from (suc k) freq s ps (lettered ps) Lettering at) ≡ reads freq ps opening (drop at s)
    first : length ps ≡ 0 → reading_of (read_from (suc k) freq s ps (lettered ps) Nothing at) ≡ reads freq ps opening (drop at s)

  module _ (s : List ℕ) (k : ℕ) (ps : List Pair) (g : Begun s k ps) where
    begun_is : (at : ℕ) (x : List ℕ) → drop at s ≡ x
        → reading_of (read_on (read_from k freq s) ps (lettered ps) (begun_at freq (length ps) s at)) ≡ reads freq ps spelling x
    unfolding begun_at
    begun_is at [] e =
        let z : get_or s at 0 ≡ 0 = byte_of s at [] e in
        rw z
    begun_is at (b ∷ x) e =
        let z : get_or s at 0 ≡ b = byte_of s at (b ∷ x) e in
        rw z (by_test (is_digit b) (λ d. rw d (g.digit at b x e d)) (λ d. rw d))

    left_is : (at : ℕ) (x : List ℕ) → drop at s ≡ x → Left s k ps at
    unfolding next_pair
    left_is at [] e =
        let end = le-leb (length s) at (stands_end s at e) in
        record {
          spelled = rw (end, e);
          lettering = λ h. rw (end, e, ne_eqb (length ps) 0 (λ z. absurd (omega arith)));
          first = λ h. rw (end, e, h);
        }
    left_is at (b ∷ x) e =
        let below = lt-leb (length s) at (stands_below s at b x e) in
        let here = stands_at s at b x 0 e in
        record {
          spelled = rw (below, here, e, letter_is b)
              (by_test (is_letter b) (λ l. rw l (g.letter at b x e)) λ l. rw l
              (by_test (eqb b 44) (λ c. rw c (begun_is (at + 1) x (stands_behind s at (b ∷ []) x e))) (λ c. rw c)));
          lettering = λ h. rw (below, here, e, letter_is b)
              (by_test (is_letter b) (λ l. rw l (g.letter at b x e)) (λ l. rw l (begun_is at (b ∷ x) e)));
          first = λ h. rw (below, here, e, letter_is b)
              (by_test (is_letter b) (λ l. rw l (g.letter at b x e)) (λ l. rw l (begun_is at (b ∷ x) e)));
        }

  begun_full : (s : List ℕ) (k : ℕ) (ps : List Pair) → length ps ≡ 260 → Begun s k ps
  unfolding spelled_at letter_at
  begun_full s k ps h = record { digit = λ at b x e d. rw h; letter = λ at b x e. rw h }

  begun_more : (s : List ℕ) (k : ℕ) (ps : List Pair) → ((qs : List Pair) (at : ℕ) → k + length qs ≡ 260 → Left s k qs at)
      → suc k + length ps ≡ 260 → Begun s (suc k) ps
  unfolding letter_at
  begun_more s k ps again room =
      let few = lt-leb 260 (length ps) (omega arith) in
      record {
        digit = λ at b x e d. on_is s k ps (λ qs a h. (again qs a h).spelled) room at b x e d ∙ rw few;
        letter = λ at b x e. rw few
            (by_test (ltb (b - 65) (length (lettered ps)))
            (λ l. rw l
            (let q = get_or (lettered ps) (b - 65) (pair 0 0) in
            let known : lettered (ps ++ (q ∷ [])) ≡ lettered ps =
            lettered_more ps q ∙ learnt_again (lettered ps) (b - 65) (ltb-true (b - 65) (length (lettered ps)) l) in
            let m = length-append ps (q ∷ []) in
            (rw known at ((again (ps ++ (q ∷ [])) (at + 1) (omega arith)).lettering (omega arith)))
            ∙ ap (reads freq (ps ++ (q ∷ [])) opening) (stands_behind s at (b ∷ []) x e)))
            (λ l. rw l));
      }

  left : (s : List ℕ) (k : ℕ) (ps : List Pair) (at : ℕ) → k + length ps ≡ 260 → Left s k ps at
  left s zero ps at room = left_is s zero ps (begun_full s zero ps (omega arith)) at (drop at s) refl
  left s (suc k) ps at room = left_is s (suc k) ps (begun_more s k ps (left s k) room) at (drop at s) refl

-- what the code reader reads from a place on is what the table reads in the text that stands there
pub code_bytewise : (freq : ℕ) (s : List ℕ) (at : ℕ) → reading_of (read_code freq s at) ≡ code_in freq (drop at s)
unfolding read_code code_in
code_bytewise freq s at = (left freq s 260 [] at refl).first refl
