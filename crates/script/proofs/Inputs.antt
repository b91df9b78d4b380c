-- Laws of a line of the script: its first word, and what it asks for then.
use Prim.Native.Nat.{ℕ, suc, ◌+◌, ◌-◌, ◌*◌, ◌<◌}
use mathlib.Core.Path.{◌≡◌, refl, sym, ap, ◌∙◌}
use mathlib.Core.Bool.{Bool, true, false, cond, ◌&&◌}
use mathlib.Core.List.{List, [], ◌∷◌, ◌++◌}
use native.Mathlib.Numerals.{add-one}
use native.Mathlib.Omega.{arith}
use borrow.Author.Tests.{eqb-true, eq-eqb, ne_eqb}
use lib.Dec.{eqb}
use lib.ListN.{length, take, drop, get_or, length-drop}
use lib.Seq.{take_all}
use Rattle.laws.specs.Lists.{same, part, behind, free}
use Rattle.laws.proofs.Choice.{by_test, not_both, and_false}
use Rattle.laws.proofs.Cutting.{up_to, part_is, behind_next}
use Rattle.words.specs.Digits.{is_digit, worth}
use Rattle.text.proofs.Reading.{digit_range}
use Rattle.script.specs.declared.input.Input.{Input}
use Rattle.script.specs.declared.input.Input.TheVariants.{Other, Line, Reading, Closing, Waiting}
use Rattle.std.proofs.Common.{Some, None}
use Rattle.script.specs.Input.{is_number, word, input_of, figures_of, reading_in, call_in}
use Rattle.script.proofs.Figures.{bad_word, good_word}
use Rattle.script.proofs.Parting.{up_to_free, up_to_length, up_to_take, parted, whole, parted_behind, parted_free}

-- ---- a word of one letter
other_length : (letter : ℕ) (w : List ℕ) → (length w ≡ 1 → ⊥) → same (letter ∷ []) w ≡ false
other_length letter [] ne = refl
other_length letter (a ∷ []) ne = absurd (ne refl)
other_length letter (a ∷ b ∷ w) ne = and_false (eqb a letter)

one_letter : (w : List ℕ) → length w ≡ 1 → w ≡ get_or w 0 0 ∷ []
one_letter [] e = absurd (omega arith)
one_letter (a ∷ []) e = refl
one_letter (a ∷ b ∷ w) e = absurd (omega arith)

and_yes : (a : Bool) → a && true ≡ a
and_yes true = refl
and_yes false = refl

-- the checks of a letter, and of what stands behind it
letters : (x : ℕ) (m n : Bool) (r c w other : Input)
    → cond ((eqb x 114 && true) && m) r (cond ((eqb x 120 && true) && n) c (cond ((eqb x 119 && true) && n) w other))
    ≡ cond (eqb x 114) (cond m r other) (cond (eqb x 120 && n) c (cond (eqb x 119 && n) w other))
letters x m n r c w other =
    simp and_yes (by_test (eqb x 114) (λ e. rw (eqb-true x 114 e)) (λ e. rw e))

-- ---- a line of two words
module _ (s : List ℕ) where
  reading_else : is_number (up_to 32 s) && is_number (behind 32 1 s) ≡ false → reading_in s ≡ Other
  reading_else e = rw (part_is 32 0 s, e)

  two_whole : length (up_to 32 s) ≡ length s → reading_in s ≡ Other
  unfolding is_number
  two_whole h = rw (whole 32 s h).1 (rw (and_false (is_number (word 0 s))))

  pub two_first : is_number (up_to 32 s) ≡ false → reading_in s ≡ Other
  two_first e = reading_else (rw e)

  pub two_last : is_number (behind 32 1 s) ≡ false → reading_in s ≡ Other
  two_last e = reading_else (rw e (and_false (is_number (up_to 32 s))))

  two_numbers : is_number (up_to 32 s) ≡ true → is_number (behind 32 1 s) ≡ true → reading_in s ≡ Reading (worth 0 (up_to 32 s)) (worth 0 (behind 32 1 s))
  two_numbers e f = rw (part_is 32 0 s, e, f)

-- ---- a line
module _ (s : List ℕ) where
  no_space : length (up_to 32 s) ≡ length s → input_of s ≡ Other
  unfolding input_of is_number
  no_space h =
      let w = whole 32 s h in
      let f : free 32 s ≡ true = sym (ap (free 32) w.0) ∙ up_to_free 32 s in
      let b : behind 32 2 s ≡ [] = sym (behind_next 32 1 s) ∙ ap (behind 32 1) w.1 in
      rw (f, b, w.1) (simp and_false)

  pub a_line : length (up_to 32 s) < length s → is_number (up_to 32 s) ≡ true → input_of s ≡ Line (worth 0 (up_to 32 s)) (suc (length (up_to 32 s)))
  unfolding input_of
  a_line h e = rw (part_is 32 0 s, e, parted_free 32 s h)

  pub long_word : is_number (up_to 32 s) ≡ false → (length (up_to 32 s) ≡ 1 → ⊥) → input_of s ≡ Other
  unfolding input_of
  long_word e ne =
      rw (part_is 32 0 s, e, other_length 114 (up_to 32 s) ne, other_length 120 (up_to 32 s) ne, other_length 119 (up_to 32 s) ne)

  pub a_call : length (up_to 32 s) < length s → is_number (up_to 32 s) ≡ false → length (up_to 32 s) ≡ 1
      → input_of s ≡ call_in (get_or s 0 0) (drop 2 s)
  unfolding input_of
  a_call h e one =
      let b : drop 2 s ≡ behind 32 1 s = rw one at (parted_behind 32 s h) in
      let p : part 32 1 s ≡ part 32 0 (behind 32 1 s) = part_is 32 1 s ∙ sym (part_is 32 0 (behind 32 1 s)) in
      let w = one_letter (up_to 32 s) one in
      let a : get_or s 0 0 ≡ get_or (up_to 32 s) 0 0 =
      ap (λ (l : List ℕ). get_or l 0 0) (parted 32 s h ∙ ap (λ (l : List ℕ). l ++ (32 ∷ behind 32 1 s)) w) in
      let u : up_to 32 s ≡ get_or s 0 0 ∷ [] = w ∙ ap (λ (n : ℕ). n ∷ []) (sym a) in
      rw (part_is 32 0 s, e, b, u, p, ← behind_next 32 1 s) (letters (get_or s 0 0) _ _ _ _ _ _)

-- ---- a letter, and all that stands behind the space
module _ (x : ℕ) (s : List ℕ) (ne : x ≡ 114 → ⊥) where
  pub call_bad : figures_of s ≡ None → call_in x s ≡ Other
  call_bad f = rw (ne_eqb x 114 ne, bad_word s f) (simp and_false)

  pub call_good : (n : ℕ) → figures_of s ≡ Some n → call_in x s ≡ cond (eqb x 120) (Closing n) (cond (eqb x 119) (Waiting n) Other)
  call_good n f = let g = good_word s n f in rw (ne_eqb x 114 ne, g.0, g.1) (simp and_yes)

-- ---- by what is found: where the first word ends, and the numbers that words are
module _ (s : List ℕ) {end : ℕ} (e : end ≡ 0 + length (up_to 32 (drop 0 s))) where
  ended : length (up_to 32 s) ≡ end
  ended = omega arith

  within : (end ≡ length s → ⊥) → length (up_to 32 s) < length s
  within ne = omega (arith, up_to_length 32 s, ended)

  head : take end s ≡ up_to 32 s
  head = ap (λ (n : ℕ). take n s) (sym ended) ∙ up_to_take 32 s

  tail : (end ≡ length s → ⊥) → take (length s - (end + 1)) (drop (end + 1) s) ≡ behind 32 1 s
  tail ne =
      take_all (length s - (end + 1)) (drop (end + 1) s) (omega (arith, length-drop (end + 1) s))
      ∙ (rw ended at (parted_behind 32 s (within ne)))

  pub reading_whole : end ≡ length s → reading_in s ≡ Other
  reading_whole h = two_whole s (omega (arith, ended))

  pub reading_no_port : figures_of (take end s) ≡ None → reading_in s ≡ Other
  reading_no_port f = two_first s (sym (ap is_number head) ∙ bad_word (take end s) f)

  pub reading_no_value : (end ≡ length s → ⊥) → figures_of (take (length s - (end + 1)) (drop (end + 1) s)) ≡ None → reading_in s ≡ Other
  reading_no_value ne f = two_last s (sym (ap is_number (tail ne)) ∙ bad_word (take (length s - (end + 1)) (drop (end + 1) s)) f)

  pub reading_is : (end ≡ length s → ⊥) → (p v : ℕ) → figures_of (take end s) ≡ Some p
      → figures_of (take (length s - (end + 1)) (drop (end + 1) s)) ≡ Some v → reading_in s ≡ Reading p v
  reading_is ne p v f g =
      let a = good_word (take end s) p f in
      let b = good_word (take (length s - (end + 1)) (drop (end + 1) s)) v g in
      two_numbers s (sym (ap is_number head) ∙ a.0) (sym (ap is_number (tail ne)) ∙ b.0)
      ∙ rw (sym (ap (worth 0) head) ∙ a.1, sym (ap (worth 0) (tail ne)) ∙ b.1)

  pub input_whole : end ≡ length s → input_of s ≡ Other
  input_whole h = no_space s (omega (arith, ended))

  pub input_line : (end ≡ length s → ⊥) → (n : ℕ) → figures_of (take end s) ≡ Some n → input_of s ≡ Line n (end + 1)
  input_line ne n f =
      let a = good_word (take end s) n f in
      a_line s (within ne) (sym (ap is_number head) ∙ a.0) ∙ rw (sym (ap (worth 0) head) ∙ a.1, ended, add-one)

  pub input_long : figures_of (take end s) ≡ None → (end ≡ 1 → ⊥) → input_of s ≡ Other
  input_long f ne = long_word s (sym (ap is_number head) ∙ bad_word (take end s) f) (λ one. ne (sym ended ∙ one))

  pub input_call : (end ≡ length s → ⊥) → figures_of (take end s) ≡ None → end ≡ 1
      → input_of s ≡ call_in (get_or s 0 0) (take (length s - 2) (drop 2 s))
  input_call ne f one =
      a_call s (within ne) (sym (ap is_number head) ∙ bad_word (take end s) f) (ended ∙ one)
      ∙ ap (call_in (get_or s 0 0)) (sym (take_all (length s - 2) (drop 2 s) (omega (arith, length-drop 2 s))))

-- one digit and a space
pub one_digit : (s : List ℕ) → is_digit (get_or s 0 0) ≡ true → get_or s 1 0 ≡ 32 → input_of s ≡ Line (get_or s 0 0 - 48) 2
unfolding input_of is_number
one_digit [] d e = not_both d refl
one_digit (b ∷ []) d e = absurd (omega arith)
one_digit (b ∷ a ∷ s) d e =
    let n = digit_range b d in
    let worth : 0 * 10 + (b - 48) ≡ b - 48 = omega arith in
    rw (eq-eqb a 32 e, ne_eqb b 32 (λ same. absurd (omega arith)), d) (ap (λ (k : ℕ). Line k 2) worth)
