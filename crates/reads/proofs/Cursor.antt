-- What the line reader finds at a place behind k commas is what the table finds in the k-th field: a number, an address, a mode, more fields.
use Prim.Native.Nat.{ℕ, suc, ◌+◌, ◌-◌, ◌≤◌, ◌<◌}
use mathlib.Core.Path.{◌≡◌, refl, sym, ap, ◌∙◌}
use mathlib.Core.Bool.{Bool, true, false, cond, ◌&&◌, ◌||◌}
use mathlib.Core.List.{List, [], ◌∷◌, ◌++◌, append-nil}
use native.Mathlib.Omega.{arith}
use borrow.Author.Tests.{eqb-true, eqb-false, eq-eqb, ne_eqb, lt-ltb, le-ltb, le-leb, lt-leb, ltb-true, ltb-false, leb-true, leb-false}
use lib.Dec.{eqb, ltb, leb}
use lib.ListN.{length, drop, get_or, length-append}
use lib.Seq.{drop-drop}
use Rattle.laws.specs.Bytes.{bytes}
use Rattle.laws.specs.Checks.{◌⇒◌, first, between}
use Rattle.laws.specs.Lists.{all, same, cut, part, behind}
use Rattle.laws.proofs.Choice.{by_test, not_both, and_left, and_false, between_checks}
use Rattle.laws.proofs.Lists.{stands_at, stands_below, stands_behind, stands_end, same_is, none_is}
use Rattle.laws.proofs.Cutting.{up_to, from, count, split, Ending, ends, goes, ending, behind_next, part_is, parts_are, count_behind, up_to_all, behind_all, count_all, ends_part, whole_part, leading_part, leading_passes, leading_split, leading_end, all_broken}
use Rattle.words.specs.Digits.{is_digit, worth}
use Rattle.meaning.specs.Line.{is, is_number, within, is_address}
use Rattle.text.specs.declared.number.Number.{Number}
use Rattle.text.specs.declared.number.Number.TheVariants.{Missing, TooLong, Value}
use Rattle.std.proofs.Common.{Option, Some, None}
use Rattle.text.specs.Number.{run, number_of, number_at}
use Rattle.text.specs.Field as field
use Rattle.text.specs.Field.{ends_field, after_comma, field_is, field_within}
use Rattle.request.specs.declared.mode.Mode.{Mode}
use Rattle.request.specs.declared.mode.Mode.TheVariants.{Ir, Sensor, IrBlaster, LedLighting}
use Rattle.request.specs.declared.Place.{Place}
use Rattle.request.specs.Place.{place_of}
use Rattle.request.specs.Address.{beyond, part_of, part_at, port_read, port_at, module_read, address_at}
use Rattle.request.specs.Mode.{mode_at, mode_word, is_sensor, is_lighting, is_silent}

-- ---- words

-- a word without a comma is the whole field
pub word_is : (w s : List ℕ) → count 44 w ≡ 0 → field_is w s ≡ same w (up_to 44 s)
word_is [] [] n = refl
word_is [] (b ∷ s) n = by_test (eqb b 44) (λ e. rw e) (λ e. rw e)
word_is (a ∷ w) [] n = refl
word_is (a ∷ w) (b ∷ s) n =
    by_test (eqb b 44)
    (λ e. rw (e, ne_eqb b a (λ alike. not_both (ap (λ (x : ℕ). eqb x 44) (sym alike) ∙ e) (plain (eqb a 44) n))))
    (λ e. rw e (by_test (eqb b a) (λ f. rw f (word_is w s (rest (eqb a 44) n))) (λ f. rw f)))
  where
    plain : (t : Bool) → cond t (suc (count 44 w)) (count 44 w) ≡ 0 → t ≡ false
    plain true z = absurd (omega arith)
    plain false z = refl

    rest : (t : Bool) → cond t (suc (count 44 w)) (count 44 w) ≡ 0 → count 44 w ≡ 0
    rest true z = absurd (omega arith)
    rest false z = z

-- a mode word, and the mode that it is
unfoldable pub is_mode : List ℕ → Bool
is_mode f = same (bytes "IR") f || same (bytes "SENSOR") f || same (bytes "IR_BLASTER") f || same (bytes "LED_LIGHTING") f

unfoldable pub mode_in : List ℕ → Mode
mode_in f = first
    ((same (bytes "IR") f ⇒ Ir)
    ∷ (same (bytes "SENSOR") f ⇒ Sensor)
    ∷ (same (bytes "LED_LIGHTING") f ⇒ LedLighting)
    ∷ []) IrBlaster

pub word_back : (f : List ℕ) → is_mode f ≡ true → mode_word (mode_in f) ≡ f
unfolding is_mode mode_in
word_back f =
    by_test (same (bytes "IR") f) (λ e. rw (← same_is (bytes "IR") f e) (λ _. refl)) λ e. rw e
    (by_test (same (bytes "SENSOR") f) (λ g. rw (← same_is (bytes "SENSOR") f g) (λ _. refl)) λ g. rw g
    (by_test (same (bytes "IR_BLASTER") f) (λ h. rw (← same_is (bytes "IR_BLASTER") f h) (λ _. refl)) λ h. rw h
    (λ l. rw (← same_is (bytes "LED_LIGHTING") f l))))

-- the word is SENSOR, or LED_LIGHTING, where the mode is
word_tests : (w : List ℕ) → (is "SENSOR" w ≡ is_sensor (mode_in w)) × (is "LED_LIGHTING" w ≡ is_lighting (mode_in w))
unfolding mode_in
word_tests w =
    by_test (is "IR" w) (λ e. rw (← same_is (bytes "IR") w e) (refl, refl)) λ e. rw e
    (by_test (is "SENSOR" w) (λ f. rw (← same_is (bytes "SENSOR") w f) (refl, refl)) λ f. rw f
    (by_test (is "LED_LIGHTING" w) (λ g. rw g (refl, refl)) (λ g. rw g (refl, refl))))

pub sensor_is : (w : List ℕ) → is "SENSOR" w ≡ is_sensor (mode_in w)
sensor_is w = (word_tests w).0

pub lighting_is : (w : List ℕ) → is "LED_LIGHTING" w ≡ is_lighting (mode_in w)
lighting_is w = (word_tests w).1

-- it is one of the two where the mode is silent
pub silent_is : (w : List ℕ) → (is "SENSOR" w || is "LED_LIGHTING" w) ≡ is_silent (mode_in w)
silent_is w = rw (sensor_is w, lighting_is w) (go (mode_in w))
  where
    go : (mode : Mode) → (is_sensor mode || is_lighting mode) ≡ is_silent mode
    go Ir = refl
    go Sensor = refl
    go IrBlaster = refl
    go LedLighting = refl

-- ---- numbers

-- what digits of an address count as: a number, or one above every module and port
abbrev pub counts : List ℕ → ℕ
counts f = cond (leb (length f) 6) (worth 0 f) beyond

-- they count as one in a range exactly where they are a number in it
pub counts_within_law : (least most : ℕ) (f : List ℕ) → most < beyond → is_number f ≡ true → within least most f ≡ between least most (counts f)
unfolding within
counts_within_law least most f h e =
    rw e (by_test (leb (length f) 6) (λ g. rw g) (λ g. rw (g, lt-leb beyond most h, and_false)))

-- ---- at any place
module _ (s : List ℕ) (at : ℕ) where
  -- the field there
  abbrev pub field_at : List ℕ
  field_at = up_to 44 (drop at s)

  from_at : drop (at + length field_at) s ≡ from 44 (drop at s)
  from_at = stands_behind s at field_at (from 44 (drop at s)) (split 44 (drop at s))

  ends_at : ends_field s (at + length field_at) ≡ true
  unfolding ends_field
  ends_at = go (ending 44 (drop at s))
    where
      go : Ending 44 (drop at s) → cond (leb (length s) (at + length field_at)) true (eqb (get_or s (at + length field_at) 0) 44) ≡ true
      go (ends f b n) = rw (le-leb (length s) (at + length field_at) (stands_end s (at + length field_at) (from_at ∙ f)))
      go (goes f n) =
          rw (
            lt-leb (length s) (at + length field_at) (stands_below s (at + length field_at) 44 _ (from_at ∙ f)),
            stands_at s (at + length field_at) 44 _ 0 (from_at ∙ f),
          )

  next_at : drop (after_comma s (at + length field_at)) s ≡ behind 44 1 (drop at s)
  unfolding after_comma
  next_at = go (ending 44 (drop at s))
    where
      go : Ending 44 (drop at s) → drop (cond (ltb (at + length field_at) (length s)) (at + length field_at + 1) (at + length field_at)) s ≡ behind 44 1 (drop at s)
      go (ends f b n) = rw (le-ltb (at + length field_at) (length s) (stands_end s (at + length field_at) (from_at ∙ f))) (from_at ∙ f ∙ sym b)
      go (goes f n) =
          rw (lt-ltb (at + length field_at) (length s) (stands_below s (at + length field_at) 44 _ (from_at ∙ f)))
          (stands_behind s (at + length field_at) (44 ∷ []) (behind 44 1 (drop at s)) (from_at ∙ f))

  over_at : ltb (at + length field_at) (length s) ≡ ltb 0 (count 44 (drop at s))
  over_at = go (ending 44 (drop at s))
    where
      go : Ending 44 (drop at s) → ltb (at + length field_at) (length s) ≡ ltb 0 (count 44 (drop at s))
      go (ends f b n) = rw (le-ltb (at + length field_at) (length s) (stands_end s (at + length field_at) (from_at ∙ f)), n)
      go (goes f n) =
          rw (
            lt-ltb (at + length field_at) (length s) (stands_below s (at + length field_at) 44 _ (from_at ∙ f)),
            lt-ltb 0 (count 44 (drop at s)) (omega arith),
          )

  -- the digits there are the whole field where that is all digits
  whole_at : ends_field s (at + length (run (drop at s))) ≡ all is_digit field_at
  unfolding ends_field
  whole_at = go (drop (length (run (drop at s))) (drop at s)) refl ∙ whole_part is_digit 44 refl (drop at s)
    where
      go : (x : List ℕ) → drop (length (run (drop at s))) (drop at s) ≡ x
          → cond (leb (length s) (at + length (run (drop at s)))) true (eqb (get_or s (at + length (run (drop at s))) 0) 44)
          ≡ ends_part is_digit 44 refl (drop (length (run (drop at s))) (drop at s))
      go [] e =
          let d : drop (at + length (run (drop at s))) s ≡ [] = sym (drop-drop (length (run (drop at s))) at s) ∙ e in
          rw (e, le-leb (length s) (at + length (run (drop at s))) (stands_end s _ d))
      go (b ∷ x) e =
          let d : drop (at + length (run (drop at s))) s ≡ b ∷ x = sym (drop-drop (length (run (drop at s))) at s) ∙ e in
          rw (e, lt-leb (length s) (at + length (run (drop at s))) (stands_below s _ b x d), stands_at s _ b x 0 d)

  -- what is made of a number that is the whole field, and of anything else
  number_at_law : {A : Type 0} (K : Number → A) (bad : A) → K Missing ≡ bad
      → ((end : ℕ) → ends_field s end ≡ false → K (TooLong end) ≡ bad) → ((v end : ℕ) → ends_field s end ≡ false → K (Value v end) ≡ bad)
      → K (number_at s at)
      ≡ cond (is_number field_at) (cond (leb (length field_at) 6) (K (Value (worth 0 field_at) (at + length field_at))) (K (TooLong (at + length field_at)))) bad
  unfolding number_at number_of is_number
  number_at_law {A} K bad missing long other =
      by_test (all is_digit field_at)
      (λ e. rw (leading_part is_digit 44 refl (drop at s) e, e)
      (by_test (ltb 0 (length field_at))
      (λ f. rw (f, ne_eqb (length field_at) 0 (λ z. absurd (omega (arith, ltb-true 0 (length field_at) f))))
      (by_test (leb (length field_at) 6)
      (λ g. rw (g, le-ltb 6 (length field_at) (leb-true (length field_at) 6 g)))
      (λ g. rw (g, lt-ltb 6 (length field_at) (leb-false (length field_at) 6 g)))))
      (λ f. rw (f, eq-eqb (length field_at) 0 (omega (arith, ltb-false 0 (length field_at) f))) missing)))
      (λ e. rw e
      (by_test (eqb (length (run (drop at s))) 0) (λ f. rw f missing) λ f. rw f
      (by_test (ltb 6 (length (run (drop at s)))) (λ g. rw g (long _ (whole_at ∙ e))) (λ g. rw g (other _ _ (whole_at ∙ e))))))

  within_at : (least most : ℕ) → field_within least most s at ≡ cond (within least most field_at) (Some (worth 0 field_at, at + length field_at)) None
  unfolding field_within within
  within_at least most =
      number_at_law (field.within least most s) None refl (λ end e. refl) (λ v end e. rw e)
      ∙ by_test (is_number field_at)
      (λ e. rw e (by_test (leb (length field_at) 6) (λ f. rw (f, ends_at, between_checks)) (λ f. rw f)))
      (λ e. rw e)

  port_at_law : (m : ℕ) → port_at s m at ≡ cond (is_number field_at) (Some (place_of m (counts field_at), at + length field_at)) None
  unfolding port_at part_at
  port_at_law m =
      number_at_law (λ n. port_read s m (part_of n)) None refl (λ end e. rw e) (λ v end e. rw e)
      ∙ rw ends_at (by_test (leb (length field_at) 6) (λ f. rw f) (λ f. rw f))

-- ---- an address
address_is : (f : List ℕ) → is_address f ≡ eqb (suc (count 58 f)) 2 && is_number (up_to 58 f) && is_number (up_to 58 (behind 58 1 f))
unfolding is_address
address_is f = rw (parts_are 58 f, part_is 58 0 f, part_is 58 1 f)

-- a text that no digit begins has no number in front of a colon
no_number : (r : List ℕ) → run r ≡ [] → is_number (up_to 58 (up_to 44 r)) ≡ false
unfolding is_number
no_number [] e = refl
no_number (b ∷ r) e =
    by_test (eqb b 44) (λ f. rw f) λ f. rw f
    (by_test (eqb b 58) (λ g. rw g) λ g. rw (g, none_first))
  where
    none_first : is_digit b ≡ false
    none_first = by_test (is_digit b) (λ g. absurd (omega (arith, ap length (rw g at e)))) (λ g. g)

-- a number has no colon
module _ (l : List ℕ) where
  number_is : all is_digit l ≡ true → 1 ≤ length l → is_number l ≡ true
  unfolding is_number
  number_is e some = rw (e, lt-ltb 0 (length l) some)

  number_digits : is_number l ≡ true → all is_digit l ≡ true
  unfolding is_number
  number_digits e = and_left (all is_digit l) (ltb 0 (length l)) e

  number_alone : is_number l ≡ true → up_to 58 l ≡ l
  number_alone e = rw append-nil at (up_to_all is_digit 58 refl l [] (number_digits e))

  number_none : is_number l ≡ true → count 58 l ≡ 0
  number_none e = rw append-nil at (count_all is_digit 58 refl l [] (number_digits e))

-- digits, a colon, and what stands behind it
module _ (d g : List ℕ) (digits : all is_digit d ≡ true) (some : 1 ≤ length d) where
  front : up_to 58 (d ++ (58 ∷ g)) ≡ d
  front = up_to_all is_digit 58 refl d (58 ∷ g) digits ∙ append-nil d

  colon_address : is_address (d ++ (58 ∷ g)) ≡ is_number g
  colon_address =
      rw (
        address_is (d ++ (58 ∷ g)),
        front,
        count_all is_digit 58 refl d (58 ∷ g) digits,
        behind_all is_digit 58 refl d (58 ∷ g) digits,
        number_is d digits some,
      )
      (by_test (is_number g) (λ e. rw (e, number_alone g e, number_none g e, e)) (λ e. rw e (ports e (ending 58 g))))
    where
      ports : is_number g ≡ false → Ending 58 g → eqb (suc (suc (count 58 g))) 2 && true && is_number (up_to 58 g) ≡ false
      ports e (ends f b n) = rw (n, ← rw (f, append-nil) at (split 58 g)) e
      ports e (goes f n) = rw (n, ne_eqb (suc (suc (suc (count 58 (behind 58 1 g))))) 2 (λ z. absurd (omega arith)))

  colon_module : part 58 0 (d ++ (58 ∷ g)) ≡ d
  colon_module = part_is 58 0 (d ++ (58 ∷ g)) ∙ front

  colon_port : is_number g ≡ true → part 58 1 (d ++ (58 ∷ g)) ≡ g
  colon_port e = part_is 58 1 (d ++ (58 ∷ g)) ∙ rw (behind_all is_digit 58 refl d (58 ∷ g) digits, number_alone g e)

-- digits without a colon, and digits with another byte behind them
digits_no : (d : List ℕ) → all is_digit d ≡ true → is_address d ≡ false
digits_no d e = rw (address_is d, rw append-nil at (count_all is_digit 58 refl d [] e))

broken_no : (d : List ℕ) (b : ℕ) (g : List ℕ) → all is_digit d ≡ true → is_digit b ≡ false → eqb b 58 ≡ false → is_address (d ++ (b ∷ g)) ≡ false
unfolding is_number
broken_no d b g digits e f =
    rw (address_is (d ++ (b ∷ g)), up_to_all is_digit 58 refl d (b ∷ g) digits, f, all_broken is_digit d b (up_to 58 g) e, and_false)

module _ (s : List ℕ) (at : ℕ) where
  abbrev d : List ℕ
  d = run (drop at s)

  abbrev address_of : List ℕ → Option (Place × ℕ)
  address_of f = cond (is_address f) (Some (place_of (counts (part 58 0 f)) (counts (part 58 1 f)), at + length f)) None

  some_digits : (x : List ℕ) → drop (length d) (drop at s) ≡ x → 1 ≤ length d
      → module_read s (part_of (Value (counts d) (at + length d))) ≡ address_of (field_at s at)
  some_digits [] e some =
      let digits : all is_digit d ≡ true = leading_passes is_digit (drop at s) in
      let f : field_at s at ≡ d =
      ap (up_to 44) (leading_split is_digit (drop at s)) ∙ rw e (up_to_all is_digit 44 refl d [] digits ∙ append-nil d) in
      let end : length s ≤ at + length d = stands_end s (at + length d) (sym (drop-drop (length d) at s) ∙ e) in
      rw (f, digits_no d digits, le-leb (length s) (at + length d) end)
  some_digits (b ∷ y) e some =
      let split : drop at s ≡ d ++ (b ∷ y) = rw e at (leading_split is_digit (drop at s)) in
      let here : drop (at + length d) s ≡ b ∷ y = sym (drop-drop (length d) at s) ∙ e in
      let digits : all is_digit d ≡ true = leading_passes is_digit (drop at s) in
      let front : field_at s at ≡ d ++ up_to 44 (b ∷ y) = ap (up_to 44) split ∙ up_to_all is_digit 44 refl d (b ∷ y) digits in
      let below = lt-leb (length s) (at + length d) (stands_below s (at + length d) b y here) in
      let byte = stands_at s (at + length d) b y 0 here in
      by_test (eqb b 44)
      (λ f.
      let plain : field_at s at ≡ d = front ∙ rw f (append-nil d) in
      rw (below, byte, plain, digits_no d digits, ne_eqb b 58 (λ z. absurd (omega (arith, eqb-true b 44 f, z)))))
      (λ f. by_test (eqb b 58)
      (λ g.
      let g_is : field_at s at ≡ d ++ (58 ∷ up_to 44 y) =
      front ∙ rw f (ap (λ (x : ℕ). d ++ (x ∷ up_to 44 y)) (eqb-true b 58 g)) in
      let there : drop (at + length d + 1) s ≡ y = stands_behind s (at + length d) (b ∷ []) y here in
      rw (below, byte, g, port_at_law s (at + length d + 1) (counts d), there, g_is, colon_address d (up_to 44 y) digits some)
      (by_test (is_number (up_to 44 y))
      (λ n. rw (n, colon_module d (up_to 44 y) digits some, colon_port d (up_to 44 y) digits some n)
      (ap (λ (n : ℕ). Some (place_of (counts d) (counts (up_to 44 y)), n)) (omega (arith, length-append d (58 ∷ up_to 44 y)))))
      (λ n. rw n)))
      (λ g. rw (below, byte, g, front, f, broken_no d b (up_to 44 y) digits (leading_end is_digit (drop at s) e) g)))

  address_at_law : address_at s at ≡ address_of (field_at s at)
  unfolding address_at part_at number_at number_of
  address_at_law =
      by_test (eqb (length d) 0)
      (λ e. rw (e, address_is (field_at s at), no_number (drop at s) (none_is d (eqb-true (length d) 0 e)), and_false))
      (λ e. rw e
      (let some = some_digits (drop (length d) (drop at s)) refl (omega (arith, eqb-false (length d) 0 e)) in
      by_test (leb (length d) 6)
      (λ f. rw (le-ltb 6 (length d) (leb-true (length d) 6 f)) (rw f at some))
      (λ f. rw (lt-ltb 6 (length d) (leb-false (length d) 6 f)) (rw f at some))))

  -- ---- a mode
  mode_at_law : mode_at s at ≡ cond (is_mode (field_at s at)) (Some (mode_in (field_at s at), at + length (field_at s at))) None
  unfolding mode_at is_mode mode_in
  mode_at_law =
      let f = field_at s at in
      rw (
        word_is (bytes "IR") (drop at s) refl,
        word_is (bytes "SENSOR") (drop at s) refl,
        word_is (bytes "IR_BLASTER") (drop at s) refl,
        word_is (bytes "LED_LIGHTING") (drop at s) refl,
      )
      (by_test (same (bytes "IR") f) (λ e. rw (← same_is (bytes "IR") f e)) λ e. rw e
      (by_test (same (bytes "SENSOR") f) (λ g. rw (← same_is (bytes "SENSOR") f g)) λ g. rw g
      (by_test (same (bytes "IR_BLASTER") f) (λ h. rw (← same_is (bytes "IR_BLASTER") f h)) λ h. rw h
      (by_test (same (bytes "LED_LIGHTING") f) (λ l. rw (← same_is (bytes "LED_LIGHTING") f l)) (λ l. rw l)))))

-- ---- behind k commas
pub record Cursor (s : List ℕ) (k at : ℕ) : Type 0 where
  pub stands : drop at s ≡ behind 44 k s

pub start : (s : List ℕ) → Cursor s 0 0
start s = record { stands = refl }

module _ {s : List ℕ} {k at : ℕ} (c : Cursor s k at) where
  -- the field there is the k-th
  pub field_is_law : field_at s at ≡ part 44 k s
  field_is_law = ap (up_to 44) c.stands ∙ sym (part_is 44 k s)

  pub next : Cursor s (suc k) (after_comma s (at + length (part 44 k s)))
  next =
      record {
        stands = ap (λ (f : List ℕ). drop (after_comma s (at + length f)) s) (sym field_is_law) ∙ next_at s at ∙ ap (behind 44 1) c.stands
            ∙ behind_next 44 k s;
      }

  -- something stands behind it where there are more fields
  pub over : ltb (at + length (part 44 k s)) (length s) ≡ ltb (suc k) (length (cut 44 s))
  over =
      ap (λ (f : List ℕ). ltb (at + length f) (length s)) (sym field_is_law) ∙ over_at s at
      ∙ rw (c.stands, count_behind 44 k s, parts_are 44 s)
      (by_test (ltb (suc k) (suc (count 44 s)))
      (λ e. rw e (lt-ltb 0 (count 44 s - k) (omega (arith, ltb-true (suc k) (suc (count 44 s)) e))))
      (λ e. rw e (le-ltb 0 (count 44 s - k) (omega (arith, ltb-false (suc k) (suc (count 44 s)) e)))))

  pub within_is : (least most : ℕ)
      → field_within least most s at ≡ cond (within least most (part 44 k s)) (Some (worth 0 (part 44 k s), at + length (part 44 k s))) None
  within_is least most = within_at s at least most ∙ rw field_is_law

  pub address_is_at : address_at s at
      ≡ cond (is_address (part 44 k s))
      (Some (place_of (counts (part 58 0 (part 44 k s))) (counts (part 58 1 (part 44 k s))), at + length (part 44 k s))) None
  address_is_at = address_at_law s at ∙ rw field_is_law

  pub mode_is : mode_at s at ≡ cond (is_mode (part 44 k s)) (Some (mode_in (part 44 k s), at + length (part 44 k s))) None
  mode_is = mode_at_law s at ∙ rw field_is_law
