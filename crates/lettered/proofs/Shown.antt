-- What the reader reads stands in the text: the digits of a spelled pair, or a letter.
use Prim.Native.Nat.{ℕ, ◌+◌, ◌-◌, ◌≤◌}
use mathlib.Core.Path.{◌≡◌, refl, sym, ap, ◌∙◌}
use mathlib.Core.Bool.{true, false}
use mathlib.Core.List.{List, [], ◌∷◌, ◌++◌, append_assoc}
use native.Mathlib.Omega.{arith}
use borrow.Author.Tests.{ltb-false, leb-true, leb-false, eqb-true, eqb-false}
use lib.Dec.{ltb, leb, eqb}
use Rattle.std.specs.Prelude.{Option, Some, None, Result, Ok, Err}
use lib.ListN.{length, drop, get_or, length-append, drop_of_length-le}
use lib.Seq.{drop-drop}
use Rattle.laws.specs.Lists.{all}
use Rattle.laws.proofs.Choice.{cond_case}
use Rattle.laws.proofs.Lists.{drop_next}
use Rattle.words.specs.Digits.{is_digit, worth, Spells}
use Rattle.text.specs.Number.{run, number_of, number_at}
use Rattle.text.specs.declared.number.Number.{Number}
use Rattle.text.specs.declared.number.Number.TheVariants.{Missing, TooLong, Value}
use Rattle.code.specs.declared.next.Next.{Next}
use Rattle.code.specs.declared.next.Next.TheVariants.{End, Spelled, Letter}
use Rattle.code.specs.declared.next.After.{After}
use Rattle.code.specs.declared.next.After.TheVariants.{Nothing, Spelling, Lettering}
use Rattle.code.specs.Limits.{legal}
use Rattle.code.specs.Next.{is_letter, judged, count_at, paired, off_at, after_on, counted, spelled_at, letter_at, begun_at, begins, at_end, next_pair}
use Rattle.code.proofs.Nexts.{letter_low}
use Rattle.lettered.specs.Lettered.{spelled, item_text}
use Rattle.lettered.proofs.Written.{front}

-- ---- the digits that a text begins with
run_digits : (l : List ℕ) → all is_digit (run l) ≡ true
run_digits [] = refl
run_digits (b ∷ l) =
    cond_case (λ (x : List ℕ). all is_digit x ≡ true) (is_digit b) (b ∷ run l) [] (λ e. rw e (run_digits l)) (λ e. refl)

run_rest : (l : List ℕ) → l ≡ run l ++ drop (length (run l)) l
run_rest [] = refl
run_rest (b ∷ l) =
    cond_case (λ (x : List ℕ). b ∷ l ≡ x ++ drop (length x) (b ∷ l)) (is_digit b) (b ∷ run l) []
    (λ e. ap (λ (x : List ℕ). b ∷ x) (run_rest l)) (λ e. refl)

-- ---- what stands at a place, up to another
pub record Digits (s : List ℕ) (at n next : ℕ) : Type 0 where
  pub digits : List ℕ
  pub spells : Spells digits n
  pub text : drop at s ≡ digits ++ drop next s
  pub place : next ≡ at + length digits

pub record Spelt (after : After) (s : List ℕ) (at on off next : ℕ) : Type 0 where
  pub first : List ℕ
  pub second : List ℕ
  pub on_is : Spells first on
  pub off_is : Spells second off
  pub text : drop at s ≡ front after (spelled first second) ++ item_text (spelled first second) ++ drop next s
  pub place : next ≡ at + length (front after (spelled first second) ++ item_text (spelled first second))

abbrev pub Shown : After → List ℕ → ℕ → Result Next ℕ → Type 0
Shown after s at (Ok End) = drop at s ≡ []
Shown after s at (Ok (Spelled p next)) = Spelt after s at p.on p.off next
Shown after s at (Ok (Letter i next)) = (drop at s ≡ (65 + i) ∷ drop next s) × (next ≡ at + 1)
Shown after s at (Err number) = Unit {0}

-- where a pair must be spelled
abbrev ShownPair : List ℕ → ℕ → Result Next ℕ → Type 0
ShownPair s at (Ok End) = ⊥
ShownPair s at (Ok (Spelled p next)) = Spelt Nothing s at p.on p.off next
ShownPair s at (Ok (Letter i next)) = ⊥
ShownPair s at (Err number) = Unit {0}

abbrev ShownCount : List ℕ → ℕ → Option (ℕ × ℕ) → Type 0
ShownCount s at None = Unit {0}
ShownCount s at (Some (v, next)) = Digits s at v next

module _ (freq : ℕ) (s : List ℕ) where
  count_shown : (at : ℕ) → ShownCount s at (count_at freq s at)
  unfolding count_at number_at number_of
  count_shown at =
      let ds = run (drop at s) in
      let next = at + length ds in
      let P : Number → Type 0 = λ x. ShownCount s at (judged freq x) in
      cond_case P (eqb (length ds) 0) Missing _ (λ e. tt)
      (λ e. cond_case P (ltb 6 (length ds)) (TooLong next) (Value (worth 0 ds) next) (λ m. tt)
      (λ m. cond_case (ShownCount s at) (legal freq (worth 0 ds)) (Some (worth 0 ds, next)) None
      (λ l.
      let ne : length ds ≡ 0 → ⊥ = eqb-false (length ds) 0 e in
      record {
        digits = ds;
        spells = record { some = omega arith; few = ltb-false 6 (length ds) m; decimal = run_digits (drop at s); value = refl };
        text = run_rest (drop at s) ∙ ap (λ (x : List ℕ). ds ++ x) (drop-drop (length ds) at s);
        place = refl;
      })
      (λ l. tt)))

  comma_shown : (at : ℕ) → leb (length s) at ≡ false → eqb (get_or s at 0) 44 ≡ true → drop at s ≡ 44 ∷ drop (at + 1) s
  comma_shown at e g =
      drop_next s at 0 (leb-false (length s) at e) ∙ ap (λ (b : ℕ). b ∷ drop (at + 1) s) (eqb-true (get_or s at 0) 44 g)

  -- behind the on count
  off_shown : {at on next : ℕ} → Digits s at on next → drop next s ≡ 44 ∷ drop (next + 1) s
      → ShownPair s at (off_at freq on s (next + 1))
  unfolding off_at
  off_shown {at} {on} {next} d c =
      cond_case (ShownPair s at) (is_letter (get_or s (next + 1) 0)) _ _ (λ e. tt)
      (λ e. go (count_at freq s (next + 1)) (count_shown (next + 1)))
    where
      go : (x : Option (ℕ × ℕ)) → ShownCount s (next + 1) x → ShownPair s at (paired on x)
      go None k = tt
      go (Some (v, last)) k =
          record {
            first = d.digits;
            second = k.digits;
            on_is = d.spells;
            off_is = k.spells;
            text = rw (d.text, c, k.text) (simp append_assoc);
            place = simp length-append (omega (arith, d.place, k.place));
          }

  after_shown : {at on next : ℕ} → Digits s at on next → ShownPair s at (after_on freq on s next)
  unfolding after_on
  after_shown {at} {on} {next} d =
      cond_case (ShownPair s at) (leb (length s) next) _ _ (λ e. tt)
      (λ e. cond_case (ShownPair s at) (is_letter (get_or s next 0)) _ _ (λ f. tt)
      (λ f. cond_case (ShownPair s at) (eqb (get_or s next 0) 44) _ _
      (λ g. off_shown d (comma_shown next e g))
      (λ g. tt)))

  begun_shown : (n at : ℕ) → ShownPair s at (begun_at freq n s at)
  unfolding begun_at spelled_at
  begun_shown n at =
      cond_case (ShownPair s at) (is_digit (get_or s at 0)) _ _
      (λ e. cond_case (ShownPair s at) (leb 260 n) _ _ (λ f. tt) (λ f. go (count_at freq s at) (count_shown at)))
      (λ e. tt)
    where
      go : (x : Option (ℕ × ℕ)) → ShownCount s at x → ShownPair s at (counted freq s x)
      go None k = tt
      go (Some (v, next)) k = after_shown k

  -- a pair that is spelled behind what stands in front of it
  fronted : (after : After) (at from : ℕ) → ((on off : List ℕ) → drop at s ≡ front after (spelled on off) ++ drop from s)
      → ((on off : List ℕ) → from ≡ at + length (front after (spelled on off))) → (x : Result Next ℕ) → ShownPair s from x → Shown after s at x
  fronted after at from e f (Ok End) k = absurd k
  fronted after at from e f (Ok (Spelled p next)) k =
      record {
        first = k.first;
        second = k.second;
        on_is = k.on_is;
        off_is = k.off_is;
        text =
            e k.first k.second ∙ ap (λ (l : List ℕ). front after (spelled k.first k.second) ++ l) k.text
            ∙ sym (append_assoc (front after (spelled k.first k.second)) _ (drop next s));
        place =
            rw (length-append (front after (spelled k.first k.second)) (item_text (spelled k.first k.second)))
            (omega (arith, k.place, f k.first k.second));
      }
  fronted after at from e f (Ok (Letter i next)) k = absurd k
  fronted after at from e f (Err number) k = tt

  begins_shown : (n at : ℕ) (after : After) → leb (length s) at ≡ false → Shown after s at (begins freq n after s at)
  begins_shown n at Nothing h = fronted Nothing at at (λ on off. refl) (λ on off. omega arith) (begun_at freq n s at) (begun_shown n at)
  begins_shown n at Spelling h =
      cond_case (Shown Spelling s at) (eqb (get_or s at 0) 44) _ _
      (λ e. fronted Spelling at (at + 1) (λ on off. comma_shown at h e) (λ on off. refl) (begun_at freq n s (at + 1)) (begun_shown n (at + 1))) (λ e. tt)
  begins_shown n at Lettering h = fronted Lettering at at (λ on off. refl) (λ on off. omega arith) (begun_at freq n s at) (begun_shown n at)

  letter_shown : (n m at : ℕ) (after : After) → leb (length s) at ≡ false → is_letter (get_or s at 0) ≡ true
      → Shown after s at (letter_at n m (get_or s at 0) (at + 1))
  unfolding letter_at
  letter_shown n m at after h l =
      let b : get_or s at 0 ≡ 65 + (get_or s at 0 - 65) = omega (arith, letter_low l) in
      cond_case (Shown after s at) (leb 260 n) _ _ (λ e. tt)
      (λ e. cond_case (Shown after s at) (ltb (get_or s at 0 - 65) m) _ _
      (λ f. (drop_next s at 0 (leb-false (length s) at h) ∙ ap (λ (b : ℕ). b ∷ drop (at + 1) s) b, refl)) (λ f. tt))

  end_shown : (at : ℕ) (after : After) → length s ≤ at → Shown after s at (at_end after)
  end_shown at Nothing h = tt
  end_shown at Spelling h = drop_of_length-le s h
  end_shown at Lettering h = drop_of_length-le s h

  pub next_shown : (n m : ℕ) (after : After) (at : ℕ) → Shown after s at (next_pair freq n m after s at)
  unfolding next_pair
  next_shown n m after at =
      cond_case (Shown after s at) (leb (length s) at) _ _ (λ e. end_shown at after (leb-true (length s) at e))
      (λ e. cond_case (Shown after s at) (is_letter (get_or s at 0)) _ _ (λ f. letter_shown n m at after e f) (λ f. begins_shown n at after e))
