-- Laws of what stands next: there is room for a pair that is read, and a letter that is read has one.
use Prim.Native.Nat.{ℕ, ◌+◌, ◌-◌, ◌≤◌, ◌<◌}
use mathlib.Core.Path.{◌≡◌}
use mathlib.Core.Bool.{true, false}
use mathlib.Core.List.{List}
use lib.Dec.{ltb, leb, eqb}
use Rattle.std.specs.Prelude.{Option, Some, None, Result, Ok, Err}
use lib.ListN.{length, get_or}
use borrow.Author.Tests.{ltb-true, ltb-false, leb-true, leb-false}
use Rattle.laws.proofs.Choice.{and_true, cond_case, guard}
use Rattle.words.specs.Digits.{is_digit}
use Rattle.text.specs.Number.{number_at}
use Rattle.text.specs.declared.number.Number.{Number}
use Rattle.text.specs.declared.number.Number.TheVariants.{Missing, TooLong, Value}
use Rattle.code.specs.declared.next.Next.{Next}
use Rattle.code.specs.declared.next.Next.TheVariants.{End, Spelled, Letter}
use Rattle.code.specs.declared.next.After.{After}
use Rattle.code.specs.declared.next.After.TheVariants.{Nothing, Spelling, Lettering}
use Rattle.code.specs.Limits.{legal, legal_pair}
use Rattle.code.specs.Next.{is_letter, judged, count_at, paired, off_at, after_on, counted, spelled_at, letter_at, begun_at, begins, at_end, next_pair}

pub letter_low : {b : ℕ} → is_letter b ≡ true → 65 ≤ b
unfolding is_letter
letter_low {b} h = ltb-false b 65 (guard (ltb b 65) (leb b 90) h).0

pub letter_high : {b : ℕ} → is_letter b ≡ true → b ≤ 90
unfolding is_letter
letter_high {b} h = leb-true b 90 (guard (ltb b 65) (leb b 90) h).1

-- a code ends behind a pair
abbrev pub Ends : After → Type 0
Ends Nothing = ⊥
Ends Spelling = Unit {0}
Ends Lettering = Unit {0}

-- what is read stands within the limits: behind n pairs, where m letters have a pair
abbrev pub Sound : ℕ → ℕ → ℕ → After → Result Next ℕ → Type 0
Sound freq n m after (Ok End) = Ends after
Sound freq n m after (Ok (Spelled p at)) = (n < 260) × (legal_pair freq p ≡ true)
Sound freq n m after (Ok (Letter i at)) = (n < 260) × (i < m)
Sound freq n m after (Err number) = Unit {0}

abbrev SoundCount : ℕ → Option (ℕ × ℕ) → Type 0
SoundCount freq None = Unit {0}
SoundCount freq (Some (v, at)) = legal freq v ≡ true

module _ (freq n m : ℕ) (after : After) (s : List ℕ) where
  count_sound : (at : ℕ) → SoundCount freq (count_at freq s at)
  unfolding count_at
  count_sound at = go (number_at s at)
    where
      go : (x : Number) → SoundCount freq (judged freq x)
      go Missing = tt
      go (TooLong next) = tt
      go (Value v next) = cond_case (SoundCount freq) (legal freq v) (Some (v, next)) None (λ e. e) (λ e. tt)

  off_sound : (on at : ℕ) → n < 260 → legal freq on ≡ true → Sound freq n m after (off_at freq on s at)
  unfolding off_at
  off_sound on at h l =
      cond_case (Sound freq n m after) (is_letter (get_or s at 0)) _ _ (λ e. tt) (λ e. go (count_at freq s at) (count_sound at))
    where
      go : (x : Option (ℕ × ℕ)) → SoundCount freq x → Sound freq n m after (paired on x)
      go None k = tt
      go (Some (v, next)) k = (h, and_true _ _ l k)

  after_sound : (on at : ℕ) → n < 260 → legal freq on ≡ true → Sound freq n m after (after_on freq on s at)
  unfolding after_on
  after_sound on at h l =
      cond_case (Sound freq n m after) (leb (length s) at) _ _ (λ e. tt)
      (λ e. cond_case (Sound freq n m after) (is_letter (get_or s at 0)) _ _ (λ f. tt)
      (λ f. cond_case (Sound freq n m after) (eqb (get_or s at 0) 44) _ _ (λ g. off_sound on (at + 1) h l) (λ g. tt)))

  spelled_sound : (at : ℕ) → Sound freq n m after (spelled_at freq n s at)
  unfolding spelled_at
  spelled_sound at =
      cond_case (Sound freq n m after) (leb 260 n) _ _ (λ e. tt) (λ e. go (leb-false 260 n e) (count_at freq s at) (count_sound at))
    where
      go : n < 260 → (x : Option (ℕ × ℕ)) → SoundCount freq x → Sound freq n m after (counted freq s x)
      go h None k = tt
      go h (Some (v, next)) k = after_sound v next h k

  letter_sound : (b next : ℕ) → Sound freq n m after (letter_at n m b next)
  unfolding letter_at
  letter_sound b next =
      cond_case (Sound freq n m after) (leb 260 n) _ _ (λ e. tt)
      (λ e. cond_case (Sound freq n m after) (ltb (b - 65) m) _ _ (λ f. (leb-false 260 n e, ltb-true (b - 65) m f)) (λ f. tt))

  begun_sound : (at : ℕ) → Sound freq n m after (begun_at freq n s at)
  unfolding begun_at
  begun_sound at = cond_case (Sound freq n m after) (is_digit (get_or s at 0)) _ _ (λ e. spelled_sound at) (λ e. tt)

begins_sound : (freq n m : ℕ) (after : After) (s : List ℕ) (at : ℕ) → Sound freq n m after (begins freq n after s at)
begins_sound freq n m Nothing s at = begun_sound freq n m Nothing s at
begins_sound freq n m Spelling s at =
    cond_case (Sound freq n m Spelling) (eqb (get_or s at 0) 44) _ _ (λ e. begun_sound freq n m Spelling s (at + 1)) (λ e. tt)
begins_sound freq n m Lettering s at = begun_sound freq n m Lettering s at

end_sound : (freq n m : ℕ) (after : After) → Sound freq n m after (at_end after)
end_sound freq n m Nothing = tt
end_sound freq n m Spelling = tt
end_sound freq n m Lettering = tt

pub next_sound : (freq n m : ℕ) (after : After) (s : List ℕ) (at : ℕ) → Sound freq n m after (next_pair freq n m after s at)
unfolding next_pair
next_sound freq n m after s at =
    cond_case (Sound freq n m after) (leb (length s) at) _ _ (λ e. end_sound freq n m after)
    (λ e. cond_case (Sound freq n m after) (is_letter (get_or s at 0)) _ _
    (λ f. letter_sound freq n m after s (get_or s at 0) (at + 1)) (λ f. begins_sound freq n m after s at))

-- where no letter stands, it does not matter how many have a pair
pub next_unlettered : (freq n m m' : ℕ) (after : After) (s : List ℕ) (at : ℕ) → is_letter (get_or s at 0) ≡ false
    → next_pair freq n m after s at ≡ next_pair freq n m' after s at
unfolding next_pair
next_unlettered freq n m m' after s at e = rw e
