-- One pair of a code's text. Document 01: "A letter stands for its pair, with no comma on either side. Two spelled pairs
-- have one comma between them." and "Faults, the first from the left, a number being judged at its end".
use Rattle.std.specs.Prelude.{ℕ, ◌+◌, ◌-◌, List, [], ◌∷◌, Bool, false, cond, length, get_or, ltb, leb, eqb, Option, Some, None, Result, Ok, Err}
use Rattle.laws.specs.Checks.{◌⇒◌, first}
use Rattle.words.specs.Digits.{is_digit}
use Rattle.text.specs.Number.{number_at}
use Rattle.text.specs.declared.number.Number.{Number}
use Rattle.text.specs.declared.number.Number.TheVariants.{Missing, TooLong, Value}
use Rattle.code.specs.declared.next.Next.{Next}
use Rattle.code.specs.declared.next.Next.TheVariants.{End, Spelled, Letter}
use Rattle.code.specs.declared.next.After.{After}
use Rattle.code.specs.declared.next.After.TheVariants.{Nothing, Spelling, Lettering}
use Rattle.words.specs.Pairs.{pair}
use Rattle.code.specs.Limits.{legal}

-- "a letter being any of A to Z"
unfoldable pub is_letter : ℕ → Bool
is_letter b = cond (ltb b 65) false (leb b 90)

-- a number that is a legal count, and the place behind it
abbrev pub judged : ℕ → Number → Option (ℕ × ℕ)
judged freq Missing = None
judged freq (TooLong next) = None
judged freq (Value v next) = cond (legal freq v) (Some (v, next)) None

unfoldable pub count_at : ℕ → List ℕ → ℕ → Option (ℕ × ℕ)
count_at freq s at = judged freq (number_at s at)

-- the off count: 021 "a letter where an off count is due", 009 a count out of limits or an empty number
abbrev pub paired : ℕ → Option (ℕ × ℕ) → Result Next ℕ
paired on None = Err 9
paired on (Some (off, next)) = Ok (Spelled (pair on off) next)

unfoldable pub off_at : ℕ → ℕ → List ℕ → ℕ → Result Next ℕ
off_at freq on s at = cond (is_letter (get_or s at 0)) (Err 21) (paired on (count_at freq s at))

-- behind an on count: 010 "the line ends just after an on count", 021 a letter "where an on count has just ended"
unfoldable pub after_on : ℕ → ℕ → List ℕ → ℕ → Result Next ℕ
after_on freq on s at = first
    ((leb (length s) at ⇒ Err 10)
    ∷ (is_letter (get_or s at 0) ⇒ Err 21)
    ∷ (eqb (get_or s at 0) 44 ⇒ off_at freq on s (at + 1))
    ∷ []) (Err 9)

-- "1 to 260 pairs"
abbrev pub is_full : ℕ → Bool
is_full pairs = leb 260 pairs

-- a pair that a digit begins: 020 "the 261st pair is begun by a digit"
abbrev pub counted : ℕ → List ℕ → Option (ℕ × ℕ) → Result Next ℕ
counted freq s None = Err 9
counted freq s (Some (on, next)) = after_on freq on s next

unfoldable pub spelled_at : ℕ → ℕ → List ℕ → ℕ → Result Next ℕ
spelled_at freq pairs s at = cond (is_full pairs) (Err 20) (counted freq s (count_at freq s at))

-- a pair that a letter begins: 020 "or by a letter without a comma before it, ahead of any judging of that letter",
-- 022 "a letter without a pair where a pair may begin"
unfoldable pub letter_at : ℕ → ℕ → ℕ → ℕ → Result Next ℕ
letter_at pairs letters b next = first
    ((is_full pairs ⇒ Err 20)
    ∷ (ltb (b - 65) letters ⇒ Ok (Letter (b - 65) next))
    ∷ []) (Err 22)

-- where a pair must be spelled: 009 all but a digit, "or any letter straight after the comma that follows a pair"
unfoldable pub begun_at : ℕ → ℕ → List ℕ → ℕ → Result Next ℕ
begun_at freq pairs s at = cond (is_digit (get_or s at 0)) (spelled_at freq pairs s at) (Err 9)

-- where no letter stands: behind a spelled pair a comma is due; 009 "a comma after a letter"
abbrev pub begins : ℕ → ℕ → After → List ℕ → ℕ → Result Next ℕ
begins freq pairs Nothing s at = begun_at freq pairs s at
begins freq pairs Spelling s at = cond (eqb (get_or s at 0) 44) (begun_at freq pairs s (at + 1)) (Err 9)
begins freq pairs Lettering s at = begun_at freq pairs s at

-- 009 "an empty code"
abbrev pub at_end : After → Result Next ℕ
at_end Nothing = Err 9
at_end Spelling = Ok End
at_end Lettering = Ok End

unfoldable pub next_pair : ℕ → ℕ → ℕ → After → List ℕ → ℕ → Result Next ℕ
next_pair freq pairs letters after s at = first
    ((leb (length s) at ⇒ at_end after)
    ∷ (is_letter (get_or s at 0) ⇒ letter_at pairs letters (get_or s at 0) (at + 1))
    ∷ []) (begins freq pairs after s at)
