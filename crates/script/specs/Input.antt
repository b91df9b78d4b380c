-- A line of the script, without its LF. Document 01: "The bench program reads standard input: `c request` (one line, as it stands), `r p v` a
-- reading, `x c` a closing, `w n` a wait, each ended by LF, numbers of 1 to 10 digits." "a line of another form is `!`."
use Rattle.std.specs.Prelude.{ℕ, suc, Bool, cond, not, ◌&&◌, Option, Some, None, List, [], ◌∷◌, eqb, length}
use Rattle.laws.specs.Bytes.{bytes}
use Rattle.laws.specs.Checks.{◌⇒◌, first, between}
use Rattle.laws.specs.Lists.{all, same, part, behind, free}
use Rattle.words.specs.Digits.{is_digit, worth}
use Rattle.script.specs.declared.input.Input.{Input}
use Rattle.script.specs.declared.input.Input.TheVariants.{Other, Line, Reading, Closing, Waiting}

-- "numbers of 1 to 10 digits"
unfoldable pub is_number : List ℕ → Bool
is_number w = between 1 10 (length w) && all is_digit w

-- the words of a line, with a space behind each but the last, and all that stands behind the first k of them
abbrev pub word : ℕ → List ℕ → List ℕ
word k s = part 32 k s

abbrev pub rest : ℕ → List ℕ → List ℕ
rest k s = behind 32 k s

-- what a line asks for; a request begins behind the first space
unfoldable pub input_of : List ℕ → Input
input_of s = first
    (((is_number (word 0 s) && not (free 32 s)) ⇒ Line (worth 0 (word 0 s)) (suc (length (word 0 s))))
    ∷ ((same (bytes "r") (word 0 s) && (is_number (word 1 s) && is_number (rest 2 s))) ⇒ Reading (worth 0 (word 1 s)) (worth 0 (rest 2 s)))
    ∷ ((same (bytes "x") (word 0 s) && is_number (rest 1 s)) ⇒ Closing (worth 0 (rest 1 s)))
    ∷ ((same (bytes "w") (word 0 s) && is_number (rest 1 s)) ⇒ Waiting (worth 0 (rest 1 s)))
    ∷ []) Other

-- ---- as the code reads it

-- the number that a word is
abbrev pub figures_of : List ℕ → Option ℕ
figures_of w = cond (is_number w) (Some (worth 0 w)) None

-- two numbers
abbrev pub reading_in : List ℕ → Input
reading_in s = cond (is_number (word 0 s) && is_number (rest 1 s)) (Reading (worth 0 (word 0 s)) (worth 0 (rest 1 s))) Other

-- a letter, and all behind the space that follows it
abbrev pub call_in : ℕ → List ℕ → Input
call_in letter s = first
    ((eqb letter 114 ⇒ reading_in s)
    ∷ ((eqb letter 120 && is_number s) ⇒ Closing (worth 0 s))
    ∷ ((eqb letter 119 && is_number s) ⇒ Waiting (worth 0 s))
    ∷ []) Other
