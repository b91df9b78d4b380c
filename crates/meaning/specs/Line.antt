-- Text in, text out: the fields of a line, the text of a reply, and a code read byte by byte. A text is a list of bytes; a comma is 44, a colon 58.
use Rattle.std.specs.Prelude.{ℕ, ◌-◌, ◌*◌, Bool, cond, not, ◌&&◌, List, [], ◌∷◌, ◌++◌, ltb, leb, eqb, length, take, get_or}
use Prim.Native.String.{String}
use Rattle.std.proofs.Math.Option.{Option, none, some}
use Rattle.laws.specs.Bytes.{bytes}
use Rattle.laws.specs.Checks.{◌⇒◌, first, between}
use Rattle.laws.specs.Lists.{all, same, cut, part}
use Rattle.words.specs.Digits.{is_digit, worth}
use Rattle.words.specs.Decimal.{decimal}
use Rattle.words.specs.Pairs.{pair, distinct}
use Rattle.words.specs.declared.Pair.{Pair}

-- "Names are case sensitive."
abbrev pub is : String → List ℕ → Bool
is word f = same (bytes word) f

-- "A number is a run of decimal digits; leading zeros count for nothing. A run of over 6 digits, zeros included, is out of range."
unfoldable pub is_number : List ℕ → Bool
is_number f = all is_digit f && ltb 0 (length f)

abbrev pub number : List ℕ → ℕ
number f = worth 0 f

unfoldable pub within : ℕ → ℕ → List ℕ → Bool
within least most f = is_number f && leb (length f) 6 && between least most (number f)

-- "digits, colon, digits": m:p
unfoldable pub is_address : List ℕ → Bool
is_address f = eqb (length (cut 58 f)) 2 && is_number (part 58 0 f) && is_number (part 58 1 f)

-- ---- replies: "A reply ends with CR; its address and id have no leading zeros."

-- a word and m:p; the same, a comma, what comes last and CR
abbrev pub addressed : String → ℕ → ℕ → List ℕ
addressed word m p = bytes word ++ decimal m ++ bytes ":" ++ decimal p

abbrev pub line : String → ℕ → ℕ → List ℕ → List ℕ
line word m p last = addressed word m p ++ (bytes "," ++ last ++ bytes "\r")

-- ---- a code: "Faults, the first from the left, a number being judged at its end, a letter being any of A to Z"

-- "Each count is 4 to 50000 and lasts at least 80 µs: 12,500 × count is at least freq."
unfoldable pub is_count : ℕ → List ℕ → Bool
is_count freq ds = within 4 50000 ds && leb freq (12500 * number ds)

abbrev pub is_letter : ℕ → Bool
is_letter b = between 65 90 b

-- "going through the expanded pairs in order, the first 15 distinct pairs get A to O as each first occurs"
abbrev pub lettered : List Pair → List Pair
lettered ps = take 15 (distinct ps)

-- how far the text is read: where a pair may begin, at first or behind a letter; in an on count, with its digits; where the off count is due;
-- in the off count; behind the comma that follows a spelled pair
pub data Reach : Type 0 where
  opening : Reach
  on : List ℕ → Reach
  off_due : ℕ → Reach
  off : ℕ → List ℕ → Reach
  spelling : Reach

-- what the next byte gives: a fault, or the pairs read by then and how far the text is read
pub data Stride : Type 0 where
  stop : ℕ → Stride
  go : List Pair → Reach → Stride

-- 020 "the 261st pair is begun by a digit, or by a letter ..., ahead of any judging of that letter"; 022 "a letter without a pair"
abbrev pub lettering : List Pair → ℕ → Stride
lettering ps b = first ((leb 260 (length ps) ⇒ stop 20) ∷ (not (ltb (b - 65) (length (lettered ps))) ⇒ stop 22) ∷ [])
    (go (ps ++ (get_or (lettered ps) (b - 65) (pair 0 0) ∷ [])) opening)

abbrev pub beginning : List Pair → ℕ → Stride
beginning ps b = first ((not (is_digit b) ⇒ stop 9) ∷ (leb 260 (length ps) ⇒ stop 20) ∷ []) (go ps (on (b ∷ [])))

-- the next byte: 021 "a letter where an off count is due or where an on count has just ended", 009 "all else"
abbrev pub stride : ℕ → List Pair → Reach → ℕ → Stride
stride freq ps opening b = cond (is_letter b) (lettering ps b) (beginning ps b)
stride freq ps (on ds) b = first
    ((is_digit b ⇒ go ps (on (ds ++ (b ∷ []))))
    ∷ (not (is_count freq ds) ⇒ stop 9)
    ∷ (is_letter b ⇒ stop 21)
    ∷ (eqb b 44 ⇒ go ps (off_due (number ds)))
    ∷ []) (stop 9)
stride freq ps (off_due n) b = first ((is_letter b ⇒ stop 21) ∷ (is_digit b ⇒ go ps (off n (b ∷ []))) ∷ []) (stop 9)
stride freq ps (off n ds) b =
    let qs = ps ++ (pair n (number ds) ∷ []) in
    first ((is_digit b ⇒ go ps (off n (ds ++ (b ∷ [])))) ∷ (not (is_count freq ds) ⇒ stop 9) ∷ (is_letter b ⇒ lettering qs b) ∷ (eqb b 44 ⇒ go qs spelling) ∷ [])
    (stop 9)
stride freq ps spelling b = beginning ps b

-- a code that was read: its fault, if it has one, and its pairs, if not
pub record Reading : Type 0 where
  pub fault : Option ℕ
  pub pairs : List Pair

abbrev pub faulty : ℕ → Reading
faulty n = record { fault = some n; pairs = [] }

abbrev pub sound : List Pair → Reading
sound ps = record { fault = none; pairs = ps }

-- the line ends: 010 "just after an on count", 009 "such as an empty code or number"
abbrev pub ended : ℕ → List Pair → Reach → Reading
ended freq ps opening = cond (eqb (length ps) 0) (faulty 9) (sound ps)
ended freq ps (on ds) = cond (is_count freq ds) (faulty 10) (faulty 9)
ended freq ps (off_due n) = faulty 9
ended freq ps (off n ds) = cond (is_count freq ds) (sound (ps ++ (pair n (number ds) ∷ []))) (faulty 9)
ended freq ps spelling = faulty 9

abbrev pub after : Stride → (List Pair → Reach → Reading) → Reading
after (stop n) reads = faulty n
after (go ps reach) reads = reads ps reach

abbrev pub reads : ℕ → List Pair → Reach → List ℕ → Reading
reads freq ps reach [] = ended freq ps reach
reads freq ps reach (b ∷ s) = after (stride freq ps reach b) (λ qs q. reads freq qs q s)

unfoldable pub code_in : ℕ → List ℕ → Reading
code_in freq text = reads freq [] opening text
