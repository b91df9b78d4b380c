-- The lines of a stream, with no assembler: the stream is cut at its CRs, and what stands behind the last CR is no line yet. Document
-- 01: "however the stream is cut, the lines are the same, an overlong one handed on at its CR to be answered 015".
use Rattle.std.specs.Prelude.{ℕ, Bool, cond, not, List, [], ◌∷◌, ◌++◌, map, eqb, leb, length}

-- a stream cut at its CRs: the parts that they end, and what stands behind the last
pub record Divided : Type 0 where
  pub parts : List (List ℕ)
  pub rest : List ℕ

abbrev pub with_part : List ℕ → Divided → Divided
with_part part d = record { parts = part ∷ d.parts; rest = d.rest }

-- where the first part has begun already
abbrev pub divided : List ℕ → List ℕ → Divided
divided begun [] = record { parts = []; rest = begun }
divided begun (b ∷ s) = cond (eqb b 13) (with_part begun (divided [] s)) (divided (begun ++ b ∷ []) s)

pub data Line : Type 0 where
  whole : List ℕ → Line
  overlong : Line

-- 015 "more than 4,096 bytes before CR; the line is dropped"
unfoldable pub line_of : List ℕ → Line
line_of part = cond (leb (length part) 4096) (whole part) overlong

abbrev pub lines_of : List ℕ → List Line
lines_of stream = map line_of (divided [] stream).parts

-- ---- to say the same by what a stream is made of

-- a byte that is no CR
abbrev pub no_cr : ℕ → Bool
no_cr b = not (eqb b 13)

-- parts with a CR behind each, and then a rest
abbrev pub stream_of : List (List ℕ) → List ℕ → List ℕ
stream_of [] rest = rest
stream_of (p ∷ ps) rest = p ++ 13 ∷ stream_of ps rest
