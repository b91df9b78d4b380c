-- What document 01 says of the pairs of a code: "1 to 260 pairs", each count legal for the frequency. That every code which is accepted is such
-- a one is the theorem `accepted` of proofs/Accepted.antt.
use Rattle.std.specs.Prelude.{ℕ, ◌≤◌, ◌≡◌, true, List, length}
use Rattle.laws.specs.Lists.{all}
use Rattle.words.specs.declared.Pair.{Pair}
use Rattle.code.specs.Limits.{legal_pair}

pub record Accepted (freq : ℕ) (ps : List Pair) : Type 0 where
  pub some : 1 ≤ length ps
  pub most : length ps ≤ 260
  pub allowed : all (legal_pair freq) ps ≡ true
