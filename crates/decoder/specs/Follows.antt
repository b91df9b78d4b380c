-- Reading one part of a code after another: what the functions say that read a part.
use Rattle.std.specs.Prelude.{ℕ, zero, suc, ◌+◌, ◌-◌, ◌*◌, ◌≤◌, ◌<◌, ◌≡◌, Bool, false, cond, List, [], ◌∷◌, ◌++◌, ltb, length, get_or}
use Rattle.std.proofs.lemmas.List.Edits.{sets}
use Rattle.words.specs.declared.Pair.{Pair}
use Rattle.words.specs.Pairs.{pair, counts_of}
use Rattle.code.specs.declared.next.After.{After}
use Rattle.code.specs.Letters.{letters_of}
use Rattle.code.specs.Next.{is_letter}
use Rattle.code.specs.Read.{read_from}

-- behind count pairs, of which some have the letters t, reading goes from the place at to the place to: it finds more pairs, stores their
-- counts behind those that stand in memory and leaves the letters t', and what is left gives the same reading
pub record Follows (freq : ℕ) (s : List ℕ) (t t' : List Pair) (counts counts' : List ℕ) (count at far to : ℕ) (after behind : After) : Type 0 where
  pub more : List Pair
  pub counted : far ≡ count + length more
  pub room : count ≤ 260 → far ≤ 260
  pub size : count < far → length counts ≡ 520
  pub letters : t' ≡ letters_of t more
  pub stored : counts' ≡ sets counts (2 * count) (counts_of more)
  pub same : (ps : List Pair) → length ps ≡ count
      → read_from (261 - count) freq s ps t after at ≡ read_from (261 - far) freq s (ps ++ more) t' behind to

-- n pairs whose counts stand in memory, from the pair i on
abbrev pub pairs_at : List ℕ → ℕ → ℕ → List Pair
pairs_at counts i zero = []
pairs_at counts i (suc n) = pair (get_or counts (2 * i) 0) (get_or counts (2 * i + 1) 0) ∷ pairs_at counts (suc i) n

-- a letter stands at a place, and some of count pairs are not learnt yet
unfoldable pub lags : List ℕ → ℕ → ℕ → ℕ → Bool
lags s at seen count = cond (is_letter (get_or s at 0)) (ltb seen count) false
