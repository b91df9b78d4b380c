-- What the pairs before a fault mean. Document 01: "A reader of the code's text hands out one pair at a time.", and of a
-- faulty code the fault is "the first from the left".
use Rattle.std.specs.Prelude.{ℕ, ◌+◌, ◌≡◌, List, [], ◌++◌, length, drop}
use Rattle.words.specs.declared.Pair.{Pair}
use Rattle.lettered.specs.Lettered.{Item, text_of, Expands}
use Rattle.reader.specs.declared.Progress.{Progress}
use Rattle.reader.specs.Hands.{Ending, HandsOut, ends, faults, gives}

-- the place where the reader stands when it meets the end or the fault
abbrev pub met_at : {s : List ℕ} {t : Progress} {at : ℕ} {ps : List Pair} {e : Ending} → HandsOut s t at ps e → ℕ
met_at {at = at} (ends p) = at
met_at {at = at} (faults p) = at
met_at (gives p r) = met_at r

-- the text from a place up to another is that of spelled pairs and letters which stand for the pairs ps
pub record Before (freq : ℕ) (s : List ℕ) (at : ℕ) (ps : List Pair) (to : ℕ) : Type 0 where
  pub items : List Item
  pub expands : Expands freq [] items ps
  pub written : drop at s ≡ text_of items ++ drop to s
  pub place : to ≡ at + length (text_of items)
