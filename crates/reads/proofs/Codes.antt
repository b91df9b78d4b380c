-- A code is accepted exactly where its text means pairs, and the table then has these.
use Prim.Native.Nat.{ℕ}
use mathlib.Core.Path.{◌≡◌, refl, sym, ap, ◌∙◌}
use mathlib.Core.List.{List}
use mathlib.Core.Option.{none, some-ne-none}
use Rattle.words.specs.declared.Pair.{Pair}
use Rattle.meaning.specs.Line.{sound, code_in}
use Rattle.code.specs.Read.{Reading, pairs, fault, read_code}
use Rattle.lettered.specs.Lettered.{Means}
use Rattle.lettered.proofs.Exactly.{means_read, read_means}
use Rattle.reads.specs.Readings.{reading_of}
use Rattle.reads.proofs.Bytewise.{code_bytewise}

module _ (freq : ℕ) (text : List ℕ) where
  -- a code without a fault means its pairs
  pub accepted_means : (code_in freq text).fault ≡ none → Means freq text (code_in freq text).pairs
  accepted_means e =
      rw (← code_bytewise freq text 0) (read_means text 0 (go (read_code freq text 0) (ap (λ r. r.fault) (code_bytewise freq text 0) ∙ e)))
    where
      go : (r : Reading) → (reading_of r).fault ≡ none → r ≡ pairs (reading_of r).pairs
      go (pairs ps) f = refl
      go (fault n found) f = absurd (some-ne-none n f)

  -- a code that means pairs has no fault, and these
  pub means_accepted : (ps : List Pair) → Means freq text ps → code_in freq text ≡ sound ps
  means_accepted ps m = sym (code_bytewise freq text 0) ∙ ap reading_of (means_read text 0 m)
