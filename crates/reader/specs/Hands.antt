-- Document 01: "A reader of the code's text hands out one pair at a time."
use Rattle.std.specs.Prelude.{ℕ, ◌+◌, ◌≡◌, List, [], ◌∷◌, get_or, Option, Some, None, Result, Ok, Err}
use Rattle.std.specs.Borrow.{Bor}
use Rattle.words.specs.declared.Pair.{Pair}
use Rattle.code.specs.declared.letters.Letters.{Letters}
use Rattle.code.specs.declared.next.Next.{Next}
use Rattle.code.specs.declared.next.Next.TheVariants.{End, Spelled, Letter}
use Rattle.code.specs.declared.next.After.{After}
use Rattle.code.specs.declared.next.After.TheVariants.{Nothing, Spelling, Lettering}
use Rattle.words.specs.Pairs.{pair}
use Rattle.code.specs.Letters.{no_letters, learnt_letters}
use Rattle.code.specs.Next.{next_pair}
use Rattle.code.specs.Read.{Reading, pairs, fault}
use Rattle.reader.specs.declared.CodeText.{CodeText}
use Rattle.reader.specs.declared.Progress.{Progress}
use Rattle.reader.specs.declared.Handed.{Handed}

-- ---- the reader
abbrev pub text_at : Bor (List ℕ) → ℕ → CodeText
text_at text at = record { text = text; at = at }

-- the same text at another place
abbrev pub moved_to : CodeText → ℕ → CodeText
moved_to r at = text_at r.text at

-- ---- the progress
abbrev pub fresh_progress : ℕ → Progress
fresh_progress freq = record { freq = freq; count = 0; letters = no_letters; after = Nothing }

-- ---- one piece: what it is, and the place and the progress behind it
abbrev pub hand : ℕ → Result (Option Pair) ℕ → Progress → Handed
hand at p t = record { at = at; piece = p; progress = t }

abbrev pub one_pair_on : Progress → Letters → After → Progress
one_pair_on t letters after = record { freq = t.freq; count = t.count + 1; letters = letters; after = after }

abbrev pub pair_handed : Progress → Pair → Letters → After → ℕ → Handed
pair_handed t p letters after next = hand next (Ok (Some p)) (one_pair_on t letters after)

-- of what stands next: a letter is handed out as its pair; the end and a fault leave the place and the progress as they are
abbrev pub handed_of : Progress → ℕ → Result Next ℕ → Handed
handed_of t at (Ok End) = hand at (Ok None) t
handed_of t at (Err number) = hand at (Err number) t
handed_of t at (Ok (Spelled p next)) = pair_handed t p (learnt_letters t.letters p) Spelling next
handed_of t at (Ok (Letter i next)) = pair_handed t (get_or t.letters.pairs i (pair 0 0)) t.letters Lettering next

unfoldable pub handed : Progress → List ℕ → ℕ → Handed
handed t s at = handed_of t at (next_pair t.freq t.count t.letters.count t.after s at)

-- by a reader, at its place
abbrev pub handed_by : Progress → CodeText → Handed
handed_by t r = handed t r.text.now r.at

-- ---- handing out until the end or a fault: the pairs before a fault come first, and then the fault, at its place
pub data Ending : Type 0 where
  end : Ending
  faulted : ℕ → Ending

-- from a place of the text s on these pairs are handed out, and then the ending
pub data HandsOut (s : List ℕ) : Progress → ℕ → List Pair → Ending → Type 0 where
  ends : {t : Progress} {at : ℕ} → (handed t s at).piece ≡ Ok None → HandsOut s t at [] end
  faults : {t : Progress} {at number : ℕ} → (handed t s at).piece ≡ Err number → HandsOut s t at [] (faulted number)
  gives : {t : Progress} {at : ℕ} {p : Pair} {ps : List Pair} {e : Ending} → (handed t s at).piece ≡ Ok (Some p)
      → HandsOut s (handed t s at).progress (handed t s at).at ps e → HandsOut s t at (p ∷ ps) e

-- what such a run says the whole code is
abbrev pub reading_of : List Pair → Ending → Reading
reading_of ps end = pairs ps
reading_of ps (faulted number) = fault number ps
