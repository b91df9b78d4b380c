-- The pairs before a fault are what the text up to there means.
use Prim.Native.Nat.{ℕ}
use mathlib.Core.Path.{◌≡◌, refl, ◌∙◌}
use mathlib.Core.List.{List, [], ◌∷◌, ◌++◌}
use Rattle.std.specs.Prelude.{Some, Result, Ok, Err}
use lib.ListN.{get_or}
use Rattle.words.specs.declared.Pair.{Pair}
use Rattle.code.specs.declared.next.Next.{Next}
use Rattle.code.specs.declared.next.Next.TheVariants.{End, Spelled, Letter}
use Rattle.words.specs.Pairs.{pair}
use Rattle.lettered.specs.Lettered.{lettered}
use Rattle.lettered.proofs.Written.{text_from_law}
use Rattle.lettered.proofs.Parsed.{Parsed, none_parsed, spelled_parsed, letter_parsed}
use Rattle.reader.specs.declared.Progress.{Progress}
use Rattle.reader.specs.Hands.{fresh_progress, handed_of, handed, Ending, faulted, HandsOut, ends, faults, gives}
use Rattle.reader.specs.Before.{met_at, Before}
use Rattle.reader.proofs.Pieces.{standing, standing_sound}
use Rattle.reader.proofs.Behind.{Behind, behind_none, next_is, behind_spelled_law, letter_is, behind_letter}

-- what is handed out stands in the text, up to the place where the reader stops
run_parsed : {s : List ℕ} {t : Progress} {at : ℕ} {ps : List Pair} {e : Ending} (before : List Pair) → Behind t before
    → (r : HandsOut s t at ps e) → Parsed t.freq s before t.after at ps (met_at r)
unfolding handed
run_parsed before b (ends p) = none_parsed
run_parsed before b (faults p) = none_parsed
run_parsed {s} {t} {at} before b (gives {p = p} {ps = ps} e r) =
    go (standing t s at) refl e (λ before' b'. run_parsed before' b' r)
  where
    go : (x : Result Next ℕ) → standing t s at ≡ x → (handed_of t at x).piece ≡ Ok (Some p)
        → ((before' : List Pair) → Behind (handed_of t at x).progress before'
        → Parsed (handed_of t at x).progress.freq s before' (handed_of t at x).progress.after (handed_of t at x).at ps (met_at r))
        → Parsed t.freq s before t.after at (p ∷ ps) (met_at r)
    go (Ok End) f k ih = absurd (cc)
    go (Err number) f k ih = absurd (cc)
    go (Ok (Spelled q next)) f k ih =
        let same : q ≡ p = cc in
        rw (← same)
        (spelled_parsed t.freq s (next_is b s at f) (ih (before ++ (q ∷ [])) (behind_spelled_law b q)))
    go (Ok (Letter i next)) f k ih =
        let known = (standing_sound t s at f).1 in
        let same : get_or (lettered before) i (pair 0 0) ≡ p = letter_is b i known ∙ (cc) in
        rw (← same) (letter_parsed t.freq s (next_is b s at f) (ih _ (behind_letter b i known)))

-- the whole run: a fresh reader hands these pairs out, and then a fault
pub pairs_before_fault : {freq : ℕ} {s : List ℕ} {at number : ℕ} {ps : List Pair}
    (r : HandsOut s (fresh_progress freq) at ps (faulted number)) → Before freq s at ps (met_at r)
pairs_before_fault {freq} r =
    let q = run_parsed [] (behind_none freq) r in
    record {
      items = q.items;
      expands = q.expands;
      written = rw (text_from_law q.items) q.text;
      place = rw (text_from_law q.items) q.place;
    }
