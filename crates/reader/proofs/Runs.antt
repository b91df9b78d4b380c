-- Handing out pair by pair until the end gives the very pairs of the whole code, or the very fault, for every text and place.
use Prim.Native.Nat.{ℕ, zero, suc, ◌+◌, ◌≤◌, ◌<◌}
use mathlib.Core.Path.{◌≡◌, refl, sym, ap, ◌∙◌, subst}
use mathlib.Core.List.{List, [], ◌∷◌, ◌++◌, append_assoc, append-nil}
use native.Mathlib.Omega.{arith}
use Rattle.std.specs.Prelude.{Result, Ok, Err}
use lib.ListN.{length, get_or, length-append}
use Rattle.words.specs.declared.Pair.{Pair}
use Rattle.code.specs.declared.letters.Letters.{Letters}
use Rattle.code.specs.declared.next.Next.{Next}
use Rattle.code.specs.declared.next.Next.TheVariants.{End, Spelled, Letter}
use Rattle.code.specs.declared.next.After.{After}
use Rattle.words.specs.Pairs.{pair}
use Rattle.code.specs.Read.{Reading, pairs, fault, read_on, read_from, read_code}
use Rattle.lettered.specs.Lettered.{lettered}
use Rattle.lettered.proofs.Learnt.{lettered_more}
use Rattle.reader.specs.declared.Progress.{Progress}
use Rattle.reader.specs.declared.Handed.{Handed}
use Rattle.reader.specs.Hands.{fresh_progress, one_pair_on, pair_handed, handed}
use Rattle.reader.specs.Hands.{Ending, end, faulted, HandsOut, ends, faults, gives, reading_of}
use Rattle.reader.proofs.Pieces.{standing, standing_sound, handed_is}
use Rattle.reader.proofs.Behind.{Behind, behind_none, next_is, behind_spelled_law, letter_is, letters_still, behind_letter}

-- a run of a text that agrees with the reading x, which has the pairs ps already
record Ran (s : List ℕ) (t : Progress) (at : ℕ) (ps : List Pair) (x : Reading) : Type 0 where
  given : List Pair
  ending : Ending
  run : HandsOut s t at given ending
  reads : x ≡ reading_of (ps ++ given) ending

module _ (s : List ℕ) where
  ran_stop : {t : Progress} {at : ℕ} {ps : List Pair} {x : Reading} (e : Ending) → HandsOut s t at [] e → x ≡ reading_of ps e → Ran s t at ps x
  ran_stop {ps = ps} e r k =
      record { given = []; ending = e; run = r; reads = k ∙ ap (λ (l : List Pair). reading_of l e) (sym (append-nil ps)) }

  -- one pair more in front
  ran_more : {t : Progress} {at : ℕ} {ps : List Pair} {x : Reading} {p : Pair} {next : ℕ} {letters : Letters} {after : After}
      → handed t s at ≡ pair_handed t p letters after next → Ran s (one_pair_on t letters after) next (ps ++ (p ∷ [])) x → Ran s t at ps x
  ran_more {ps = ps} {p = p} e r =
      record {
        given = p ∷ r.given;
        ending = r.ending;
        run =
            gives (ap (λ (h : Handed). h.piece) e)
            (subst (λ (h : Handed). HandsOut s h.progress h.at r.given r.ending) (sym e) r.run);
        reads = r.reads ∙ ap (λ (l : List Pair). reading_of l r.ending) (append_assoc ps (p ∷ []) r.given);
      }

  -- one turn of the definition
  turn : (k : ℕ) {t : Progress} (ps : List Pair) (at : ℕ) {x : Result Next ℕ} → Behind t ps → standing t s at ≡ x
      → read_from (suc k) t.freq s ps (lettered ps) t.after at ≡ read_on (read_from k t.freq s) ps (lettered ps) x
  turn k {t} ps at b e = ap (read_on (read_from k t.freq s) ps (lettered ps)) (next_is b s at e)

  from : (k : ℕ) (t : Progress) (ps : List Pair) (at : ℕ) → Behind t ps → length ps + k ≡ 261 → length ps ≤ 260
      → Ran s t at ps (read_from k t.freq s ps (lettered ps) t.after at)
  from zero t ps at b l r = absurd (omega arith)
  from (suc k) t ps at b l r = go (standing t s at) refl (from k)
    where
      go : (x : Result Next ℕ) → standing t s at ≡ x
          → ((t' : Progress) (ps' : List Pair) (at' : ℕ) → Behind t' ps' → length ps' + k ≡ 261 → length ps' ≤ 260
          → Ran s t' at' ps' (read_from k t'.freq s ps' (lettered ps') t'.after at'))
          → Ran s t at ps (read_from (suc k) t.freq s ps (lettered ps) t.after at)
      go (Ok End) e ih = ran_stop end (ends (ap (λ (h : Handed). h.piece) (handed_is t s at e))) (turn k ps at b e)
      go (Err number) e ih =
          ran_stop (faulted number) (faults (ap (λ (h : Handed). h.piece) (handed_is t s at e))) (turn k ps at b e)
      go (Ok (Spelled p next)) e ih =
          let room : length ps < 260 = omega (arith, b.count, (standing_sound t s at e).0) in
          let size : length (ps ++ (p ∷ [])) ≡ length ps + 1 = length-append ps (p ∷ []) in
          ran_more (handed_is t s at e)
          (rw (turn k ps at b e, ← lettered_more ps p) (ih _ (ps ++ (p ∷ [])) next (behind_spelled_law b p) (omega arith) (omega arith)))
      go (Ok (Letter i next)) e ih =
          let known = (standing_sound t s at e).1 in
          let p : Pair = get_or (lettered ps) i (pair 0 0) in
          let room : length ps < 260 = omega (arith, b.count, (standing_sound t s at e).0) in
          let size : length (ps ++ (p ∷ [])) ≡ length ps + 1 = length-append ps (p ∷ []) in
          ran_more (rw (← letter_is b i known) at (handed_is t s at e))
          (rw (turn k ps at b e)
          (rw (letters_still b i known) at (ih _ (ps ++ (p ∷ [])) next (behind_letter b i known) (omega arith) (omega arith))))

-- there is one run of a text from a place
pub one_run : {s : List ℕ} {t : Progress} {at : ℕ} {ps qs : List Pair} {e f : Ending} → HandsOut s t at ps e → HandsOut s t at qs f
    → (ps ≡ qs) × (e ≡ f)
one_run (ends a) (ends b) = (refl, refl)
one_run (ends a) (faults b) = absurd (cc)
one_run (ends a) (gives b r) = absurd (cc)
one_run (faults a) (ends b) = absurd (cc)
one_run (faults {number = m} a) (faults {number = n} b) = let k : m ≡ n = cc in (refl, ap faulted k)
one_run (faults a) (gives b r) = absurd (cc)
one_run (gives a r) (ends b) = absurd (cc)
one_run (gives a r) (faults b) = absurd (cc)
one_run (gives {p = p} a r) (gives {p = q} b r') =
    let k : p ≡ q = cc in
    let m = one_run r r' in
    (λ i. k i ∷ m.0 i, m.1)

-- ---- the whole code
module _ (freq : ℕ) (s : List ℕ) (at : ℕ) where
  -- from a fresh progress
  abbrev Hands : List Pair → Ending → Type 0
  Hands ps e = HandsOut s (fresh_progress freq) at ps e

  ran : Ran s (fresh_progress freq) at [] (read_code freq s at)
  unfolding read_code
  ran = from s 261 (fresh_progress freq) [] at (behind_none freq) refl (omega arith)

  -- every text is handed out to its end or a fault
  pub run_ends : (ps : List Pair) × (e : Ending) × HandsOut s (fresh_progress freq) at ps e
  run_ends = (ran.given, ran.ending, ran.run)

  -- what was handed out is what the whole code is
  pub run_reads : {ps : List Pair} {e : Ending} → HandsOut s (fresh_progress freq) at ps e → read_code freq s at ≡ reading_of ps e
  run_reads r = let m = one_run ran.run r in ran.reads ∙ (λ i. reading_of (m.0 i) (m.1 i))

  -- the very pairs
  pub hands_pairs : (ps : List Pair) → read_code freq s at ≡ pairs ps → HandsOut s (fresh_progress freq) at ps end
  hands_pairs ps e = go ran.ending ran.run ran.reads
    where
      go : (f : Ending) → Hands ran.given f → read_code freq s at ≡ reading_of ran.given f → Hands ps end
      go end r k = let m : ran.given ≡ ps = cc in subst (λ (l : List Pair). Hands l end) m r
      go (faulted number) r k = absurd (cc)

  -- the very fault, behind the pairs before it
  pub hands_fault : (number : ℕ) (ps : List Pair) → read_code freq s at ≡ fault number ps
      → HandsOut s (fresh_progress freq) at ps (faulted number)
  hands_fault number ps e = go ran.ending ran.run ran.reads
    where
      go : (f : Ending) → Hands ran.given f → read_code freq s at ≡ reading_of ran.given f → Hands ps (faulted number)
      go end r k = absurd (cc)
      go (faulted n) r k =
          let m : n ≡ number = cc in
          let l : ran.given ≡ ps = cc in
          subst (λ (j : ℕ). Hands ps (faulted j)) m (subst (λ (qs : List Pair). Hands qs (faulted n)) l r)
