-- What cutting a stream gives: joined with CRs the parts and the rest are the stream, none has a CR in it, and there is one way only to
-- cut so. And how one stream is cut behind another.
use Prim.Native.Nat.{ℕ, suc, ◌≤◌, ◌<◌}
use mathlib.Core.Path.{◌≡◌, refl, sym, ap, ◌∙◌}
use mathlib.Core.Bool.{true}
use mathlib.Core.List.{List, [], ◌∷◌, ◌++◌, map, append-nil}
use native.Mathlib.Omega.{arith}
use lib.Dec.{eqb}
use lib.ListN.{length, take}
use lib.Seq.{append_snoc}
use borrow.Author.Tests.{eqb-true, not-true}
use Rattle.laws.specs.Lists.{all}
use Rattle.laws.proofs.Choice.{by_test, and_left, and_right}
use Rattle.laws.proofs.Lists.{all_append}
use Rattle.lines.specs.Cut.{Divided, divided, line_of, lines_of, no_cr, stream_of}
use Rattle.lines.specs.Take.{until_cr}

-- ---- nothing is lost
pub divided_joined : (s begun : List ℕ) → stream_of (divided begun s).parts (divided begun s).rest ≡ begun ++ s
divided_joined [] begun = sym (append-nil begun)
divided_joined (b ∷ s) begun =
    by_test (eqb b 13)
    (λ e. rw (e, divided_joined s [], eqb-true b 13 e))
    (λ e. rw (e, divided_joined s (begun ++ b ∷ []), append_snoc))

-- ---- no CR is in a part or in the rest
pub record NoCr (d : Divided) : Type 0 where
  pub parts : all (all no_cr) d.parts ≡ true
  pub rest : all no_cr d.rest ≡ true

pub divided_no_cr : (s begun : List ℕ) → all no_cr begun ≡ true → NoCr (divided begun s)
divided_no_cr [] begun h = record { parts = refl; rest = h }
divided_no_cr (b ∷ s) begun h =
    by_test (eqb b 13)
    (λ e.
    let k = divided_no_cr s [] refl in
    rw e (record { parts = rw h k.parts; rest = k.rest }))
    (λ e. rw e (divided_no_cr s (begun ++ b ∷ []) (all_append no_cr begun (b ∷ []) h (rw e))))

-- ---- and parts without CRs, joined, are cut into themselves
divided_run : (p begun s : List ℕ) → all no_cr p ≡ true → divided begun (p ++ s) ≡ divided (begun ++ p) s
divided_run [] begun s h = rw append-nil
divided_run (b ∷ p) begun s h =
    let first = not-true (eqb b 13) (and_left (no_cr b) (all no_cr p) h) in
    rw (first, divided_run p (begun ++ b ∷ []) s (and_right (no_cr b) (all no_cr p) h), append_snoc)

pub divided_one : (ps : List (List ℕ)) (rest : List ℕ) → all (all no_cr) ps ≡ true → all no_cr rest ≡ true
    → divided [] (stream_of ps rest) ≡ record { parts = ps; rest = rest }
divided_one [] rest hs h = ap (divided []) (sym (append-nil rest)) ∙ divided_run rest [] [] h
divided_one (p ∷ ps) rest hs h =
    let one = divided_one ps rest (and_right (all no_cr p) (all (all no_cr) ps) hs) h in
    rw (divided_run p [] (13 ∷ stream_of ps rest) (and_left (all no_cr p) (all (all no_cr) ps) hs), one)

-- so the lines of a stream are its parts, each judged by its length
pub lines_are : (ps : List (List ℕ)) (rest : List ℕ) → all (all no_cr) ps ≡ true → all no_cr rest ≡ true
    → lines_of (stream_of ps rest) ≡ map line_of ps
lines_are ps rest hs h = ap (λ (d : Divided). map line_of d.parts) (divided_one ps rest hs h)

-- ---- one stream behind another
pub divided_append : (s t begun : List ℕ)
    → divided begun (s ++ t)
    ≡ record { parts = (divided begun s).parts ++ (divided (divided begun s).rest t).parts; rest = (divided (divided begun s).rest t).rest }
divided_append [] t begun = refl
divided_append (b ∷ s) t begun =
    by_test (eqb b 13)
    (λ e. rw (e, divided_append s t []))
    (λ e. rw (e, divided_append s t (begun ++ b ∷ [])))

-- ---- the bytes before a piece's first CR
until_no_cr : (s : List ℕ) → all no_cr (until_cr s) ≡ true
until_no_cr [] = refl
until_no_cr (b ∷ s) =
    by_test (eqb b 13)
    (λ e. rw e)
    (λ e. rw (e, e, until_no_cr s))

until_cr_law : (s : List ℕ) → length (until_cr s) < length s → take (suc (length (until_cr s))) s ≡ until_cr s ++ 13 ∷ []
until_cr_law [] h = absurd (omega arith)
until_cr_law (b ∷ s) h =
    by_test (eqb b 13)
    (λ e. rw (e, eqb-true b 13 e))
    (λ e.
    let k : suc (length (until_cr s)) < suc (length s) = rw e at h in
    rw (e, until_cr_law s (omega arith)))

until_whole : (s : List ℕ) → length s ≤ length (until_cr s) → all no_cr s ≡ true
until_whole [] h = refl
until_whole (b ∷ s) h =
    by_test (eqb b 13)
    (λ e. let k : suc (length s) ≤ 0 = rw e at h in absurd (omega arith))
    (λ e.
    let k : suc (length s) ≤ suc (length (until_cr s)) = rw e at h in
    rw (e, until_whole s (omega arith)))

module _ (s begun : List ℕ) where
  -- up to and with the CR there is one part and no rest
  pub divided_ended : length (until_cr s) < length s
      → divided begun (take (suc (length (until_cr s))) s) ≡ record { parts = (begun ++ until_cr s) ∷ []; rest = [] }
  divided_ended h = rw (until_cr_law s h, divided_run (until_cr s) begun (13 ∷ []) (until_no_cr s))

  -- without a CR there is no part
  pub divided_unfinished : length s ≤ length (until_cr s) → divided begun s ≡ record { parts = []; rest = begun ++ s }
  divided_unfinished h = ap (divided begun) (sym (append-nil s)) ∙ divided_run s begun [] (until_whole s h)
