-- Laws of one piece: what stands next decides it, and the letters are kept.
use Prim.Native.Nat.{ℕ, ◌+◌, ◌≤◌, ◌<◌}
use mathlib.Core.Path.{◌≡◌, refl, ap, ◌∙◌, subst}
use mathlib.Core.List.{List}
use borrow.Author.Tests.{ltb-true, ltb-false}
use lib.Dec.{ltb}
use Rattle.std.specs.Prelude.{Some, Result, Ok, Err}
use lib.ListN.{length, length-set}
use Rattle.laws.proofs.Choice.{cond_case}
use Rattle.words.specs.declared.Pair.{Pair}
use Rattle.code.specs.declared.letters.Letters.{Letters}
use Rattle.code.specs.declared.next.Next.{Next}
use Rattle.code.specs.declared.next.Next.TheVariants.{End, Spelled, Letter}
use Rattle.code.specs.Letters.{place_of, learnt, held, Kept, learnt_letters}
use Rattle.code.specs.Next.{next_pair}
use Rattle.code.proofs.Lettering.{learn_known, learn_full, learn_new}
use Rattle.code.proofs.Nexts.{Sound, next_sound}
use Rattle.reader.specs.declared.Progress.{Progress}
use Rattle.reader.specs.declared.Handed.{Handed}
use Rattle.reader.specs.Hands.{handed_of, handed}

-- what stands at a place, behind what was read
abbrev pub standing : Progress → List ℕ → ℕ → Result Next ℕ
standing t s at = next_pair t.freq t.count t.letters.count t.after s at

module _ (t : Progress) (s : List ℕ) (at : ℕ) {x : Result Next ℕ} (e : standing t s at ≡ x) where
  pub standing_sound : Sound t.freq t.count t.letters.count t.after x
  standing_sound =
      subst (Sound t.freq t.count t.letters.count t.after) e
      (next_sound t.freq t.count t.letters.count t.after s at)

  pub handed_is : handed t s at ≡ handed_of t at x
  unfolding handed
  handed_is = ap (handed_of t at) e

-- ---- the letters
module _ (t : Letters) (p : Pair) (few : t.count ≤ 15) (long : length t.pairs ≡ 15) where
  pub learnt_kept : Kept (learnt_letters t p) (learnt (held t) p)
  unfolding learnt_letters
  learnt_kept =
      cond_case (λ (x : Letters). Kept x (learnt (held t) p)) (ltb (place_of p (held t)) t.count) _ _
      (λ e. learn_known t p long few (ltb-true (place_of p (held t)) t.count e))
      (λ e. cond_case (λ (x : Letters). Kept x (learnt (held t) p)) (ltb t.count 15) _ t
      (λ f. learn_new t p long few (ltb-false (place_of p (held t)) t.count e) (ltb-true t.count 15 f))
      (λ f. learn_full t p long few (ltb-false (place_of p (held t)) t.count e) (ltb-false t.count 15 f)))

  pub learnt_long : length (learnt_letters t p).pairs ≡ 15
  unfolding learnt_letters
  learnt_long =
      cond_case (λ (x : Letters). length x.pairs ≡ 15) (ltb (place_of p (held t)) t.count) _ _ (λ e. long)
      (λ e. cond_case (λ (x : Letters). length x.pairs ≡ 15) (ltb t.count 15) _ t
      (λ f. length-set t.pairs t.count p ∙ long) (λ f. long))

-- a pair that is handed out is one of 260, and is counted
pub handed_more : (t : Progress) (s : List ℕ) (at : ℕ) {r : Handed} {p : Pair} → r ≡ handed t s at → r.piece ≡ Ok (Some p)
    → (t.count < 260) × (r.progress.count ≡ t.count + 1)
handed_more t s at {r} {p} e f = go (standing t s at) (standing_sound t s at refl) (e ∙ handed_is t s at refl)
  where
    go : (x : Result Next ℕ) → Sound t.freq t.count t.letters.count t.after x → r ≡ handed_of t at x
        → (t.count < 260) × (r.progress.count ≡ t.count + 1)
    go (Ok End) h k = absurd (cc)
    go (Err number) h k = absurd (cc)
    go (Ok (Spelled q next)) h k = (h.0, ap (λ (r : Handed). r.progress.count) k)
    go (Ok (Letter i next)) h k = (h.0, ap (λ (r : Handed). r.progress.count) k)
