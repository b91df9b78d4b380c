-- What a progress keeps of the pairs before it: a fresh one, and every one behind a pair that was handed out.
use Prim.Native.Nat.{ℕ, ◌+◌, ◌<◌}
use mathlib.Core.Path.{◌≡◌, refl, sym, ap, ◌∙◌}
use mathlib.Core.List.{List, [], ◌∷◌, ◌++◌}
use native.Mathlib.Omega.{arith}
use Rattle.std.specs.Prelude.{Result}
use lib.ListN.{length, get_or, length-append}
use lib.Seq.{get_or-take}
use Rattle.words.specs.declared.Pair.{Pair}
use Rattle.code.specs.declared.next.Next.{Next}
use Rattle.code.specs.declared.next.After.TheVariants.{Spelling, Lettering}
use Rattle.words.specs.Pairs.{pair}
use Rattle.code.specs.Letters.{learnt, Kept, learnt_letters}
use Rattle.lettered.specs.Lettered.{lettered}
use Rattle.code.proofs.Lettering.{learnt_again}
use Rattle.lettered.proofs.Learnt.{lettered_more}
use Rattle.lettered.proofs.Parsed.{next_behind}
use Rattle.reader.specs.declared.Progress.{Progress}
use Rattle.reader.specs.Hands.{fresh_progress, one_pair_on}
use Rattle.reader.proofs.Pieces.{standing, learnt_kept, learnt_long}

pub record Behind (t : Progress) (before : List Pair) : Type 0 where
  pub count : t.count ≡ length before
  pub kept : Kept t.letters (lettered before)
  pub long : length t.letters.pairs ≡ 15

pub behind_none : (freq : ℕ) → Behind (fresh_progress freq) []
behind_none freq = record { count = refl; kept = record { few = omega arith; counted = refl; are = refl }; long = refl }

module _ {t : Progress} {before : List Pair} (b : Behind t before) where
  -- what stands next is what the pairs before say
  pub next_is : (s : List ℕ) (at : ℕ) {x : Result Next ℕ} → standing t s at ≡ x → next_behind t.freq s before t.after at ≡ x
  next_is s at e = rw (← b.count, ← b.kept.are, b.kept.counted) e

  one_more : (p : Pair) → t.count + 1 ≡ length (before ++ (p ∷ []))
  one_more p = rw length-append (omega (arith, b.count))

  pub behind_spelled_law : (p : Pair) → Behind (one_pair_on t (learnt_letters t.letters p) Spelling) (before ++ (p ∷ []))
  behind_spelled_law p =
      let k = learnt_kept t.letters p b.kept.few b.long in
      record {
        count = one_more p;
        kept =
            record {
              few = k.few;
              counted = k.counted;
              are = k.are ∙ ap (λ (l : List Pair). learnt l p) b.kept.are ∙ sym (lettered_more before p);
            };
        long = learnt_long t.letters p b.kept.few b.long;
      }

  module _ (i : ℕ) (known : i < t.letters.count) where
    pub letter_is : get_or (lettered before) i (pair 0 0) ≡ get_or t.letters.pairs i (pair 0 0)
    letter_is =
        ap (λ (l : List Pair). get_or l i (pair 0 0)) (sym b.kept.are)
        ∙ get_or-take t.letters.count t.letters.pairs i (pair 0 0) known

    -- a pair that has a letter gets no other
    pub letters_still : lettered (before ++ (get_or (lettered before) i (pair 0 0) ∷ [])) ≡ lettered before
    letters_still =
        let within : i < length (lettered before) = rw (← b.kept.are, b.kept.counted) known in
        lettered_more before (get_or (lettered before) i (pair 0 0)) ∙ learnt_again (lettered before) i within

    pub behind_letter : Behind (one_pair_on t t.letters Lettering) (before ++ (get_or (lettered before) i (pair 0 0) ∷ []))
    behind_letter =
        record {
          count = one_more (get_or (lettered before) i (pair 0 0));
          kept =
              record {
                few = b.kept.few;
                counted = b.kept.counted;
                are = b.kept.are ∙ sym letters_still;
              };
          long = b.long;
        }
