-- Laws of the loop that reads a code.
use Prim.Native.Nat.{ℕ, ◌+◌, ◌-◌, ◌*◌, ◌≤◌, ◌<◌}
use mathlib.Core.Path.{◌≡◌, refl, sym, ap, ◌∙◌, subst}
use mathlib.Core.Bool.{true, false}
use mathlib.Core.List.{List, [], ◌∷◌}
use native.Mathlib.Omega.{arith}
use borrow.Author.Tests.{ltb-true, ltb-false}
use lib.Dec.{ltb}
use Rattle.std.specs.Prelude.{Result, Ok, Err}
use lib.ListN.{length, take, drop, get_or, take-append-drop}
use lib.Seq.{sets, length-sets, take_all, take-append-le, get_or-take}
use Rattle.laws.proofs.Choice.{by_test, not_both}
use Rattle.laws.specs.Put.{stored_in}
use Rattle.laws.proofs.Lists.{none_is}
use Rattle.laws.proofs.Storing.{stores_stored}
use Rattle.words.specs.declared.Pair.{Pair}
use Rattle.words.specs.Pairs.{pair, counts_of, counts_in}
use Rattle.words.proofs.Pairs.{counts_stored}
use Rattle.code.specs.declared.Code.TheVariants as code
use Rattle.code.specs.declared.letters.Letters.{Letters}
use Rattle.code.specs.declared.next.Next.{Next}
use Rattle.code.specs.declared.next.Next.TheVariants.{End, Spelled, Letter}
use Rattle.code.specs.declared.next.After.{After}
use Rattle.code.specs.declared.next.After.TheVariants.{Nothing, Spelling, Lettering}
use Rattle.code.specs.Letters.{no_letters, letters_of, held, Kept}
use Rattle.code.specs.Next.{is_letter, next_pair}
use Rattle.code.specs.Read.{pairs, fault, read_code, ReadInto}
use Rattle.decoder.specs.Follows.{Follows, pairs_at, lags}
use Rattle.code.proofs.Nexts.{Sound, next_sound, next_unlettered}
use Rattle.code.proofs.Lettering.{letters_more}
use Rattle.decoder.proofs.Follows.{turn, follows_none, follows_then, then_more, follows_spelled, follows_letter, pairs_stored}

-- after count pairs, of which the first have been learnt, at a place: what is left gives the same reading
pub record Going (freq : ℕ) (s : List ℕ) (start : ℕ) (before counts : List ℕ) (letters : Letters) (seen count at : ℕ) (after : After) : Type 0 where
  pub known : List Pair
  pub follows : Follows freq s [] known before counts 0 start count at Nothing after
  pub few : letters.count ≤ 15
  pub counted : length (held letters) ≡ letters.count
  pub learnt : held letters ≡ letters_of [] (take seen follows.more)
  pub some : seen ≤ count

pub going_start : (freq : ℕ) (s : List ℕ) (start : ℕ) (l : List ℕ) → Going freq s start l l no_letters 0 0 start Nothing
going_start freq s start l =
    record { known = []; follows = follows_none; few = omega arith; counted = refl; learnt = refl; some = omega arith }

-- where pairs are not learnt that a letter may stand for
pub lagging : (s : List ℕ) (at seen count : ℕ) → lags s at seen count ≡ true → seen < count
unfolding lags
lagging s at seen count e =
    by_test (is_letter (get_or s at 0)) (λ l. ltb-true seen count (rw l at e)) (λ l. not_both (rw l at e) refl)

module _ {freq : ℕ} {s : List ℕ} {start : ℕ} {before counts : List ℕ} {letters : Letters} {seen count at : ℕ} {after : After}
    (g : Going freq s start before counts letters seen count at after) where
  pub going_room : count ≤ 260
  going_room = g.follows.room (omega arith)

  long : length g.follows.more ≡ count
  long = omega (arith, g.follows.counted)

  -- the pairs found stand in front
  front : counts_in counts (length g.follows.more) ≡ counts_of g.follows.more
  unfolding counts_in
  front =
      let more = g.follows.more in
      by_test (ltb 0 count)
      (λ e.
      let size = g.follows.size (ltb-true 0 count e) in
      let laid : counts ≡ stored_in before 0 (counts_of more) = g.follows.stored ∙ stores_stored before 0 (counts_of more) in
      rw laid (counts_stored before more (omega (arith, long, going_room))))
      (λ e.
      let none : length more ≡ 0 = omega (arith, long, ltb-false 0 count e) in
      rw (none_is more none))

  -- where all pairs are learnt, the letters are those of the definition
  all_known : count ≤ seen → held letters ≡ g.known
  all_known h =
      let e : take seen g.follows.more ≡ g.follows.more = take_all seen g.follows.more (omega (arith, long)) in
      g.learnt ∙ ap (letters_of []) e ∙ sym g.follows.letters

  module _ (up : lags s at seen count ≡ false) where
    seen_all : is_letter (get_or s at 0) ≡ true → count ≤ seen
    unfolding lags
    seen_all l = ltb-false seen count (rw l at up)

    -- what stands next is what the definition finds
    module _ {x : Result Next ℕ} (e : next_pair freq count letters.count after s at ≡ x) where
      stands : next_pair freq count (length g.known) after s at ≡ x
      stands =
          by_test (is_letter (get_or s at 0))
          (λ l. rw (← all_known (seen_all l), g.counted) e)
          (λ l. next_unlettered freq count (length g.known) letters.count after s at l ∙ e)

      pub going_sound : Sound freq count letters.count after x
      going_sound = subst (Sound freq count letters.count after) e (next_sound freq count letters.count after s at)

    pub going_end : next_pair freq count letters.count after s at ≡ Ok End → ReadInto (read_code freq s start) before (code.Pairs count) counts
    unfolding read_code
    going_end e =
        let read : read_code freq s start ≡ pairs g.follows.more =
        g.follows.same [] refl ∙ turn freq s g.known count at after (stands e) going_room g.follows.more long in
        record { result = rw (read, long); kept = rw read (g.follows.stored ∙ stores_stored before 0 (counts_of g.follows.more)); front = rw read front }

    pub going_fault : {k : ℕ} → next_pair freq count letters.count after s at ≡ Err k
        → ReadInto (read_code freq s start) before (code.Fault k) counts
    unfolding read_code
    going_fault {k} e =
        let read : read_code freq s start ≡ fault k g.follows.more =
        g.follows.same [] refl ∙ turn freq s g.known count at after (stands e) going_room g.follows.more long in
        record { result = rw read; kept = rw read (g.follows.stored ∙ stores_stored before 0 (counts_of g.follows.more)); front = rw read front }

    -- a letter is found only where one stands
    letter_stands : {i next : ℕ} → next_pair freq count letters.count after s at ≡ Ok (Letter i next) → is_letter (get_or s at 0) ≡ true
    letter_stands {i} {next} e =
        by_test (is_letter (get_or s at 0)) (λ l. l)
        (λ l.
        let none : next_pair freq count 0 after s at ≡ Ok (Letter i next) = next_unlettered freq count 0 letters.count after s at l ∙ e in
        let sound = subst (Sound freq count 0 after) none (next_sound freq count 0 after s at) in
        absurd (omega (arith, sound.1)))

    module _ {counts₁ counts₂ : List ℕ} {far to : ℕ} where
      -- a spelled pair, and those that the quick reader finds behind it
      pub going_spelled : {p : Pair} {next : ℕ} → next_pair freq count letters.count after s at ≡ Ok (Spelled p next)
          → length counts ≡ 520 → counts₁ ≡ sets counts (2 * count) (counts_of (p ∷ []))
          → ((t : List Pair) → (t' : List Pair) × Follows freq s t t' counts₁ counts₂ (count + 1) next far to Spelling Spelling)
          → Going freq s start before counts₂ letters seen far to Spelling
      going_spelled e l k run =
          let one = follows_spelled (stands e) l k in
          let rest = run _ in
          let both = follows_then one rest.1 in
          let all = follows_then g.follows both in
          let same : take seen all.more ≡ take seen g.follows.more =
          rw (then_more g.follows both) (take-append-le seen g.follows.more both.more (omega (arith, g.some, long))) in
          record {
            known = rest.0;
            follows = all;
            few = g.few;
            counted = g.counted;
            learnt = g.learnt ∙ sym (ap (letters_of []) same);
            some = omega (arith, g.some, both.counted);
          }

      -- letters
      pub going_letter : {i next : ℕ} → next_pair freq count letters.count after s at ≡ Ok (Letter i next)
          → length counts ≡ 520 → counts₁ ≡ sets counts (2 * count) (counts_of (get_or letters.pairs i (pair 0 0) ∷ []))
          → ((f : ℕ) → Follows f s (held letters) (held letters) counts₁ counts₂ (count + 1) next far to Lettering Lettering)
          → Going freq s start before counts₂ letters far far to Lettering
      going_letter {i} {next} e size k run =
          let l = letter_stands e in
          let know = all_known (seen_all l) in
          let first = subst (λ (t : List Pair). Follows freq s [] t before counts 0 start count at Nothing after) (sym know) g.follows in
          let is : get_or (held letters) i (pair 0 0) ≡ get_or letters.pairs i (pair 0 0) =
          get_or-take letters.count letters.pairs i (pair 0 0) (going_sound e).1 in
          let here : next_pair freq count (length (held letters)) after s at ≡ Ok (Letter i next) = rw g.counted e in
          let put : counts₁ ≡ sets counts (2 * count) (counts_of (get_or (held letters) i (pair 0 0) ∷ [])) = rw is k in
          let one = follows_letter here size put in
          let all = follows_then first (follows_then one (run freq)) in
          let whole : take far all.more ≡ all.more = take_all far all.more (omega (arith, all.counted)) in
          record {
            known = held letters;
            follows = all;
            few = g.few;
            counted = g.counted;
            learnt = all.letters ∙ sym (ap (letters_of []) whole);
            some = omega arith;
          }

  -- all pairs are learnt
  pub going_learnt : {letters' : Letters} → 2 * count ≤ length counts → Kept letters' (letters_of (held letters) (pairs_at counts seen (count - seen)))
      → Going freq s start before counts letters' count count at after
  going_learnt {letters'} size k =
      let more = g.follows.more in
      let left : pairs_at counts seen (count - seen) ≡ drop seen more =
      ap (λ (l : List ℕ). pairs_at l seen (count - seen)) g.follows.stored
      ∙ pairs_stored more before (omega (arith, long, ap length g.follows.stored, length-sets before 0 (counts_of more))) (count - seen) seen (omega (arith, long, g.some)) in
      let all : letters_of (letters_of [] (take seen more)) (drop seen more) ≡ letters_of [] more =
      sym (letters_more [] (take seen more) (drop seen more)) ∙ ap (letters_of []) (take-append-drop seen more) in
      let whole : take count more ≡ more = take_all count more (omega (arith, long)) in
      record {
        known = g.known;
        follows = g.follows;
        few = k.few;
        counted = k.counted;
        learnt = k.are ∙ rw (left, g.learnt) all ∙ sym (ap (letters_of []) whole);
        some = omega arith;
      }
