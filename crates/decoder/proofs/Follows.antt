-- Laws of reading one part of a code after another.
use Prim.Native.Nat.{ℕ, zero, suc, ◌+◌, ◌-◌, ◌*◌, ◌≤◌, ◌<◌}
use mathlib.Core.Path.{◌≡◌, refl, sym, ap, ◌∙◌, subst}
use mathlib.Core.Bool.{true}
use mathlib.Core.List.{List, [], ◌∷◌, ◌++◌, append_assoc, append-nil}
use native.Mathlib.Nat.{add-zero}
use native.Mathlib.Numerals.{add-one}
use native.Mathlib.Omega.{arith}
use borrow.Author.Tests.{lt-ltb, lt-leb, ltb-true, ltb-false}
use lib.Dec.{ltb}
use Rattle.std.specs.Prelude.{Result, Ok}
use lib.ListN.{length, drop, get_or, length-append, drop_of_length-le, get_or-append}
use lib.Seq.{sets, length-sets, sets-eq, drop-cons}
use Rattle.laws.proofs.Choice.{by_test}
use Rattle.laws.proofs.Lists.{sets_append}
use Rattle.words.specs.declared.Pair.{Pair}
use Rattle.words.specs.Pairs.{pair, counts_of}
use Rattle.words.proofs.Pairs.{counts_length, counts_append, counts_on, counts_off}
use Rattle.code.specs.declared.next.Next.{Next}
use Rattle.code.specs.declared.next.Next.TheVariants.{Spelled, Letter}
use Rattle.code.specs.declared.next.After.{After}
use Rattle.code.specs.declared.next.After.TheVariants.{Spelling, Lettering}
use Rattle.code.specs.Letters.{learnt, letters_of}
use Rattle.code.specs.Next.{is_letter, letter_at, next_pair}
use Rattle.code.specs.Read.{read_on, read_from}
use Rattle.decoder.specs.Follows.{Follows, pairs_at}
use Rattle.code.proofs.Lettering.{letters_more, learnt_again}
use Rattle.code.proofs.Nexts.{Sound, next_sound}

-- what stands next is within the limits
next_found : (freq : ℕ) (s : List ℕ) (t : List Pair) (count at : ℕ) (after : After) {x : Result Next ℕ} → next_pair freq count (length t) after s at ≡ x
    → Sound freq count (length t) after x
next_found freq s t count at after e = subst (Sound freq count (length t) after) e (next_sound freq count (length t) after s at)

-- one turn of the definition
pub turn : (freq : ℕ) (s : List ℕ) (t : List Pair) (count at : ℕ) (after : After) {x : Result Next ℕ} → next_pair freq count (length t) after s at ≡ x
    → count ≤ 260 → (ps : List Pair) → length ps ≡ count
    → read_from (261 - count) freq s ps t after at ≡ read_on (read_from (261 - (count + 1)) freq s) ps t x
turn freq s t count at after e h ps l =
    let k : 261 - count ≡ suc (261 - (count + 1)) = omega arith in
    rw (k, l, e)

module _ {freq : ℕ} {s : List ℕ} where
  -- nothing is read
  pub follows_none : {t : List Pair} {counts : List ℕ} {count at : ℕ} {after : After} → Follows freq s t t counts counts count at count at after after
  follows_none =
      record { more = []; counted = omega arith; room = λ h. h; size = λ h. absurd (omega arith); letters = refl; stored = refl; same = λ ps e. rw (append-nil ps) }

  -- one part after another
  pub follows_then : {t t₁ t₂ : List Pair} {counts counts₁ counts₂ : List ℕ} {count at n i far to : ℕ} {after between behind : After}
      → Follows freq s t t₁ counts counts₁ count at n i after between → Follows freq s t₁ t₂ counts₁ counts₂ n i far to between behind
      → Follows freq s t t₂ counts counts₂ count at far to after behind
  follows_then {t} {counts = counts} {count = count} {n = n} a b =
      let two : 2 * count + length (counts_of a.more) ≡ 2 * n = omega (arith, counts_length a.more, a.counted) in
      record {
        more = a.more ++ b.more;
        counted = rw length-append (omega (arith, a.counted, b.counted));
        room = λ h. b.room (a.room h);
        size = λ h. by_test (ltb count n) (λ e. a.size (ltb-true count n e))
            (λ e.
            let k = b.size (omega (arith, a.counted, ltb-false count n e)) in
            omega (arith, ap length a.stored, length-sets counts (2 * count) (counts_of a.more)));
        letters = b.letters ∙ ap (λ (l : List Pair). letters_of l b.more) a.letters ∙ sym (letters_more t a.more b.more);
        stored = b.stored ∙ ap (λ (l : List ℕ). sets l (2 * n) (counts_of b.more)) a.stored
            ∙ rw (counts_append a.more b.more, sets_append (counts_of a.more) (counts_of b.more) counts (2 * count), two);
        same = λ ps e.
            let l : length (ps ++ a.more) ≡ n = rw length-append (omega (arith, a.counted)) in
            a.same ps e ∙ b.same (ps ++ a.more) l ∙ rw append_assoc;
      }

  pub then_more : {t t₁ t₂ : List Pair} {counts counts₁ counts₂ : List ℕ} {count at n i far to : ℕ} {after between behind : After}
      (a : Follows freq s t t₁ counts counts₁ count at n i after between) (b : Follows freq s t₁ t₂ counts₁ counts₂ n i far to between behind)
      → (follows_then a b).more ≡ a.more ++ b.more
  unfolding follows_then
  then_more a b = refl

  module _ {t : List Pair} {counts counts' : List ℕ} {count at next : ℕ} {after : After} where
    -- a spelled pair
    pub follows_spelled : {p : Pair} → next_pair freq count (length t) after s at ≡ Ok (Spelled p next)
        → length counts ≡ 520 → counts' ≡ sets counts (2 * count) (counts_of (p ∷ []))
        → Follows freq s t (learnt t p) counts counts' count at (count + 1) next after Spelling
    follows_spelled {p} e l k =
        let h = (next_found freq s t count at after e).0 in
        record {
          more = p ∷ [];
          counted = omega arith;
          room = λ r. omega arith;
          size = λ r. l;
          letters = refl;
          stored = k;
          same = turn freq s t count at after e (omega arith);
        }

    -- a letter stands for the pair that has it, which gets no other
    pub follows_letter : {i : ℕ} → next_pair freq count (length t) after s at ≡ Ok (Letter i next)
        → length counts ≡ 520 → counts' ≡ sets counts (2 * count) (counts_of (get_or t i (pair 0 0) ∷ []))
        → Follows freq s t t counts counts' count at (count + 1) next after Lettering
    follows_letter {i} e l k =
        let h = (next_found freq s t count at after e).0 in
        record {
          more = get_or t i (pair 0 0) ∷ [];
          counted = omega arith;
          room = λ r. omega arith;
          size = λ r. l;
          letters = sym (learnt_again t i (next_found freq s t count at after e).1);
          stored = k;
          same = turn freq s t count at after e (omega arith);
        }

-- ---- a run of letters, each a byte and a pair
letter_next : (freq n m : ℕ) (s : List ℕ) (at : ℕ) → at < length s → is_letter (get_or s at 0) ≡ true → n < 260 → get_or s at 0 - 65 < m
    → next_pair freq n m Lettering s at ≡ Ok (Letter (get_or s at 0 - 65) (at + 1))
unfolding next_pair letter_at
letter_next freq n m s at h l r k = rw (lt-leb (length s) at h, l, lt-leb 260 n r, lt-ltb (get_or s at 0 - 65) m k)

module _ {freq : ℕ} {s : List ℕ} {t : List Pair} {counts : List ℕ} {count at : ℕ} where
  pub run_none : Follows freq s t t counts counts count at (count + 0) (at + 0) Lettering Lettering
  run_none = rw (add-zero count, add-zero at) follows_none

  pub run_more : {counts₁ counts₂ : List ℕ} (more : ℕ) → Follows freq s t t counts counts₁ count at (count + more) (at + more) Lettering Lettering
      → at + more < length s → is_letter (get_or s (at + more) 0) ≡ true → count + more < 260 → get_or s (at + more) 0 - 65 < length t
      → length counts₁ ≡ 520 → counts₂ ≡ sets counts₁ (2 * (count + more)) (counts_of (get_or t (get_or s (at + more) 0 - 65) (pair 0 0) ∷ []))
      → Follows freq s t t counts counts₂ count at (count + (more + 1)) (at + (more + 1)) Lettering Lettering
  run_more more a h l r k size e =
      let pairs : count + (more + 1) ≡ (count + more) + 1 = omega arith in
      let bytes : at + (more + 1) ≡ (at + more) + 1 = omega arith in
      rw (pairs, bytes) (follows_then a (follows_letter (letter_next freq (count + more) (length t) s (at + more) h l r k) size e))

-- ---- the pairs that stand in memory, and the letters after them
pub pairs_stored : (ps : List Pair) (l : List ℕ) → 2 * length ps ≤ length l → (n i : ℕ) → i + n ≡ length ps
    → pairs_at (sets l 0 (counts_of ps)) i n ≡ drop i ps
pairs_stored ps l h zero i e =
    let past : length ps ≤ i = omega arith in
    sym (drop_of_length-le ps past)
pairs_stored ps l h (suc n) i e =
    let fits : 0 + length (counts_of ps) ≤ length l = omega (arith, counts_length ps) in
    let laid : sets l 0 (counts_of ps) ≡ counts_of ps ++ drop (0 + length (counts_of ps)) l = sets-eq (counts_of ps) l 0 fits in
    let below : i < length ps = omega arith in
    let on : get_or (sets l 0 (counts_of ps)) (2 * i) 0 ≡ (get_or ps i (pair 0 0)).on =
    rw (laid, get_or-append (counts_of ps) (drop (0 + length (counts_of ps)) l) 0 (2 * i) (omega (arith, counts_length ps))) (counts_on ps i below) in
    let off : get_or (sets l 0 (counts_of ps)) (2 * i + 1) 0 ≡ (get_or ps i (pair 0 0)).off =
    rw (laid, get_or-append (counts_of ps) (drop (0 + length (counts_of ps)) l) 0 (2 * i + 1) (omega (arith, counts_length ps))) (counts_off ps i below) in
    rw (on, off, pairs_stored ps l h n (suc i) (omega arith), drop-cons ps i (pair 0 0) below)

-- one turn of a loop over them
pub pairs_next : (counts : List ℕ) (i to : ℕ) → i < to
    → pairs_at counts i (to - i) ≡ pair (get_or counts (2 * i) 0) (get_or counts (2 * i + 1) 0) ∷ pairs_at counts (i + 1) (to - (i + 1))
pairs_next counts i to h =
    let k : to - i ≡ suc (to - (i + 1)) = omega arith in
    let one : i + 1 ≡ suc i = add-one i in
    rw (k, one)

-- and of the one that learns them
pub learn_turn : (counts : List ℕ) (t : List Pair) (i to : ℕ) → i < to → letters_of t (pairs_at counts i (to - i))
    ≡ letters_of (learnt t (pair (get_or counts (2 * i) 0) (get_or counts (2 * i + 1) 0))) (pairs_at counts (i + 1) (to - (i + 1)))
learn_turn counts t i to h = ap (letters_of t) (pairs_next counts i to h)
