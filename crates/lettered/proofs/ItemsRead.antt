-- The reader reads items as the pairs that they stand for.
use Prim.Native.Nat.{ℕ, zero, suc, ◌+◌, ◌≤◌, ◌<◌}
use mathlib.Core.Path.{◌≡◌, refl, ap, ◌∙◌}
use mathlib.Core.Bool.{true, false}
use mathlib.Core.List.{List, [], ◌∷◌, ◌++◌, append_assoc, append-nil}
use native.Mathlib.Nat.{add-zero, add-sub_cancel_left}
use native.Mathlib.Omega.{arith}
use borrow.Author.Tests.{lt-ltb, le-ltb, le-leb, lt-leb}
use Rattle.std.specs.Prelude.{Some, Result, Ok}
use lib.ListN.{length, drop, get_or, length-append}
use lib.Seq.{append_snoc}
use Rattle.laws.proofs.Choice.{and_left, and_right}
use Rattle.laws.proofs.Lists.{stands_at, stands_below, stands_end, stands_behind}
use Rattle.words.specs.Digits.{is_digit, Spells}
use Rattle.text.specs.Number.{run}
use Rattle.text.proofs.Reading.{digit_range}
use Rattle.text.proofs.Behind.{digits_first, digits_below, digits_read}
use Rattle.words.specs.declared.Pair.{Pair}
use Rattle.code.specs.declared.next.Next.{Next}
use Rattle.code.specs.declared.next.Next.TheVariants.{End, Spelled, Letter}
use Rattle.code.specs.declared.next.After.{After}
use Rattle.code.specs.declared.next.After.TheVariants.{Nothing, Spelling, Lettering}
use Rattle.code.specs.Limits.{legal}
use Rattle.code.specs.Next.{is_letter, count_at, off_at, after_on, spelled_at, letter_at, begun_at, begins, next_pair}
use Rattle.code.specs.Read.{pairs, read_from}
use Rattle.code.proofs.Nexts.{Ends}
use Rattle.lettered.specs.Lettered.{Item, spelled, letter, item_text, lettered, Stands, Expands, none, more}
use Rattle.code.proofs.Lettering.{learnt_again}
use Rattle.lettered.proofs.Learnt.{lettered_few, lettered_more}
use Rattle.lettered.proofs.Written.{after_of, front, front_letter, text_from, stops}

pub digit_no_letter : (b : ℕ) → is_digit b ≡ true → is_letter b ≡ false
unfolding is_letter
digit_no_letter b e = rw (lt-ltb b 65 (omega (arith, (digit_range b e).1)))

-- ---- a number
module _ (s : List ℕ) (at : ℕ) (ds : List ℕ) (n : ℕ) (rest : List ℕ) (d : Spells ds n) (e : drop at s ≡ ds ++ rest) where
  number_digit : is_digit (get_or s at 0) ≡ true
  number_digit = digits_first s at ds rest d.decimal d.some e

  number_below : at < length s
  number_below = digits_below s at ds rest d.decimal d.some e

  count_good : (freq : ℕ) → legal freq n ≡ true → run rest ≡ [] → count_at freq s at ≡ Some (n, at + length ds)
  unfolding count_at
  count_good freq h stop = rw (digits_read s at ds rest d.decimal d.some e d.few stop, d.value, h)

-- ---- an item
module _ (freq : ℕ) (s : List ℕ) (n : ℕ) (room : n < 260) where
  letter_next : (m i at : ℕ) (after : After) (rest : List ℕ) → i < m → m ≤ 15 → drop at s ≡ (65 + i) ∷ rest
      → next_pair freq n m after s at ≡ Ok (Letter i (at + 1))
  unfolding next_pair letter_at is_letter
  letter_next m i at after rest h few e =
      rw (
        lt-leb (length s) at (stands_below s at (65 + i) rest e),
        stands_at s at (65 + i) rest 0 e,
        le-ltb (65 + i) 65 (omega arith),
        le-leb (65 + i) 90 (omega arith),
        lt-leb 260 n room,
        add-sub_cancel_left 65 i,
        lt-ltb i m h,
      )

  module _ (on off : List ℕ) (p : Pair) (rest : List ℕ) (d : Stands freq [] (spelled on off) p) (stop : run rest ≡ []) where
    begun_next : (at : ℕ) → drop at s ≡ on ++ (44 ∷ (off ++ rest))
        → begun_at freq n s at ≡ Ok (Spelled p (at + length on + 1 + length off))
    unfolding begun_at spelled_at after_on off_at is_letter
    begun_next at e =
        let c = stands_behind s at on (44 ∷ (off ++ rest)) e in
        let o = stands_behind s (at + length on) (44 ∷ []) (off ++ rest) c in
        rw (
          number_digit s at on p.on _ d.0 e,
          lt-leb 260 n room,
          count_good s at on p.on _ d.0 e freq (and_left (legal freq p.on) _ d.2) refl,
          lt-leb (length s) (at + length on) (stands_below s _ 44 _ c),
          stands_at s (at + length on) 44 _ 0 c,
          digit_no_letter (get_or s (at + length on + 1) 0) (number_digit s _ off p.off rest d.1 o),
          count_good s (at + length on + 1) off p.off rest d.1 o freq (and_right (legal freq p.on) _ d.2) stop,
        )

    -- no letter and no comma in front
    first_next : (m at : ℕ) (after : After) {x : Result Next ℕ} → drop at s ≡ on ++ (44 ∷ (off ++ rest)) → begins freq n after s at ≡ x
        → next_pair freq n m after s at ≡ x
    unfolding next_pair
    first_next m at after e f =
        rw (
          lt-leb (length s) at (number_below s at on p.on _ d.0 e),
          digit_no_letter (get_or s at 0) (number_digit s at on p.on _ d.0 e),
        ) f

    spelled_next : (m at : ℕ) (after : After) → drop at s ≡ front after (spelled on off) ++ (on ++ (44 ∷ (off ++ rest)))
        → next_pair freq n m after s at
        ≡ Ok (Spelled p (at + length (front after (spelled on off)) + length on + 1 + length off))
    unfolding next_pair is_letter
    spelled_next m at Nothing e = rw add-zero (first_next m at Nothing e (begun_next at e))
    spelled_next m at Spelling e =
        rw (lt-leb (length s) at (stands_below s at 44 _ e), stands_at s at 44 _ 0 e)
        (begun_next (at + 1) (stands_behind s at (44 ∷ []) _ e))
    spelled_next m at Lettering e = rw add-zero (first_next m at Lettering e (begun_next at e))

-- the end
end_next : (freq n m : ℕ) (after : After) (s : List ℕ) (at : ℕ) → Ends after → drop at s ≡ [] → next_pair freq n m after s at ≡ Ok End
unfolding next_pair
end_next freq n m Nothing s at z e = absurd z
end_next freq n m Spelling s at z e = rw (le-leb (length s) at (stands_end s at e))
end_next freq n m Lettering s at z e = rw (le-leb (length s) at (stands_end s at e))

-- ---- all items
ends : (x : Item) → Ends (after_of x)
ends (spelled on off) = tt
ends (letter i) = tt

module _ (freq : ℕ) (s : List ℕ) where
  -- one item is read, and then what is behind it
  item_read : (before : List Pair) (x : Item) (p : Pair) (rest : List ℕ) (after : After) (k at : ℕ) → length before < 260
      → Stands freq before x p → (after_of x ≡ Spelling → run rest ≡ []) → drop at s ≡ front after x ++ item_text x ++ rest
      → read_from (suc k) freq s before (lettered before) after at
      ≡ read_from k freq s (before ++ (p ∷ [])) (lettered (before ++ (p ∷ []))) (after_of x) (at + length (front after x ++ item_text x))
  item_read before (spelled on off) p rest after k at room d stop e =
      let place : at + length (front after (spelled on off)) + length on + 1 + length off
      ≡ at + length (front after (spelled on off) ++ item_text (spelled on off)) = simp length-append (omega arith) in
      rw (
        spelled_next freq s (length before) room on off p rest d (stop refl) (length (lettered before)) at after (e ∙ simp append_assoc),
        lettered_more before p,
        place,
      )
  item_read before (letter i) p rest after k at room d stop e =
      let f : drop at s ≡ (65 + i) ∷ rest = rw (front_letter after i) at e in
      rw (
        letter_next freq s (length before) room (length (lettered before)) i at after rest d.0 (lettered_few before) f,
        lettered_more before p,
        ← d.1,
        learnt_again (lettered before) i d.0,
        front_letter after i,
      )

  pub items_read : {before ps : List Pair} {is : List Item} → Expands freq before is ps → (after : After) (k at : ℕ)
      → length before + k ≡ 260 → length ps ≤ k → (length ps ≡ 0 → Ends after) → drop at s ≡ text_from after is
      → read_from (suc k) freq s before (lettered before) after at ≡ pairs (before ++ ps)
  items_read {before} none after k at room fits z e =
      rw (end_next freq (length before) (length (lettered before)) after s at (z refl) e, append-nil before)
  items_read (more d m) after zero at room fits z e = absurd (omega arith)
  items_read {before} (more {ps = ps} {x} {is} {p} d m) after (suc k) at room fits z e =
      item_read before x p (text_from (after_of x) is) after (suc k) at (omega arith) d (stop x) e
      ∙ items_read m (after_of x) k _ (rw length-append (omega arith)) (omega arith) (λ _. ends x)
      (stands_behind s at (front after x ++ item_text x) _ e)
      ∙ ap pairs (append_snoc before p ps)
    where
      stop : (x : Item) → after_of x ≡ Spelling → run (text_from (after_of x) is) ≡ []
      stop x f = ap (λ (a : After). run (text_from a is)) f ∙ stops is
