-- The loop over a piece: what is left of it gives the same as the whole did.
use Prim.Native.Nat.{ℕ, suc, ◌+◌, ◌≤◌, ◌<◌}
use mathlib.Core.Path.{◌≡◌, refl, sym, ap, ◌∙◌}
use Rattle.std.proofs.Common.{Ok, Err}
use mathlib.Core.Bool.{true, false, cond}
use mathlib.Core.List.{List, ◌∷◌}
use native.Mathlib.Omega.{arith}
use native.Mathlib.Nat.{add-zero, zero-add}
use native.Mathlib.Numerals.{add-one}
use lib.Dec.{eqb, leb, ltb, leb-suc-suc}
use lib.ListN.{length, drop, get_or, set, drop_of_length-le, length-set}
use lib.Seq.{sets}
use borrow.Author.Tests.{eq-eqb, ne_eqb, lt-ltb, le-leb, lt-leb, leb-true, leb-false, ltb-true, ltb-false}
use Rattle.laws.proofs.Choice.{by_test}
use Rattle.laws.proofs.Lists.{drop_next}
use Rattle.lines.specs.Take.{assembler, fresh_assembler, counted, found_of, until_cr, Step, step_of, joined_step, take_step, Takes}
use Rattle.lines.specs.declared.Assembler.{Assembler}
use Rattle.lines.specs.declared.Found.{Found}
use Rattle.lines.specs.declared.Found.TheVariants.{Nothing, Line, Overlong}
use Rattle.laws.proofs.Storing.{sets_out, stores_stored}

-- ---- how bytes are counted
pub counted_few : (n : ℕ) → n ≤ 4096 → counted n ≡ n
unfolding counted
counted_few n h = rw (le-leb n 4096 h)

pub counted_many : (n : ℕ) → 4096 < n → counted n ≡ 4097
unfolding counted
counted_many n h = rw (lt-leb n 4096 h)

pub counted_most : (n : ℕ) → counted n ≤ 4097
counted_most n =
    by_test (leb n 4096)
    (λ e. rw (counted_few n (leb-true n 4096 e)) (omega (arith, leb-true n 4096 e)))
    (λ e. rw (counted_many n (leb-false n 4096 e)) (omega arith))

pub counted_sound : (n : ℕ) → n ≤ 4097 → counted n ≡ n
counted_sound n h =
    by_test (leb n 4096)
    (λ e. counted_few n (leb-true n 4096 e))
    (λ e.
    let k = leb-false n 4096 e in
    let z : n ≡ 4097 = omega arith in
    rw (counted_many n k) (sym z))

-- a count, and what is counted behind it
pub counted_on : (n m : ℕ) → counted (counted n + m) ≡ counted (n + m)
counted_on n m =
    by_test (leb n 4096)
    (λ e. rw (counted_few n (leb-true n 4096 e)))
    (λ e.
    let k = leb-false n 4096 e in
    rw (counted_many n k, counted_many (4097 + m) (omega arith), counted_many (n + m) (omega arith)))

-- ---- one byte
pub kept_in : (size : ℕ) → size < 4096 → size + 1 ≡ counted (suc size)
kept_in size h = rw (counted_few (suc size) h, add-one)

pub kept_out : (size : ℕ) → 4096 ≤ size → 4097 ≡ counted (suc size)
kept_out size h = rw (counted_many (suc size) (omega arith))

-- ---- a line's length, judged at its CR
pub found_few : (size : ℕ) → size ≤ 4096 → Line size ≡ found_of size true
unfolding found_of
found_few size h = rw (le-leb size 4096 h)

pub found_many : (size : ℕ) → 4096 < size → Overlong ≡ found_of size true
unfolding found_of
found_many size h = rw (lt-leb size 4096 h)

-- ---- what a call gives that has used so many bytes of its piece, and has the rest of it in hand
unfoldable pub step_from : ℕ → ℕ → List ℕ → List ℕ → Step
step_from used size buffer rest =
    cond (ltb (length (until_cr rest)) (length rest))
    (step_of fresh_assembler (used + suc (length (until_cr rest)))
    (found_of (counted (size + length (until_cr rest))) true) (sets buffer size (until_cr rest)))
    (step_of (assembler (counted (size + length rest))) (used + length rest) Nothing (sets buffer size rest))

pub refused : (a : Assembler) (buffer piece : List ℕ) → (length buffer ≡ 4096 → ⊥) → take_step a buffer piece ≡ Err 107
unfolding take_step
refused a buffer piece h = rw (ne_eqb (length buffer) 4096 h)

pub granted : (a : Assembler) (buffer piece : List ℕ) → length buffer ≡ 4096 → take_step a buffer piece ≡ Ok (joined_step a buffer piece)
unfolding take_step
granted a buffer piece h = rw (eq-eqb (length buffer) 4096 h)

pub from_start : (a : Assembler) (buffer piece : List ℕ) → joined_step a buffer piece ≡ step_from 0 a.size buffer piece
unfolding joined_step step_from
from_start a buffer piece = rw (
  zero-add,
  zero-add,
  ← stores_stored buffer a.size (until_cr piece),
  ← stores_stored buffer a.size piece,
)

-- the bytes behind one more
sets_counted : (vs buffer : List ℕ) (size b : ℕ) → length buffer ≡ 4096
    → sets buffer size (b ∷ vs) ≡ sets (set buffer size b) (counted (suc size)) vs
sets_counted vs buffer size b h =
    by_test (ltb size 4096)
    (λ e. rw (counted_few (suc size) (ltb-true size 4096 e)))
    (λ e.
    let k = ltb-false size 4096 e in
    let l : length (set buffer size b) ≤ suc size = simp length-set (omega arith) in
    let m : length (set buffer size b) ≤ 4097 = simp length-set (omega arith) in
    rw (counted_many (suc size) (omega arith), sets_out vs (set buffer size b) (suc size) l, sets_out vs (set buffer size b) 4097 m))

count_more : (size n : ℕ) → counted (size + suc n) ≡ counted (counted (suc size) + n)
count_more size n = ap counted (omega arith) ∙ sym (counted_on (suc size) n)

module _ (used size : ℕ) (buffer : List ℕ) (b : ℕ) (r : List ℕ) where
  more : eqb b 13 ≡ false → length buffer ≡ 4096
      → step_from used size buffer (b ∷ r) ≡ step_from (used + 1) (counted (suc size)) (set buffer size b) r
  unfolding step_from
  more e h =
      let m : used + suc (suc (length (until_cr r))) ≡ used + 1 + suc (length (until_cr r)) = omega arith in
      let n : used + suc (length r) ≡ used + 1 + length r = omega arith in
      rw (
        e,
        leb-suc-suc,
        count_more size (length (until_cr r)),
        count_more size (length r),
        sets_counted (until_cr r) buffer size b h,
        sets_counted r buffer size b h,
        m,
        n,
      )

  stop : eqb b 13 ≡ true → size ≤ 4097 → step_from used size buffer (b ∷ r) ≡ step_of fresh_assembler (used + 1) (found_of size true) buffer
  unfolding step_from
  stop e h = rw (e, lt-ltb 0 (suc (length r)) (omega arith), add-zero, counted_sound size h)

-- ---- the loop, at a place of the piece
module _ (used size : ℕ) (buffer piece : List ℕ) where
  pub at_byte : used < length piece → (get_or piece used 0 ≡ 13 → ⊥) → length buffer ≡ 4096
      → step_from used size buffer (drop used piece)
      ≡ step_from (used + 1) (counted (suc size)) (set buffer size (get_or piece used 0)) (drop (used + 1) piece)
  at_byte h e k = rw (drop_next piece used 0 h) (more used size buffer (get_or piece used 0) (drop (used + 1) piece) (ne_eqb _ 13 e) k)

  pub at_cr : used < length piece → get_or piece used 0 ≡ 13 → size ≤ 4097
      → step_from used size buffer (drop used piece) ≡ step_of fresh_assembler (used + 1) (found_of size true) buffer
  at_cr h e k = rw (drop_next piece used 0 h) (stop used size buffer (get_or piece used 0) (drop (used + 1) piece) (eq-eqb _ 13 e) k)

  pub at_end_law : length piece ≤ used → size ≤ 4097
      → step_from used size buffer (drop used piece) ≡ step_of (assembler size) used (found_of size false) buffer
  unfolding step_from found_of
  at_end_law h k = rw (drop_of_length-le piece h, add-zero, add-zero, counted_sound size k)

-- what a call returns
pub refuses : (a : Assembler) (buffer piece : List ℕ) → (length buffer ≡ 4096 → ⊥) → Takes (take_step a buffer piece) buffer (Err 107) buffer
refuses a buffer piece h = rw (refused a buffer piece h) (record { result = refl; laid = refl })

pub takes : (a : Assembler) (buffer piece : List ℕ) {to : Assembler} {used : ℕ} {f : Found} {after : List ℕ} → length buffer ≡ 4096
    → step_from 0 a.size buffer piece ≡ step_of to used f after
    → Takes (take_step a buffer piece) buffer (Ok (record { assembler = to; used = used; found = f })) after
takes a buffer piece h e = rw (granted a buffer piece h, from_start a buffer piece, e) (record { result = refl; laid = refl })
