-- Laws of text that is laid over what lent memory holds.
use Prim.Native.Nat.{ℕ, ◌+◌, ◌≤◌, ◌<◌}
use mathlib.Core.Path.{◌≡◌, refl, sym, ap, ◌∙◌}
use mathlib.Core.List.{List, [], ◌∷◌, ◌++◌, append_assoc, append-nil}
use native.Mathlib.Omega.{arith}
use native.Mathlib.Nat.{add-zero}
use native.Mathlib.Numerals.{add-one}
use lib.ListN.{length, take, drop, get_or, set, length-append, take-append-drop}
use borrow.Rule.Slice.PartMut.{put_mid}
use lib.Seq.{sets, sets-eq, length-sets, length-take-le, take_at, drop-cons, drop-drop}
use Rattle.laws.specs.Put.{over, Put}
use Rattle.laws.proofs.Lists.{sets_append}

-- a run of stores that has room lays its text over
pub stores_over : (text before : List ℕ) (at : ℕ) → at + length text ≤ length before → sets before at text ≡ over before at text
unfolding over
stores_over = sets-eq

-- the length stays
pub over_length : (before : List ℕ) (at : ℕ) (text : List ℕ) → at + length text ≤ length before
    → length (over before at text) ≡ length before
over_length before at text h = ap length (sym (stores_over text before at h)) ∙ length-sets before at text

-- no text changes nothing
pub over_nothing : (before : List ℕ) (at : ℕ) → over before at [] ≡ before
unfolding over
over_nothing before at = rw (add-zero, append-nil) (take-append-drop at before)

-- up to the text's end stand what was before its place, and the text
pub over_front : (before : List ℕ) (at : ℕ) (text : List ℕ) → at ≤ length before
    → take (at + length text) (over before at text) ≡ take at before ++ text
unfolding over
over_front before at text h =
    let e : length (take at before ++ text) ≡ at + length text = rw (length-append, length-take-le at before h) in
    take_at (take at before ++ text) (drop (at + length text) before) (at + length text) e

-- what stores of a text leave, where it has room
pub stored : {b text after : List ℕ} {at next : ℕ} → next ≡ at + length text → next ≤ length b → after ≡ sets b at text → Put b at text after next
stored {b} {text} {after} {at} p r l = record { place = p; room = r; laid = l ∙ stores_over text b at (omega arith) }

-- no text
pub nothing : (b : List ℕ) (at : ℕ) → at ≤ length b → Put b at [] b at
nothing b at h = stored (omega arith) h refl

-- the memory is as long as it was
pub put_length : {b text after : List ℕ} {at next : ℕ} → Put b at text after next → length after ≡ length b
put_length {b} {text} {after} {at} p = ap length p.laid ∙ over_length b at text (omega (arith, p.place, p.room))

-- one text behind the other
pub then : {b b₁ b₂ vs ws : List ℕ} {at m n : ℕ} → Put b at vs b₁ m → Put b₁ m ws b₂ n → Put b at (vs ++ ws) b₂ n
then {b} {b₁} {b₂} {vs} {ws} {at} {m} {n} p q =
    let s : b₁ ≡ sets b at vs = p.laid ∙ sym (stores_over vs b at (omega (arith, p.place, p.room))) in
    stored (omega (arith, p.place, q.place, length-append vs ws)) (omega (arith, q.room, put_length p))
    (q.laid ∙ sym (stores_over ws b₁ m (omega (arith, q.place, q.room))) ∙ rw (p.place, s) (sym (sets_append vs ws b at)))

-- one byte
pub byte : (b : List ℕ) (at v : ℕ) → at < length b → Put b at (v ∷ []) (set b at v) (at + 1)
byte b at v h = stored refl (omega arith) refl

-- a turn of a loop that copies w
pub copy_more : (b w : List ℕ) (o j : ℕ) → j < length w → sets b o (drop j w) ≡ sets (set b o (get_or w j 0)) (o + 1) (drop (j + 1) w)
copy_more b w o j h = rw (drop-cons w j 0, add-one j, add-one o)

-- a part of memory, given back as w
pub part_over : (b w x : List ℕ) (at n : ℕ) → x ≡ w → n ≡ length w → put_mid at n b x ≡ over b at w
unfolding over
part_over b w x at n e l = ap (λ (t : List ℕ). take at b ++ t) (λ i. e i ++ (drop-drop n at b ∙ ap (λ m. drop (at + m) b) l) i) ∙ sym (append_assoc (take at b) w _)
