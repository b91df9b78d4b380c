-- Text laid into memory of a fixed length, which may be too short for it.
use Prim.Native.Nat.{ℕ, suc, ◌+◌, ◌-◌, ◌≤◌}
use mathlib.Core.Path.{◌≡◌, refl, sym, ap, ◌∙◌}
use mathlib.Core.List.{List, [], ◌∷◌}
use native.Mathlib.Omega.{arith}
use lib.Dec.{leb}
use lib.ListN.{length, take, drop, take-append-drop}
use lib.Seq.{sets, set_out, length-sets, length-take-le, take_all}
use borrow.Author.Tests.{leb-true, leb-false}
use Rattle.laws.specs.Put.{over, stored_in}
use Rattle.laws.proofs.Choice.{by_test}
use Rattle.laws.proofs.Lists.{sets_append}
use Rattle.laws.proofs.Put.{stores_over, over_nothing}

-- behind the buffer's end nothing is stored
pub sets_out : (vs l : List ℕ) (i : ℕ) → length l ≤ i → sets l i vs ≡ l
sets_out [] l i h = refl
sets_out (v ∷ vs) l i h = rw (set_out l i v h) (sets_out vs l (suc i) (omega arith))

module _ (buffer : List ℕ) (size : ℕ) (bytes : List ℕ) where
  -- where there is room, all bytes are stored
  pub stored_whole : size + length bytes ≤ length buffer → stored_in buffer size bytes ≡ over buffer size bytes
  stored_whole h = ap (over buffer size) (take_all (length buffer - size) bytes (omega arith))

  abbrev room : ℕ
  room = length buffer - size

  -- where there is not, the bytes that have room, and nothing of the others
  stored_cut : size ≤ length buffer → room ≤ length bytes → sets buffer size bytes ≡ stored_in buffer size bytes
  stored_cut h k =
      let n = length-take-le room bytes k in
      let full : length (sets buffer size (take room bytes)) ≤ size + length (take room bytes) =
      omega (arith, length-sets buffer size (take room bytes)) in
      ap (sets buffer size) (sym (take-append-drop room bytes))
      ∙ sets_append (take room bytes) (drop room bytes) buffer size
      ∙ sets_out (drop room bytes) (sets buffer size (take room bytes)) (size + length (take room bytes)) full
      ∙ stores_over (take room bytes) buffer size (omega arith)

  -- so does the loop, byte by byte
  pub stores_stored : sets buffer size bytes ≡ stored_in buffer size bytes
  stores_stored =
      by_test (leb size (length buffer))
      (λ e. by_test (leb room (length bytes))
      (λ f. stored_cut (leb-true size (length buffer) e) (leb-true room (length bytes) f))
      (λ f.
      let h : size + length bytes ≤ length buffer = omega (arith, leb-true size (length buffer) e, leb-false room (length bytes) f) in
      stores_over bytes buffer size h ∙ sym (stored_whole h)))
      (λ e.
      let h = leb-false size (length buffer) e in
      let none : room ≡ 0 = omega arith in
      sets_out bytes buffer size (omega arith) ∙ rw none (sym (over_nothing buffer size)))
