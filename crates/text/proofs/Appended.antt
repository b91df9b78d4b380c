-- Laws of what is written behind one another.
use mathlib.Core.Path.{◌≡◌, refl, sym, ◌∙◌}
use mathlib.Core.List.{List, [], ◌++◌}
use native.Mathlib.Omega.{arith}
use Prim.Native.Nat.{ℕ}
use Rattle.laws.proofs.Put.{nothing, then}
use Rattle.text.specs.declared.write.Out.{Out}
use Rattle.text.specs.Write.{Room, Appended}

-- no text
pub no_text : {out : Out} → Room out 0 → Appended out out []
no_text {out} h = record { put = nothing out.buf.now out.at (omega (arith, h)); size = refl; same = refl; stays = refl }

-- one text behind the other
pub and_then : {a b c : Out} {s t : List ℕ} → Appended a b s → Appended b c t → Appended a c (s ++ t)
and_then v w = record { put = then v.put w.put; size = w.size ∙ v.size; same = w.same ∙ v.same; stays = w.stays ∙ v.stays }

-- there is one outcome
pub one_end : {a b c : Out} {s : List ℕ} → Appended a b s → Appended a c s → b ≡ c
one_end v w = λ i. record {
  buf = record { ref_ptr = (v.stays ∙ sym w.stays) i; ghost_name = (v.same ∙ sym w.same) i; now = (v.put.laid ∙ sym w.put.laid) i };
  at = (v.put.place ∙ sym w.put.place) i;
}
