-- Laws of texts that are cut at a byte: the loop that looks for it, and what stands before and behind it.
use Prim.Native.Nat.{ℕ, suc, ◌+◌, ◌≤◌, ◌<◌}
use mathlib.Core.Path.{◌≡◌, refl, sym, ap, ◌∙◌}
use mathlib.Core.Bool.{true, false, not}
use mathlib.Core.List.{List, [], ◌∷◌, ◌++◌, append-nil}
use native.Mathlib.Omega.{arith}
use borrow.Author.Tests.{eq-eqb, ne_eqb}
use lib.Dec.{eqb}
use lib.ListN.{length, take, drop, get_or, length-append, drop_of_length-le}
use lib.Seq.{take-append_seam, drop-append-add}
use Rattle.laws.specs.Lists.{cut, behind, free}
use Rattle.laws.proofs.Choice.{by_test}
use Rattle.laws.proofs.Cutting.{up_to, from, split, Ending, ends, goes, ending, all_broken}
use Rattle.laws.proofs.Joining.{cut_next}
use Rattle.laws.proofs.Lists.{drop_next}

-- ---- the loop
module _ (c : ℕ) (s : List ℕ) (i : ℕ) where
  pub up_to_more : i < length s → (get_or s i 0 ≡ c → ⊥) → length (up_to c (drop i s)) ≡ suc (length (up_to c (drop (i + 1) s)))
  up_to_more h ne = rw (drop_next s i 0 h, ne_eqb (get_or s i 0) c ne)

  pub up_to_stop : i < length s → get_or s i 0 ≡ c → length (up_to c (drop i s)) ≡ 0
  up_to_stop h e = rw (drop_next s i 0 h, eq-eqb (get_or s i 0) c e)

  pub up_to_done : length s ≤ i → length (up_to c (drop i s)) ≡ 0
  up_to_done h = rw (drop_of_length-le s h)

-- ---- a text with a c in it, and one without
module _ (c : ℕ) where
  pub up_to_free : (s : List ℕ) → free c (up_to c s) ≡ true
  up_to_free [] = refl
  up_to_free (b ∷ s) = by_test (eqb b c) (λ e. rw e) (λ e. rw (e, e) (up_to_free s))

  pub up_to_length : (s : List ℕ) → length (up_to c s) ≤ length s
  up_to_length s = omega (arith, ap length (split c s) ∙ length-append (up_to c s) (from c s))

  pub up_to_take : (s : List ℕ) → take (length (up_to c s)) s ≡ up_to c s
  up_to_take s = ap (take (length (up_to c s))) (split c s) ∙ take-append_seam (up_to c s) (from c s)

  pub parted : (s : List ℕ) → length (up_to c s) < length s → s ≡ up_to c s ++ (c ∷ behind c 1 s)
  parted s h = go (ending c s)
    where
      go : Ending c s → s ≡ up_to c s ++ (c ∷ behind c 1 s)
      go (ends f g k) = absurd (omega (arith, ap length (split c s) ∙ length-append (up_to c s) (from c s), ap length f))
      go (goes f k) = split c s ∙ ap (λ (l : List ℕ). up_to c s ++ l) f

  pub whole : (s : List ℕ) → length (up_to c s) ≡ length s → (up_to c s ≡ s) × (behind c 1 s ≡ [])
  whole s h = go (ending c s)
    where
      go : Ending c s → (up_to c s ≡ s) × (behind c 1 s ≡ [])
      go (ends f g k) = (sym (split c s ∙ rw f (append-nil (up_to c s))), g)
      go (goes f k) = absurd (omega (arith, ap length (split c s) ∙ length-append (up_to c s) (from c s), ap length f))

  pub parted_behind : (s : List ℕ) → length (up_to c s) < length s → drop (length (up_to c s) + 1) s ≡ behind c 1 s
  parted_behind s h =
      ap (drop (length (up_to c s) + 1)) (parted s h) ∙ drop-append-add (up_to c s) (c ∷ behind c 1 s) 1

  pub parted_free : (s : List ℕ) → length (up_to c s) < length s → free c s ≡ false
  parted_free s h = ap (free c) (parted s h) ∙ all_broken (λ b. not (eqb b c)) (up_to c s) c (behind c 1 s) (rw (eq-eqb c c refl))

  pub parted_cut : (s : List ℕ) → length (up_to c s) < length s → cut c s ≡ up_to c s ∷ cut c (behind c 1 s)
  parted_cut s h = ap (cut c) (parted s h) ∙ cut_next c (up_to c s) (behind c 1 s) (up_to_free s)
