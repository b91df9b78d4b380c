-- A test of every byte, done piece by piece; pieces may lie over each other.
use Prim.Native.Nat.{ℕ, zero, suc, ◌+◌, ◌-◌, ◌≤◌}
use mathlib.Core.Path.{◌≡◌, refl, sym, ap, ◌∙◌}
use mathlib.Core.List.{List, [], ◌∷◌, ◌++◌}
use mathlib.Core.Bool.{Bool, true, false, ◌&&◌}
use native.Mathlib.Omega.{arith}
use lib.ListN.{length, take, drop, length-drop}
use lib.Seq.{take_all, drop-drop, drop-append_seam}
use Rattle.std.proofs.lemmas.List.Folds.{list_all-append}
use Rattle.laws.specs.Lists.{all}
use Rattle.laws.proofs.Choice.{and_false, by_test, not_both}

module _ (p : ℕ → Bool) where
  -- a piece at the end that fails
  pub drop_fails : (s : List ℕ) (b : ℕ) → all p (drop b s) ≡ false → all p s ≡ false
  drop_fails s zero e = e
  drop_fails [] (suc b) e = e
  drop_fails (x ∷ s) (suc b) e = ap (λ (y : Bool). p x && y) (drop_fails s b e) ∙ and_false (p x)

  -- what is left of a text behind pieces that hold gives the answer
  pub record Left (s rest : List ℕ) : Type 0 where
    pub at : ℕ
    pub is : rest ≡ drop at s
    pub same : all p rest ≡ all p s

  pub all_left : (s : List ℕ) → Left s s
  all_left s = record { at = 0; is = refl; same = refl }

  module _ (s rest piece next : List ℕ) (left : Left s rest) (e : rest ≡ piece ++ next) where
    parts : all p piece && all p next ≡ all p s
    parts = sym (list_all-append p piece next) ∙ ap (all p) (sym e) ∙ left.same

    -- a piece that holds
    pub piece_more : all p piece ≡ true → Left s next
    piece_more h =
        record {
          at = left.at + length piece;
          is = sym (drop-append_seam piece next) ∙ ap (drop (length piece)) (sym e ∙ left.is) ∙ drop-drop (length piece) left.at s;
          same = rw h at parts;
        }

  -- the last piece, which may begin before what is left
  pub piece_last : (s rest : List ℕ) (k : ℕ) → Left s rest → length rest ≤ k → k ≤ length s
      → all p (take (length s - (length s - k)) (drop (length s - k) s)) ≡ all p s
  piece_last s rest k left few h =
      let b = length s - k in
      let before : b ≤ left.at = omega (arith, ap length left.is, length-drop left.at s) in
      let within : rest ≡ drop (left.at - b) (drop b s) =
      left.is ∙ ap (λ (n : ℕ). drop n s) (omega arith) ∙ sym (drop-drop (left.at - b) b s) in
      ap (all p) (take_all (length s - b) (drop b s) (omega (arith, length-drop b s)))
      ∙ by_test (all p (drop b s))
      (λ t. t ∙ by_test (all p rest)
      (λ u. sym u ∙ left.same)
      (λ u. not_both t (drop_fails (drop b s) (left.at - b) (sym (ap (all p) within) ∙ u))))
      (λ t. t ∙ sym (drop_fails s b t))
