-- Whole numbers: a place x on a lead of p followed by copies of t each.
use Prim.Native.Nat.{ℕ, suc, ◌+◌, ◌-◌, ◌*◌, ◌/◌, ◌≤◌, ◌<◌}
use mathlib.Core.Path.{◌≡◌, sym, ap, ◌∙◌}
use native.Mathlib.Nat.{add-mul, add-mul-div_right, div-eq_of_lt, div-eq-sub-div}
use native.Mathlib.Omega.{arith}
use lib.Dec.{leb}
use borrow.Author.Tests.{leb-true, leb-false, le-leb, lt-leb}
use Rattle.laws.proofs.Choice.{by_test}

-- a test of two numbers with the same added to both
pub leb_both : (a b k : ℕ) → leb (a + k) (b + k) ≡ leb a b
leb_both a b k =
    by_test (leb a b)
    (λ e. le-leb (a + k) (b + k) (omega (arith, leb-true)) ∙ sym e)
    (λ e. lt-leb (a + k) (b + k) (omega (arith, leb-false)) ∙ sym e)

module _ (p t : ℕ) (pos : 0 < t) where
  -- in the first copy none is finished, and later one more than behind the first
  pub none_gone : (x : ℕ) → x < p + t → (x - p) / t ≡ 0
  none_gone x h = div-eq_of_lt (omega arith)

  pub one_gone : (x : ℕ) → p + t ≤ x → (x - p) / t ≡ suc ((x - (p + t)) / t)
  one_gone x h =
      let e : x - p - t ≡ x - (p + t) = omega arith in
      let d = div-eq-sub-div {m = t} {n = x - p} pos (omega arith) in
      let c = ap (λ (n : ℕ). n / t) e in
      omega arith

  -- with k copies taken off the way, k fewer are finished
  less_gone : (k x : ℕ) → k * t ≤ x - p → (x - p) / t ≡ (x - k * t - p) / t + k
  less_gone k x h =
      let e : x - p ≡ x - k * t - p + k * t = omega arith in
      ap (λ (n : ℕ). n / t) e ∙ add-mul-div_right (x - k * t - p) k pos

  pub less_left : (k x : ℕ) → k * t ≤ x - p → x - k * t - (x - k * t - p) / t * t ≡ x - (x - p) / t * t
  less_left k x h =
      let e = ap (λ (n : ℕ). n * t) (less_gone k x h) in
      omega (arith, add-mul ((x - k * t - p) / t) k t)
