-- Laws of the repeat as capped.
use Prim.Native.Nat.{ℕ, ◌≤◌}
use native.Mathlib.Omega.{arith}
use borrow.Author.Tests.{ltb-false}
use lib.Dec.{ltb}
use Rattle.laws.proofs.Choice.{by_test}
use Rattle.command.specs.Fields.{capped}

pub capped_high : (n : ℕ) → capped n ≤ 20
unfolding capped
capped_high n = by_test (ltb 20 n) (λ e. rw e (omega arith)) (λ e. rw e (ltb-false 20 n e))

pub capped_low : (n : ℕ) → 1 ≤ n → 1 ≤ capped n
unfolding capped
capped_low n h = by_test (ltb 20 n) (λ e. rw e (omega arith)) (λ e. rw e h)
