-- A number of few digits is small: it is below 16 to the power of how many there are.
use Prim.Native.Nat.{ℕ, ◌+◌, ◌*◌, ◌%◌, ◌^◌, ◌≤◌, ◌<◌}
use native.Mathlib.Nat.{pow-succ', pow-le-pow_right}
use native.Mathlib.Numerals.{add-one}
use native.Mathlib.Omega.{arith}

pub small : (value count : ℕ) → count ≤ 10 → value < 16 ^ count → value < 16 ^ 10
small value count few below = omega (arith, below, pow-le-pow_right {n = 16} (omega arith) few)

-- with one digit more
pub more : (value count digit : ℕ) → value < 16 ^ count → value * 10 + digit % 16 < 16 ^ (count + 1)
more value count digit below = rw (add-one, pow-succ') (omega (arith, below))
