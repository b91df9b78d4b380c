-- One turn of the loop over what is kept.
use mathlib.Core.Path.{◌≡◌}
use mathlib.Core.Bool.{Bool, not}
use mathlib.Core.List.{List}
use Prim.Native.Nat.{ℕ, ◌+◌, ◌-◌, ◌*◌, ◌<◌, ◌≤◌}
use lib.ListN.{get_or}
use borrow.Author.Tests.{lt-ltb, le-ltb}
use Rattle.laws.specs.Lists.{numbers}
use Rattle.laws.proofs.Numbers.{numbers_next}
use Rattle.meaning.specs.Time.{on_at}

-- the count at i, in ticks, and the place t
module _ (kept : List ℕ) (on : Bool) (i end t ticks : ℕ) (h : i < end) (m : ticks ≡ get_or kept i 0 * 1000000) where
  pub inside : t < ticks → on ≡ on_at on (numbers kept i (end - i)) t
  inside f = rw (numbers_next kept i end h) (simp (lt-ltb t (get_or kept i 0 * 1000000) (rw m at f)))

  pub beyond : ticks ≤ t → on_at on (numbers kept i (end - i)) t ≡ on_at (not on) (numbers kept (i + 1) (end - (i + 1))) (t - ticks)
  beyond f = rw (numbers_next kept i end h, m) (simp (le-ltb t (get_or kept i 0 * 1000000) (rw m at f)))
