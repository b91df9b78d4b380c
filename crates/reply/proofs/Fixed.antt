-- The replies that are always the same: each has at most 66 bytes and ends with CR.
use Prim.Native.Nat.{ℕ, ◌-◌, ◌≤◌}
use mathlib.Core.Path.{◌≡◌, refl}
use mathlib.Core.List.{List, [], ◌∷◌, ◌++◌}
use native.Mathlib.Omega.{arith}
use lib.ListN.{length, take}
use Rattle.request.specs.declared.Fixed.{Fixed}
use Rattle.request.specs.declared.Fixed.TheVariants.{Devices, Version}
use Rattle.reply.specs.Reply.{fixed_text}

-- few enough bytes, and the last of them a CR
pub record Proper (text : List ℕ) : Type 0 where
  pub fits : length text ≤ 66
  pub ends : text ≡ take (length text - 1) text ++ (13 ∷ [])

pub fixed_proper : (fixed : Fixed) → Proper (fixed_text fixed)
fixed_proper Devices = record { fits = omega arith; ends = refl }
fixed_proper Version = record { fits = omega arith; ends = refl }
