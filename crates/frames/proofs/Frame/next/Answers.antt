use mathlib.Core.Path.{subst}
use native.Mathlib.Omega.{arith}
use Rattle.frames.proofs.Keeps.{wait_small}
use Rattle.frames.specs.Read.{SoundFrame}
use Rattle.frames.proofs.Frame.next.Goals as goal

pub overflow_mul-number : goal.overflow_mul-number
overflow_mul-number c = let h = subst SoundFrame c.in-Wait.is c.requires in omega (arith, wait_small _ _ h.0 h.1)

pub overflow_add-number : goal.overflow_add-number
overflow_add-number c = let h = subst SoundFrame c.in-Wait.is c.requires in omega (arith, wait_small _ _ h.0 h.1)
