use mathlib.Core.Path.{refl, sym}
use native.Mathlib.Omega.{arith}
use lib.Seq.{set_out}
use Rattle.lines.proofs.Taking.{kept_in, kept_out}
use Rattle.lines.proofs.kept.Goals as goal

pub returns-then-size-buf : goal.returns-then-size-buf
returns-then-size-buf c = (kept_out _ (omega arith), sym (set_out _ _ _ c.if-size-buf.true))

pub returns : goal.returns
returns c = (kept_in _ (omega arith), refl)
