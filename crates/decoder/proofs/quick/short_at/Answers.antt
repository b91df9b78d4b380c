use Prim.Native.Nat.{◌+◌}
use mathlib.Core.Path.{◌≡◌, refl, sym, ◌∙◌}
use native.Mathlib.Omega.{arith}
use Rattle.decoder.proofs.Shorts.{shortly_more, shortly_stop}
use Rattle.decoder.proofs.quick.short_at.Goals as goal

pub returns-then-not-is_digit : goal.returns-then-not-is_digit
returns-then-not-is_digit c =
    shortly_stop c.loop-i.invariant _ refl (omega arith) c.if-s-comma-ne44.false (omega arith) (sym c.is_digit.ensures ∙ c.if-not-is_digit.true)

pub loop-i-preserved : goal.loop-i-preserved
loop-i-preserved c =
    shortly_more c.loop-i.invariant (omega arith) (omega arith) (sym c.is_digit.ensures ∙ c.if-not-is_digit.false) (cc)

pub returns : goal.returns
returns c =
    let end : c.loop-i.i ≡ c.args.comma + 6 = omega arith in
    shortly_stop (rw end at c.loop-i.invariant) _ refl (omega arith) c.if-s-comma-ne44.false (omega arith) (sym c.is_digit-2.ensures ∙ c.if-is_digit.false)
