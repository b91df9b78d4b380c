use mathlib.Core.Path.{sym, ◌∙◌}
use native.Mathlib.Omega.{arith}
use Rattle.code.proofs.Smallest.{legal_is}
use Rattle.decoder.proofs.Shorts.{quick_is}
use Rattle.decoder.proofs.quick.quick_at.Goals as goal

pub overflow_cast-pair : goal.overflow_cast-pair
overflow_cast-pair c = omega (arith, (legal_is (sym c.is_legal.ensures ∙ c.if-not-is_legal.false)).high)

pub overflow_cast-pair-2 : goal.overflow_cast-pair-2
overflow_cast-pair-2 c = omega (arith, (legal_is (sym c.is_legal-2.ensures ∙ c.if-not-is_legal-2.false)).high)

pub returns : goal.returns
returns c =
    quick_is c.args.freq c.args.s.now c.args.at c.in_ok-on.on c.in_ok-on.comma c.in_ok-off.off c.in_ok-off.next
    c.in_ok-on.ensures (sym c.is_legal.ensures ∙ c.if-not-is_legal.false)
    c.in_ok-off.ensures (sym c.is_legal-2.ensures ∙ c.if-not-is_legal-2.false)
