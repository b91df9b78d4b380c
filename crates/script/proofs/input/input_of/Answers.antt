use mathlib.Core.Path.{sym, ◌∙◌}
use native.Mathlib.Omega.{arith}
use Rattle.text.proofs.Reading.{digit_range}
use Rattle.script.proofs.Inputs.{one_digit}
use Rattle.script.proofs.input.input_of.Goals as goal

pub overflow_sub-b : goal.overflow_sub-b
overflow_sub-b c =
    omega (arith, digit_range c.byte_at-b.result (sym c.is_digit.ensures ∙ c.if-is_digit.true))

pub returns-then-byte_at-eq32 : goal.returns-then-byte_at-eq32
returns-then-byte_at-eq32 c =
    rw (c.from.ensures, c.byte_at-b.ensures)
    (sym (one_digit _ (rw c.byte_at-b.ensures at (sym c.is_digit.ensures ∙ c.if-is_digit.true)) (sym c.byte_at.ensures ∙ c.if-byte_at-eq32.true)))
