use mathlib.Core.Path.{sym, ◌∙◌}
use native.Mathlib.Omega.{arith}
use lib.Seq.{length-take-le}
use Rattle.script.proofs.Parting.{up_to_length}
use Rattle.script.proofs.Inputs.{input_whole, input_line, input_long, input_call}
use Rattle.script.proofs.input.words_of.Goals as goal

pub returns-then-end-s : goal.returns-then-end-s
returns-then-end-s c = sym (input_whole c.args.s.now c.part_end-end.ensures c.if-end-s.true)

pub overflow_add-next : goal.overflow_add-next
overflow_add-next c = omega (arith, c.part_end-end.ensures, up_to_length 32 c.args.s.now)

pub slice_bounds-figures_of-end : goal.slice_bounds-figures_of-end
slice_bounds-figures_of-end c = sym (length-take-le _ _ (omega (arith, c.part_end-end.ensures, up_to_length 32 c.args.s.now)))

pub returns-then-end-ne1 : goal.returns-then-end-ne1
returns-then-end-ne1 c =
    sym (input_long c.args.s.now c.part_end-end.ensures (sym c.figures_of.ensures ∙ c.in-None.is) c.if-end-ne1.true)

pub bounds-s-0 : goal.bounds-s-0
bounds-s-0 c = omega (arith, c.part_end-end.ensures, c.if-end-s.false, up_to_length 32 c.args.s.now)

pub returns-in-Some : goal.returns-in-Some
returns-in-Some c =
    sym (input_line c.args.s.now c.part_end-end.ensures c.if-end-s.false _ (sym c.figures_of.ensures ∙ c.in-Some.is))

pub returns-else-end-ne1 : goal.returns-else-end-ne1
returns-else-end-ne1 c =
    c.call_in.ensures
    ∙ sym (input_call c.args.s.now c.part_end-end.ensures c.if-end-s.false (sym c.figures_of.ensures ∙ c.in-None.is) c.if-end-ne1.false)
