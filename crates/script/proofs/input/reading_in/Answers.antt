use lib.Seq.{length-take-le}
use mathlib.Core.Path.{sym, ◌∙◌}
use native.Mathlib.Omega.{arith}
use Rattle.script.proofs.Parting.{up_to_length}
use Rattle.script.proofs.Inputs.{reading_whole, reading_no_port, reading_no_value, reading_is}
use Rattle.script.proofs.input.reading_in.Goals as goal

pub returns-then-end-s : goal.returns-then-end-s
returns-then-end-s c = sym (reading_whole c.args.s.now c.part_end-end.ensures c.if-end-s.true)

pub overflow_add-next : goal.overflow_add-next
overflow_add-next c = omega (arith, c.part_end-end.ensures, up_to_length 32 c.args.s.now)

pub slice_bounds-figures_of-end : goal.slice_bounds-figures_of-end
slice_bounds-figures_of-end c = sym (length-take-le _ _ (omega (arith, c.part_end-end.ensures, up_to_length 32 c.args.s.now)))

pub returns-in_default : goal.returns-in_default
returns-in_default c =
    sym (reading_no_port c.args.s.now c.part_end-end.ensures (sym c.figures_of.ensures ∙ c.in_default.is))

pub returns-in_default-figures_of : goal.returns-in_default-figures_of
returns-in_default-figures_of c =
    sym (reading_no_value c.args.s.now c.part_end-end.ensures c.if-end-s.false (sym c.figures_of-2.ensures ∙ c.in_default-figures_of.is))

pub returns : goal.returns
returns c =
    sym (reading_is c.args.s.now c.part_end-end.ensures c.if-end-s.false _ _
    (sym c.figures_of.ensures ∙ c.in-Some.is) (sym c.figures_of-2.ensures ∙ c.in-Some-figures_of.is))

pub slice_bounds-figures_of-count : goal.slice_bounds-figures_of-count
slice_bounds-figures_of-count c = omega (arith, c.part_end-end.ensures, c.if-end-s.false, up_to_length 32 c.args.s.now)

pub slice_bounds-figures_of-start : goal.slice_bounds-figures_of-start
slice_bounds-figures_of-start c = omega (arith, c.part_end-end.ensures, c.if-end-s.false, up_to_length 32 c.args.s.now)
