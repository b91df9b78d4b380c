use mathlib.Core.Path.{sym, ◌∙◌}
use Rattle.steps.specs.Step.{stops}
use Rattle.steps.proofs.step.stop.Goals as goal

pub returns-then-is_silent : goal.returns-then-is_silent
unfolding stops
returns-then-is_silent c = rw (sym c.is_silent.ensures ∙ c.if-is_silent.true) c.fails.ensures

pub returns : goal.returns
unfolding stops
returns c =
    let silent = sym c.is_silent.ensures ∙ c.if-is_silent.false in
    rw (silent, c.also_told.ensures, c.with_sending.ensures)
