use mathlib.Core.Path.{sym, ◌∙◌}
use Rattle.steps.specs.Step.{of_lamp}
use Rattle.steps.proofs.step.of_lamp.Goals as goal

pub returns-then-not-is_lighting : goal.returns-then-not-is_lighting
unfolding of_lamp
returns-then-not-is_lighting c = rw (sym c.is_lighting.ensures ∙ c.if-not-is_lighting.true) c.fails.ensures

pub returns-then-more : goal.returns-then-more
unfolding of_lamp
returns-then-more c = rw (sym c.is_lighting.ensures ∙ c.if-not-is_lighting.false, c.if-more.true, c.fails-then-more.ensures, c.nowhere.ensures)

pub returns : goal.returns
unfolding of_lamp
returns c = rw (sym c.is_lighting.ensures ∙ c.if-not-is_lighting.false, c.if-more.false)
