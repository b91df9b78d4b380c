use mathlib.Core.Path.{sym, ◌∙◌}
use Rattle.steps.specs.Step.{also_told}
use Rattle.steps.proofs.step.also_told.Goals as goal

pub returns-then-owns : goal.returns-then-owns
unfolding also_told
returns-then-owns c = rw (sym c.owns.ensures ∙ c.if-owns.true)

pub returns-else-owns : goal.returns-else-owns
unfolding also_told
returns-else-owns c = rw (sym c.owns.ensures ∙ c.if-owns.false)
