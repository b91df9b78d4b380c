use mathlib.Core.Path.{sym, ◌∙◌}
use Rattle.steps.specs.Step.{set_mode}
use Rattle.steps.proofs.step.set_mode.Goals as goal

pub returns-then-is_running : goal.returns-then-is_running
unfolding set_mode
returns-then-is_running c = rw (sym c.is_running.ensures ∙ c.if-is_running.true) c.fails.ensures

pub returns : goal.returns
unfolding set_mode
returns c = rw (sym c.is_running.ensures ∙ c.if-is_running.false, c.with_mode.ensures)
