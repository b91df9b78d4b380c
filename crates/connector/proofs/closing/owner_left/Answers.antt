use mathlib.Core.Path.{sym, ◌∙◌}
use Rattle.connector.specs.Change.{owner_left}
use Rattle.connector.proofs.closing.owner_left.Goals as goal

pub returns-then-owns : goal.returns-then-owns
unfolding owner_left
returns-then-owns c = rw (sym c.owns.ensures ∙ c.if-owns.true)

pub returns-else-owns : goal.returns-else-owns
unfolding owner_left
returns-else-owns c = rw (sym c.owns.ensures ∙ c.if-owns.false)
