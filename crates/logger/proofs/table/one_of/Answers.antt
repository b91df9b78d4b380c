use mathlib.Core.Path.{◌∙◌}
use Rattle.logger.proofs.Loops.{has}
use Rattle.logger.proofs.table.one_of.Goals as goal

pub returns : goal.returns
returns c = c.contains.ensures.value ∙ has c.args.l.now c.args.n
