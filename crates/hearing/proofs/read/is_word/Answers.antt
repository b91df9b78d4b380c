use mathlib.Core.Path.{◌∙◌}
use Rattle.hearing.proofs.Loops.{is}
use Rattle.hearing.proofs.read.is_word.Goals as goal

pub returns : goal.returns
returns c = c.eq.ensures ∙ is c.args.s.now c.args.w.now
