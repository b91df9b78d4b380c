use mathlib.Core.Path.{sym, ◌∙◌}
use native.Mathlib.Omega.{arith}
use lib.ListN.{drop_of_length-le}
use Rattle.laws.proofs.Put.{copy_more}
use borrow.Author.Rules.{rules}
use Rattle.command.proofs.given.put_counts.Goals as goal

pub overflow_cast-counts : goal.overflow_cast-counts
overflow_cast-counts c = omega (arith, c.requires.1 c.loop-i.i c.loop-i-test.true)

pub loop-i-preserved : goal.loop-i-preserved
loop-i-preserved c = (search rules, c.loop-i.invariant.1 ∙ copy_more _ _ _ _ c.loop-i-test.true)

pub returns : goal.returns
returns c = sym (c.loop-i.invariant.1 ∙ rw (drop_of_length-le _ c.loop-i-test.false))
