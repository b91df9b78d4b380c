use mathlib.Core.Path.{◌∙◌}
use Rattle.std.proofs.Common.{rules, tests}
use borrow.Author.Tests.{lt-ltb, le-ltb, eq-eqb, ne_eqb}
use Rattle.std.proofs.lemmas.Iterator.{YieldsList-from_slice}
use Rattle.std.proofs.lemmas.Iterator.Search.{all_from_yields_List}
use Rattle.code.specs.Limits.{legal}
use Rattle.command.specs.Given.{counts_within}
use Rattle.command.proofs.Giving.{list_all_law}
use Rattle.command.proofs.given.counts_within.Goals as goal

pub returns-then-count-lt2 : goal.returns-then-count-lt2
unfolding counts_within
returns-then-count-lt2 c = rw (lt-ltb _ _ c.if-count-lt2.true)

pub returns-then-count-gt-MOST_COUNTS : goal.returns-then-count-gt-MOST_COUNTS
unfolding counts_within
returns-then-count-gt-MOST_COUNTS c = rw (le-ltb _ _ c.if-count-lt2.false, lt-ltb _ _ c.if-count-gt-MOST_COUNTS.true)

pub returns-then-count-ne0 : goal.returns-then-count-ne0
unfolding counts_within
returns-then-count-ne0 c = rw (le-ltb _ _ c.if-count-lt2.false, le-ltb _ _ c.if-count-gt-MOST_COUNTS.false, ne_eqb _ _ c.if-count-ne0.true)

pub returns : goal.returns
unfolding counts_within
returns c =
    let a = all_from_yields_List (legal c.args.freq) _ _ c.all.result c.all.ensures.ran (YieldsList-from_slice c.args.given.now cc) (λ x b q k. search (rules, tests)) in
    rw (le-ltb _ _ c.if-count-lt2.false, le-ltb _ _ c.if-count-gt-MOST_COUNTS.false, eq-eqb _ _ c.if-count-ne0.false)
    (a ∙ list_all_law (legal c.args.freq) c.args.given.now)
