use Rattle.std.proofs.Common.{◌≡◌, sym, ◌∙◌, rules, tests, length, take}
use borrow.Author.Tests.{lt-ltb, le-ltb, eq-eqb, ne_eqb, eqb-false}
use Rattle.std.proofs.lemmas.Iterator.{YieldsList-from_slice, YieldsList-from_take}
use Rattle.std.proofs.lemmas.Iterator.Search.{all_from_yields_List}
use Rattle.laws.specs.Lists.{all}
use Rattle.command.proofs.Giving.{list_all_law}
use Rattle.code.specs.Limits.{legal, most_counts}
use Rattle.composer.specs.Fault.{counts_fault}
use Rattle.composer.proofs.fault.counts_fault.Goals as goal
use Rattle.composer.proofs.fault.counts_fault.Goals.{After-all-legal}

some : (c : After-all-legal) → length c.args.counts.now ≡ 0 → ⊥
some c = eqb-false _ 0 (sym c.is_empty.ensures ∙ c.if-is_empty.false)

legals : (c : After-all-legal) → all (legal c.args.freq) (take most_counts c.args.counts.now) ≡ c.all-legal.result
legals c =
    let a = all_from_yields_List (legal c.args.freq) _ _ c.all-legal.result c.all-legal.ensures.ran (YieldsList-from_take 520 (YieldsList-from_slice c.args.counts.now cc) cc) (λ x b q k. search (rules, tests)) in
    sym (a ∙ list_all_law (legal c.args.freq) (take most_counts c.args.counts.now))

pub returns-then-is_empty : goal.returns-then-is_empty
unfolding counts_fault
returns-then-is_empty c = rw (sym c.is_empty.ensures ∙ c.if-is_empty.true)

pub returns-then-not-legal : goal.returns-then-not-legal
unfolding counts_fault
returns-then-not-legal c =
    let a = (goal.at.returns-then-not-legal c).After-all-legal in
    rw (ne_eqb _ 0 (some a), legals a, c.if-not-legal.true)

pub returns-then-counts-gt-MOST_COUNTS : goal.returns-then-counts-gt-MOST_COUNTS
unfolding counts_fault
returns-then-counts-gt-MOST_COUNTS c =
    let a = (goal.at.returns-then-counts-gt-MOST_COUNTS c).After-all-legal in
    rw (ne_eqb _ 0 (some a), legals a, c.if-not-legal.false, lt-ltb most_counts _ c.if-counts-gt-MOST_COUNTS.true)

pub returns-then-counts-ne0 : goal.returns-then-counts-ne0
unfolding counts_fault
returns-then-counts-ne0 c =
    let a = (goal.at.returns-then-counts-ne0 c).After-all-legal in
    rw (ne_eqb _ 0 (some a), legals a, c.if-not-legal.false, le-ltb most_counts _ c.if-counts-gt-MOST_COUNTS.false, ne_eqb _ 0 c.if-counts-ne0.true)

pub returns : goal.returns
unfolding counts_fault
returns c =
    let a = (goal.at.returns c).After-all-legal in
    rw (ne_eqb _ 0 (some a), legals a, c.if-not-legal.false, le-ltb most_counts _ c.if-counts-gt-MOST_COUNTS.false, eq-eqb _ 0 c.if-counts-ne0.false)
