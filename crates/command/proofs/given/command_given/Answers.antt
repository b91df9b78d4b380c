use mathlib.Core.Path.{◌≡◌, sym, ◌∙◌}
use borrow.Author.Tests.{le-leb, lt-leb}
use lib.ListN.{length}
use Rattle.command.specs.Given.{command_given}
use Rattle.command.proofs.Commands.{nothing_found}
use Rattle.command.proofs.Giving.{counts_in_law, each_fits, given_into}
use borrow.Author.Rules.{rules}
use Rattle.command.proofs.given.command_given.Goals as goal

pub returns-then-not-place_within : goal.returns-then-not-place_within
unfolding command_given
returns-then-not-place_within c = rw (sym c.place_within.ensures ∙ c.if-not-place_within.true) (nothing_found _ _)

pub returns-then-not-given_within : goal.returns-then-not-given_within
unfolding command_given
returns-then-not-given_within c = rw (sym c.place_within.ensures ∙ c.if-not-place_within.false, sym c.given_within.ensures ∙ c.if-not-given_within.true) (nothing_found _ _)

pub returns-then-not-counts_within : goal.returns-then-not-counts_within
unfolding command_given
returns-then-not-counts_within c =
    rw (sym c.place_within.ensures ∙ c.if-not-place_within.false, sym c.given_within.ensures ∙ c.if-not-given_within.false, sym c.counts_within.ensures ∙ c.if-not-counts_within.true) (nothing_found _ _)

pub returns-then-count-f : goal.returns-then-count-f
unfolding command_given
returns-then-count-f c =
    rw (sym c.place_within.ensures ∙ c.if-not-place_within.false, sym c.given_within.ensures ∙ c.if-not-given_within.false, sym c.counts_within.ensures ∙ c.if-not-counts_within.false, le-leb _ _ c.if-count-f.true) (nothing_found _ _)

pub put_counts-requires : goal.put_counts-requires
put_counts-requires c =
    let within = counts_in_law _ _ (sym c.counts_within.ensures ∙ c.if-not-counts_within.false) in
    let most = within.most in
    (search rules, each_fits within)

pub taken-requires : goal.taken-requires
taken-requires c =
    sym c.given_within.ensures ∙ c.if-not-given_within.false

pub returns : goal.returns
unfolding command_given
returns c =
    let size : length c.args.counts.now ≡ 520 = search rules in
    let within = counts_in_law _ _ (sym c.counts_within.ensures ∙ c.if-not-counts_within.false) in
    rw (sym c.place_within.ensures ∙ c.if-not-place_within.false, sym c.given_within.ensures ∙ c.if-not-given_within.false, sym c.counts_within.ensures ∙ c.if-not-counts_within.false, lt-leb _ _ c.if-count-f.false, c.taken.ensures)
    (given_into _ _ _ _ within size c.put_counts.ensures)
