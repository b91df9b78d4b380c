use mathlib.Core.Path.{◌≡◌}
use lib.ListN.{length}
use borrow.Author.Tests.{lt-ltb, le-ltb}
use Rattle.code.specs.Letters.{learnt_letters}
use Rattle.code.proofs.Lettering.{learn_known, learn_full, learn_new}
use Rattle.code.proofs.letters.learn.Goals as goal
use Rattle.code.proofs.letters.learn.Goals.{Start}

long : (c : Start) → length c.args.letters.pairs ≡ 15
long c = c.well_formed.0.1.1.1.0.1.0.1

pub returns-then-place_of-count : goal.returns-then-place_of-count
unfolding learnt_letters
returns-then-place_of-count c =
    let known = rw c.place_of.ensures at c.if-place_of-count.true in
    record {
      result = rw (lt-ltb _ _ known);
      kept = λ few. learn_known _ _ (long c.before.before) few known;
    }

pub returns-then-count-lt-LETTERS : goal.returns-then-count-lt-LETTERS
unfolding learnt_letters
returns-then-count-lt-LETTERS c =
    let new = rw c.place_of.ensures at c.if-place_of-count.false in
    record {
      result = rw (le-ltb _ _ new, lt-ltb _ _ c.if-count-lt-LETTERS.true);
      kept = λ few. learn_new _ _ (long c.before.before.before.before) few new c.if-count-lt-LETTERS.true;
    }

pub returns-else-count-lt-LETTERS : goal.returns-else-count-lt-LETTERS
unfolding learnt_letters
returns-else-count-lt-LETTERS c =
    let new = rw c.place_of.ensures at c.if-place_of-count.false in
    record {
      result = rw (le-ltb _ _ new, le-ltb _ _ c.if-count-lt-LETTERS.false);
      kept = λ few. learn_full _ _ (long c.before.before.before) few new c.if-count-lt-LETTERS.false;
    }
