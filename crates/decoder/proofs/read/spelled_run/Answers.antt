use mathlib.Core.Path.{◌≡◌}
use lib.ListN.{length}
use Rattle.decoder.proofs.Follows.{follows_none, follows_then, follows_spelled}
use borrow.Author.Rules.{rules}
use Rattle.decoder.proofs.read.spelled_run.Goals as goal

pub loop-n-init : goal.loop-n-init
loop-n-init c = λ t. (t, follows_none)

pub loop-n-preserved : goal.loop-n-preserved
loop-n-preserved c =
    λ t.
    let before = c.loop-n.invariant t in
    let size : length c.loop-n.counts ≡ 520 = search rules in
    (_, follows_then before.1 (follows_spelled (c.in-Some.ensures _ (length before.0) c.loop-n-test.true) size c.put_pair.ensures))
