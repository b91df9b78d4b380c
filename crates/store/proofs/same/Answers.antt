use Prim.Native.Nat.{◌*◌, ◌≤◌}
use mathlib.Core.Path.{◌∙◌}
use native.Mathlib.Omega.{arith}
use lib.ListN.{length, take}
use Rattle.words.proofs.Standing.{counts_first}
use Rattle.store.proofs.Kept.{alike_is}
use Rattle.store.proofs.same.Goals as goal

pub returns : goal.returns
returns c =
    let kept : 2 * c.args.count ≤ length c.args.kept.now = omega arith in
    let counts : 2 * c.args.count ≤ length c.args.counts.now = omega arith in
    rw (counts_first c.args.count c.args.kept.now kept, counts_first c.args.count c.args.counts.now counts) (c.eq.ensures ∙ alike_is (take (2 * c.args.count) c.args.kept.now) (take (2 * c.args.count) c.args.counts.now))
