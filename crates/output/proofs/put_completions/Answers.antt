use mathlib.Core.Path.{◌≡◌}
use native.Mathlib.Omega.{arith}
use lib.ListN.{length}
use Rattle.laws.proofs.Put.{put_length}
use Rattle.hub.specs.Completions.{no_completion}
use Rattle.output.proofs.Laying.{laying_starts, laying_room, laying_more, laying_stops, laying_ends}
use borrow.Author.Rules.{rules}
use Rattle.output.proofs.put_completions.Goals as goal

pub loop-i-init : goal.loop-i-init
loop-i-init c =
    let long : length c.args.completions.items ≡ 3 = search rules in
    laying_starts _ _ _ _ long c.requires

pub shape_of-out-then-count-i : goal.shape_of-out-then-count-i
shape_of-out-then-count-i c = put_length c.loop-i.invariant.put

pub returns-then-count-i : goal.returns-then-count-i
returns-then-count-i c = laying_stops c.loop-i.invariant c.if-count-i.true

pub bounds-items-i : goal.bounds-items-i
bounds-items-i c = omega (arith, c.loop-i.invariant.long)

pub put_completion-o-requires : goal.put_completion-o-requires
put_completion-o-requires c = laying_room c.loop-i.invariant c.loop-i-test.true

pub loop-i-preserved : goal.loop-i-preserved
loop-i-preserved c = laying_more c.loop-i.invariant no_completion c.loop-i-test.true c.if-count-i.false c.put_completion-o.ensures

pub shape_of-out : goal.shape_of-out
shape_of-out c = put_length c.loop-i.invariant.put

pub returns : goal.returns
returns c = laying_ends c.loop-i.invariant c.loop-i-test.false
