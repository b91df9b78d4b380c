use lib.ListN.{length}
use mathlib.Core.Path.{◌≡◌}
use native.Mathlib.Omega.{arith}
use Rattle.script.proofs.Printing.{completions_more, completions_stop, completions_done}
use Rattle.script.proofs.Putting.{putting_start, putting_length, putting_end, putting_more}
use Rattle.script.proofs.output.put_completions.Goals as goal

pub loop-i-init : goal.loop-i-init
loop-i-init c = (omega arith, omega arith, putting_start _ _ _ (omega arith))

pub shape_of-out-then-count-i : goal.shape_of-out-then-count-i
shape_of-out-then-count-i c = putting_length c.loop-i.invariant.2

pub returns-then-count-i : goal.returns-then-count-i
returns-then-count-i c =
    let done = c.args.completions in
    putting_end c.loop-i.invariant.2 (completions_stop done.items done.count c.loop-i.i c.if-count-i.true)

pub put_completion-o-requires : goal.put_completion-o-requires
put_completion-o-requires c = omega (arith, c.loop-i.invariant, putting_length c.loop-i.invariant.2)

pub loop-i-preserved : goal.loop-i-preserved
loop-i-preserved c =
    let long : length c.args.completions.items ≡ 3 = c.well_formed.1.1.0.1.1.1.0.1.0.1 in
    let done = c.args.completions in
    let put = c.put_completion-o.ensures in (
      omega arith,
      omega (arith, put.1, c.loop-i.invariant.1),
      putting_more c.loop-i.invariant.2 (completions_more done.items done.count c.loop-i.i c.if-count-i.false (omega (arith, long, c.loop-i-test.true))) put.0,
    )

pub shape_of-out : goal.shape_of-out
shape_of-out c = putting_length c.loop-i.invariant.2

pub returns : goal.returns
returns c =
    let long : length c.args.completions.items ≡ 3 = c.well_formed.1.1.0.1.1.1.0.1.0.1 in
    let done = c.args.completions in
    putting_end c.loop-i.invariant.2 (completions_done done.items done.count c.loop-i.i (omega (arith, long, c.loop-i-test.false)))
