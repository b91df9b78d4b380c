use native.Mathlib.Omega.{arith}
use Rattle.script.specs.Output.{printed_reply, who_text}
use Rattle.script.proofs.Printing.{line_within, lines_more, line_room, lines_stop, lines_done}
use Rattle.script.proofs.Putting.{putting_start, putting_length, putting_room, putting_end, putting_more}
use Rattle.script.proofs.output.put_lines.Goals as goal

pub loop-i-init : goal.loop-i-init
unfolding printed_reply
loop-i-init c = (omega arith, putting_start _ _ _ (omega arith))

pub shape_of-out-then-end-text : goal.shape_of-out-then-end-text
shape_of-out-then-end-text c = putting_length c.loop-i.invariant.1

pub returns-then-end-text : goal.returns-then-end-text
returns-then-end-text c =
    let args = c.args in
    putting_end c.loop-i.invariant.1 (lines_stop (who_text args.who) args.text.now c.loop-i.i c.part_end-end.result c.part_end-end.ensures c.loop-i.invariant.0 c.if-end-text.true)

pub put_line-o-requires : goal.put_line-o-requires
put_line-o-requires c =
    let args = c.args in
    omega (
      arith,
      putting_room c.loop-i.invariant.1 c.requires,
      line_room (who_text args.who) args.text.now c.loop-i.i c.part_end-end.result c.part_end-end.ensures c.loop-i.invariant.0 c.if-end-text.false,
    )

pub overflow_add-i : goal.overflow_add-i
overflow_add-i c =
    let args = c.args in
    omega (arith, line_within (who_text args.who) args.text.now c.loop-i.i c.part_end-end.result c.part_end-end.ensures c.loop-i.invariant.0, c.if-end-text.false)

pub loop-i-smaller : goal.loop-i-smaller
loop-i-smaller c =
    let args = c.args in
    omega (arith, c.part_end-end.ensures, c.loop-i-test.true)

pub loop-i-preserved : goal.loop-i-preserved
loop-i-preserved c =
    let args = c.args in (
      omega (arith, line_within (who_text args.who) args.text.now c.loop-i.i c.part_end-end.result c.part_end-end.ensures c.loop-i.invariant.0, c.if-end-text.false),
      putting_more c.loop-i.invariant.1
          (lines_more (who_text args.who) args.text.now c.loop-i.i c.part_end-end.result c.part_end-end.ensures c.loop-i.invariant.0 c.if-end-text.false)
          c.put_line-o.ensures,
    )

pub shape_of-out : goal.shape_of-out
shape_of-out c = putting_length c.loop-i.invariant.1

pub returns : goal.returns
returns c =
    let args = c.args in
    putting_end c.loop-i.invariant.1 (lines_done (who_text args.who) args.text.now c.loop-i.i c.loop-i-test.false)

pub slice_bounds-put_line-end : goal.slice_bounds-put_line-end
slice_bounds-put_line-end c =
    omega (arith, line_within (who_text c.args.who) c.args.text.now c.loop-i.i c.part_end-end.result c.part_end-end.ensures c.loop-i.invariant.0)
