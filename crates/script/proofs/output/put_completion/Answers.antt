use mathlib.Core.Path.{sym}
use native.Mathlib.Omega.{arith}
use lib.Seq.{length-take-le}
use Rattle.laws.proofs.Put.{then, put_length}
use Rattle.text.proofs.Decimals.{decimal_most}
use Rattle.reply.specs.declared.Reply.TheVariants.{Complete}
use Rattle.script.specs.Output.{printed_completion}
use Rattle.script.proofs.Replies.{reply_most, completion_most}
use Rattle.script.proofs.Putting.{aside}
use Rattle.script.proofs.output.put_completion.Goals as goal

pub put_number-b-requires : goal.put_number-b-requires
put_number-b-requires c = omega (arith, decimal_most c.args.completion.moment.0)

pub put_word-c-requires : goal.put_word-c-requires
put_word-c-requires c = omega (arith, decimal_most c.args.completion.moment.0)

pub slice_bounds-put_lines-end : goal.slice_bounds-put_lines-end
slice_bounds-put_lines-end c = sym (length-take-le _ _ (omega (arith, c.put_reply-size.ensures.room, put_length c.put_reply-size.ensures)))

pub put_lines-requires : goal.put_lines-requires
put_lines-requires c =
    let done = c.args.completion in
    rw (aside c.put_reply-size.ensures)
    (omega (arith, c.requires, decimal_most done.moment.0, reply_most done.owner (Complete done.place done.id)))

pub returns : goal.returns
unfolding printed_completion
returns c =
    let line = rw (aside c.put_reply-size.ensures) at c.put_lines.ensures in
    let whole = then (then (then c.put_word-a.ensures c.put_number-b.ensures) c.put_word-c.ensures) line in
    (whole, omega (arith, whole.place, completion_most c.args.completion))
