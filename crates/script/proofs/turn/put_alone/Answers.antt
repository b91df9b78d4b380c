use mathlib.Core.Path.{sym}
use native.Mathlib.Omega.{arith}
use lib.Seq.{length-take-le}
use Rattle.laws.proofs.Put.{put_length}
use Rattle.connector.specs.declared.Owner.TheVariants.{Connection}
use Rattle.script.specs.Output.{who_text}
use Rattle.script.proofs.Replies.{reply_most}
use Rattle.script.proofs.Putting.{aside}
use Rattle.script.proofs.turn.put_alone.Goals as goal

pub slice_bounds-put_lines-end : goal.slice_bounds-put_lines-end
slice_bounds-put_lines-end c = sym (length-take-le _ _ (omega (arith, c.put_reply-size.ensures.room, put_length c.put_reply-size.ensures)))

pub put_lines-requires : goal.put_lines-requires
put_lines-requires c =
    rw (aside c.put_reply-size.ensures) (omega (arith, c.requires, reply_most (Connection c.args.connection) c.args.reply))

pub returns : goal.returns
unfolding who_text
returns c = rw (aside c.put_reply-size.ensures) at c.put_lines.ensures
