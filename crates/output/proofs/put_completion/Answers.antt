use mathlib.Core.Path.{ap}
use native.Mathlib.Omega.{arith}
use lib.ListN.{length}
use Rattle.reply.specs.declared.Reply.TheVariants.{Complete}
use Rattle.reply.proofs.Lengths.{reply_fits}
use Rattle.output.specs.Output.{completion_frame}
use Rattle.output.proofs.Laying.{laid_text}
use Rattle.output.proofs.put_completion.Goals as goal

pub slice_bounds-put_completed-end : goal.slice_bounds-put_completed-end
slice_bounds-put_completed-end c = omega (arith, ap length (laid_text c.put_reply-size.ensures), c.put_reply-size.ensures.place)

pub put_completed-requires : goal.put_completed-requires
put_completed-requires c = omega (arith, ap length (laid_text c.put_reply-size.ensures), reply_fits (Complete c.args.completion.place c.args.completion.id))

pub returns : goal.returns
unfolding completion_frame
returns c = rw (← laid_text c.put_reply-size.ensures) c.put_completed.ensures
