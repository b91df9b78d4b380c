use mathlib.Core.Path.{ap}
use lib.ListN.{length}
use Rattle.reply.proofs.Lengths.{reply_fits}
use Rattle.laws.proofs.Put.{nothing}
use native.Mathlib.Omega.{arith}
use Rattle.output.specs.Output.{answer_frames}
use Rattle.output.proofs.put_answer.Goals as goal

pub put_reply-requires : goal.put_reply-requires
put_reply-requires c = let e = rw c.in-Reply.is at c.requires.0 in omega (arith, ap length e, reply_fits c.in-Reply.reply)

pub returns-in-Refused : goal.returns-in-Refused
unfolding answer_frames
returns-in-Refused c = rw c.in-Refused.is c.put_refusal.ensures

pub returns-in-Taken : goal.returns-in-Taken
unfolding answer_frames
returns-in-Taken c = rw c.in-Taken.is (nothing _ _ (omega arith))

pub returns-in-Reply : goal.returns-in-Reply
unfolding answer_frames
returns-in-Reply c = let e = rw c.in-Reply.is at c.requires.0 in rw (c.in-Reply.is, ← e) c.put_reply.ensures
