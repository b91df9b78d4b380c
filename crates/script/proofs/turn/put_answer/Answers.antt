use native.Mathlib.Omega.{arith}
use Rattle.laws.proofs.Put.{nothing}
use Rattle.script.specs.Output.{printed_answer}
use borrow.Author.Rules.{rules}
use Rattle.script.proofs.turn.put_answer.Goals as goal

pub overflow_cast-connection : goal.overflow_cast-connection
overflow_cast-connection c =
    let few = rw c.in-Reply.is at c.requires.1 in search rules

pub put_reply-requires : goal.put_reply-requires
put_reply-requires c =
    let told = c.in-Reply.is in
    (c.requires.0, rw told at c.requires.1, rw told at c.requires.2, rw told at c.requires.3)

pub returns-in-Refused : goal.returns-in-Refused
unfolding printed_answer
returns-in-Refused c = rw c.in-Refused.is c.put_refusal.ensures

pub returns-in-Taken : goal.returns-in-Taken
unfolding printed_answer
returns-in-Taken c = rw c.in-Taken.is (nothing _ _ (omega arith))

pub returns-in-Reply : goal.returns-in-Reply
unfolding printed_answer
returns-in-Reply c = rw c.in-Reply.is c.put_reply.ensures
