use native.Mathlib.Omega.{arith}
use Rattle.std.proofs.lemmas.Result.{err_from_is_err_and}
use Rattle.text.proofs.Appended.{and_then}
use Rattle.writer.proofs.Sending.{no_room, not_taken, head_small, few_pairs, whole_line}
use Rattle.writer.proofs.sendir.write_sendir.Goals as goal

pub returns-then-buf-lt-ROOM : goal.returns-then-buf-lt-ROOM
returns-then-buf-lt-ROOM c = no_room c.if-buf-lt-ROOM.true

pub put_head-requires : goal.put_head-requires
put_head-requires c =
    let read = rw c.in_ok-f.was at c.command_given.ensures in
    (head_small _ _ read, omega (arith, c.if-buf-lt-ROOM.false))

pub put_code-requires : goal.put_code-requires
put_code-requires c =
    let read = rw c.in_ok-f.was at c.command_given.ensures in
    (few_pairs _ _ read, omega (arith, few_pairs _ _ read, c.if-buf-lt-ROOM.false, c.put_head.ensures.within, c.put_head.ensures.head.size))

pub returns-in_err-f : goal.returns-in_err-f
returns-in_err-f c =
    let p = err_from_is_err_and c.from_residual.result c.from_residual.ensures.1 in
    rw (p.1, p.2) (not_taken _ _ c.if-buf-lt-ROOM.false (rw c.in_err-f.was at c.command_given.ensures))

pub returns : goal.returns
returns c =
    let read = rw c.in_ok-f.was at c.command_given.ensures in
    let line = whole_line _ _ read c.if-buf-lt-ROOM.false (and_then c.put_head.ensures.head c.put_code.ensures).put in
    record { answer = line.answer; laid = grind (arith, line.laid) }
