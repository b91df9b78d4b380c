use mathlib.Core.Path.{sym, ◌∙◌}
use native.Mathlib.Omega.{arith}
use mathlib.Core.List.{append-nil}
use Rattle.reply.proofs.Lengths.{reply_fits}
use Rattle.script.proofs.Replies.{around_reply, one_some}
use Rattle.script.proofs.turn.put_reply.Goals as goal

pub put_around-requires : goal.put_around-requires
put_around-requires c =
    let args = c.args in
    let one = sym c.is_one_line.ensures ∙ c.if-is_one_line.true in
    (c.requires.1, omega (arith, c.requires.2, one_some args.reply one), omega (arith, c.requires.0, c.requires.2, reply_fits args.reply))

pub returns-then-is_one_line : goal.returns-then-is_one_line
returns-then-is_one_line c =
    let args = c.args in
    let one = sym c.is_one_line.ensures ∙ c.if-is_one_line.true in
    let line = around_reply args.out.now args.used args.connection args.reply args.size one c.requires.1 c.requires.2 c.requires.0 c.requires.3 in
    rw (c.in-Nobody.is, append-nil, c.put_around.ensures.0, c.put_around.ensures.1) line

pub returns-in-Connection : goal.returns-in-Connection
returns-in-Connection c = rw c.in-Connection.is c.put_both.ensures

pub returns-else-is_one_line : goal.returns-else-is_one_line
returns-else-is_one_line c = rw (c.in-Nobody.is, append-nil) c.put_alone.ensures
