use lib.ListN.{length}
use mathlib.Core.Path.{refl}
use Rattle.script.specs.Turn.{line_outcome}
use Rattle.script.proofs.Turning.{line_roomy, overlong_roomy}
use Rattle.script.proofs.turn.answered.Goals as goal

pub returns-then-more : goal.returns-then-more
unfolding line_outcome
returns-then-more c =
    let room = length c.args.reply.now in
    rw c.if-more.true
    (record { writes = rw (overlong_roomy c.args.connection room c.requires.1) at c.overlong_line.ensures; kept = refl })

pub returns : goal.returns
unfolding line_outcome
returns c =
    let args = c.args in
    let room = length args.reply.now in
    rw c.if-more.false
    (rw (line_roomy args.hub args.store.now args.connection args.request.now room c.requires.1) at c.line.ensures)
