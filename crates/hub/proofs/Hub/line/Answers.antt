use mathlib.Core.Path.{refl, sym}
use borrow.Author.Tests.{lt-ltb, le-ltb}
use Rattle.laws.proofs.Put.{over_nothing}
use Rattle.request.proofs.Accepted.{within}
use Rattle.hub.specs.Line.{line_step}
use Rattle.hub.proofs.Answering.{answers}
use Rattle.hub.proofs.Hub.line.Goals as goal

pub returns-then-connection-gt-MOST_CONNECTION : goal.returns-then-connection-gt-MOST_CONNECTION
unfolding line_step
returns-then-connection-gt-MOST_CONNECTION c =
    rw (lt-ltb _ _ c.if-connection-gt-MOST_CONNECTION.true)
    (record { writes = record { result = c.refused.ensures; laid = sym (over_nothing _ 0) }; kept = refl })

pub returns-then-reply-lt-ROOM : goal.returns-then-reply-lt-ROOM
unfolding line_step
returns-then-reply-lt-ROOM c =
    rw (le-ltb _ _ c.if-connection-gt-MOST_CONNECTION.false, lt-ltb _ _ c.if-reply-lt-ROOM.true)
    (record { writes = record { result = c.refused-then-reply-lt-ROOM.ensures; laid = sym (over_nothing _ 0) }; kept = refl })

pub asked-decided-requires : goal.asked-decided-requires
asked-decided-requires c = (c.requires, rw c.read_request-request.ensures (within _))

pub returns : goal.returns
unfolding line_step
returns c =
    rw (le-ltb _ _ c.if-connection-gt-MOST_CONNECTION.false, le-ltb _ _ c.if-reply-lt-ROOM.false, ← c.read_request-request.ensures)
    (answers c.asked-decided.ensures c.written.ensures)
