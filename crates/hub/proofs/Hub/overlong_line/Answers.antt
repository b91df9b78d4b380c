use mathlib.Core.Path.{sym}
use Rattle.laws.proofs.Put.{over_nothing}
use borrow.Author.Tests.{lt-ltb, le-ltb}
use Rattle.hub.specs.Line.{overlong_step}
use Rattle.hub.proofs.Hub.overlong_line.Goals as goal

pub returns-then-connection-gt-MOST_CONNECTION : goal.returns-then-connection-gt-MOST_CONNECTION
unfolding overlong_step
returns-then-connection-gt-MOST_CONNECTION c = rw (lt-ltb _ _ c.if-connection-gt-MOST_CONNECTION.true) (record { result = c.refused.ensures; laid = sym (over_nothing _ 0) })

pub returns-then-reply-lt-ROOM : goal.returns-then-reply-lt-ROOM
unfolding overlong_step
returns-then-reply-lt-ROOM c =
    rw (le-ltb _ _ c.if-connection-gt-MOST_CONNECTION.false, lt-ltb _ _ c.if-reply-lt-ROOM.true)
    (record { result = c.refused-then-reply-lt-ROOM.ensures; laid = sym (over_nothing _ 0) })

pub returns : goal.returns
unfolding overlong_step
returns c =
    let low = le-ltb _ _ c.if-connection-gt-MOST_CONNECTION.false in
    let roomy = le-ltb _ _ c.if-reply-lt-ROOM.false in
    rw (low, roomy, ← c.nowhere.ensures, ← c.fails.ensures)
    c.written.ensures
