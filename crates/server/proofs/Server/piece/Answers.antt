use mathlib.Core.Path.{refl, sym}
use borrow.Author.Tests.{lt-ltb, le-ltb, eq-eqb, ne_eqb}
use Rattle.laws.proofs.Put.{over_nothing}
use Rattle.server.specs.Piece.{piece_step}
use Rattle.server.proofs.Server.piece.Goals as goal

pub returns-then-connection-gt-MOST_CONNECTION : goal.returns-then-connection-gt-MOST_CONNECTION
unfolding piece_step
returns-then-connection-gt-MOST_CONNECTION c = rw (lt-ltb _ _ c.if-connection-gt-MOST_CONNECTION.true) (record { result = c.refused.ensures; kept = refl; joined = refl; laid = sym (over_nothing _ 0) })

pub returns-then-reply-lt-ROOM : goal.returns-then-reply-lt-ROOM
unfolding piece_step
returns-then-reply-lt-ROOM c = rw (le-ltb _ _ c.if-connection-gt-MOST_CONNECTION.false, lt-ltb _ _ c.if-reply-lt-ROOM.true) (record { result = c.refused-then-reply-lt-ROOM.ensures; kept = refl; joined = refl; laid = sym (over_nothing _ 0) })

pub returns-then-buffers-ne-ROOM : goal.returns-then-buffers-ne-ROOM
unfolding piece_step
returns-then-buffers-ne-ROOM c = rw (le-ltb _ _ c.if-connection-gt-MOST_CONNECTION.false, le-ltb _ _ c.if-reply-lt-ROOM.false, ne_eqb _ _ c.if-buffers-ne-ROOM.true) (record { result = c.refused-then-buffers-ne-ROOM.ensures; kept = refl; joined = refl; laid = sym (over_nothing _ 0) })

pub returns : goal.returns
unfolding piece_step
returns c = rw (le-ltb _ _ c.if-connection-gt-MOST_CONNECTION.false, le-ltb _ _ c.if-reply-lt-ROOM.false, eq-eqb _ _ c.if-buffers-ne-ROOM.false) c.served.ensures
