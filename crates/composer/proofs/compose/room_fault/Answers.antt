use borrow.Author.Tests.{lt-ltb, le-ltb}
use Rattle.composer.proofs.compose.room_fault.Goals as goal

pub returns-then-room-lt-ROOM : goal.returns-then-room-lt-ROOM
returns-then-room-lt-ROOM c = rw (lt-ltb _ 4096 c.if-room-lt-ROOM.true)

pub returns : goal.returns
returns c = rw (le-ltb _ 4096 c.if-room-lt-ROOM.false)
