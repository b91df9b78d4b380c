use native.Mathlib.Nat.{zero-add}
use borrow.Author.Tests.{lt-ltb, le-ltb}
use Rattle.hub.proofs.Hub.write_completion.Goals as goal

pub returns-then-buf-lt-ROOM : goal.returns-then-buf-lt-ROOM
returns-then-buf-lt-ROOM c =
    let small = lt-ltb _ _ c.if-buf-lt-ROOM.true in
    record { result = rw small; laid = rw small }

pub returns : goal.returns
returns c =
    let roomy = le-ltb _ _ c.if-buf-lt-ROOM.false in
    let put = c.put_reply.ensures in
    record { result = rw (roomy, put.place, zero-add); laid = rw roomy put.laid }
