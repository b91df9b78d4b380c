use borrow.Author.Tests.{lt-ltb, le-ltb}
use Rattle.hub.specs.Calls.{reading_call}
use Rattle.hub.proofs.Hub.reading.Goals as goal

pub returns-then-port-lt1 : goal.returns-then-port-lt1
unfolding reading_call
returns-then-port-lt1 c = rw (lt-ltb _ _ c.if-port-lt1.true) c.refusal.ensures

pub returns-then-port : goal.returns-then-port
unfolding reading_call
returns-then-port c = rw (le-ltb _ _ c.if-port-lt1.false, lt-ltb _ _ c.if-port.true) c.refusal-then-port.ensures

pub returns : goal.returns
unfolding reading_call
returns c =
    let low = le-ltb _ _ c.if-port-lt1.false in
    let high = le-ltb _ _ c.if-port.false in
    rw (low, high, ← c.reading-stepped.ensures) c.placed.ensures
