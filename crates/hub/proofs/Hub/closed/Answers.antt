use borrow.Author.Tests.{lt-ltb, le-ltb}
use Rattle.hub.specs.Calls.{closed_call}
use Rattle.hub.proofs.Hub.closed.Goals as goal

pub returns-then-connection-gt-MOST_CONNECTION : goal.returns-then-connection-gt-MOST_CONNECTION
unfolding closed_call
returns-then-connection-gt-MOST_CONNECTION c = rw (lt-ltb _ _ c.if-connection-gt-MOST_CONNECTION.true)

pub returns : goal.returns
unfolding closed_call
returns c = rw (le-ltb _ _ c.if-connection-gt-MOST_CONNECTION.false, c.disowned-connectors.ensures)
