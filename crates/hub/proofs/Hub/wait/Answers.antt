use borrow.Author.Tests.{lt-ltb, le-ltb}
use Rattle.hub.specs.Wait.{wait_call}
use Rattle.hub.proofs.Hub.wait.Goals as goal

pub returns-then-n-gt-MOST_WAIT : goal.returns-then-n-gt-MOST_WAIT
unfolding wait_call
returns-then-n-gt-MOST_WAIT c = rw (lt-ltb _ _ c.if-n-gt-MOST_WAIT.true, c.none.ensures)

pub returns : goal.returns
unfolding wait_call
returns c = rw (le-ltb _ _ c.if-n-gt-MOST_WAIT.false, c.passed-passed.ensures)
