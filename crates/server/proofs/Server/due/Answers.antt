use borrow.Author.Tests.{eq-eqb, ne_eqb}
use Rattle.server.proofs.Server.due.Goals as goal

pub returns-then-completions-eq0 : goal.returns-then-completions-eq0
returns-then-completions-eq0 c = rw (← c.wait-waited.ensures, eq-eqb _ 0 c.if-completions-eq0.true)

pub returns : goal.returns
returns c = rw (← c.wait-waited.ensures, ne_eqb _ 0 c.if-completions-eq0.false)
