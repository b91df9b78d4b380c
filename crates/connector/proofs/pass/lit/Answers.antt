use borrow.Author.Tests.{eq-eqb, ne_eqb}
use Rattle.connector.specs.Pass.{passing_lamp}
use Rattle.connector.proofs.pass.lit.Goals as goal

pub returns-then-c-eq0 : goal.returns-then-c-eq0
unfolding passing_lamp
returns-then-c-eq0 c = rw (eq-eqb _ _ c.if-c-eq0.true)

pub passed-requires : goal.passed-requires
passed-requires c = (c.requires.0.lights, c.requires.1)

pub returns : goal.returns
unfolding passing_lamp
returns c = rw (c.with_lamp.ensures, c.passed.ensures, ne_eqb _ _ c.if-c-eq0.false)
