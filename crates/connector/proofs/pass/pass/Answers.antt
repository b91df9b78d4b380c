use mathlib.Core.Path.{sym, ap, ◌∙◌}
use native.Mathlib.Omega.{arith}
use Rattle.connector.specs.Pass.{passing_sending}
use Rattle.connector.proofs.pass.pass.Goals as goal

pub passed-requires : goal.passed-requires
passed-requires c =
    let s = rw c.in-Some.is at c.requires.0.sends in
    (s.paced, omega arith, omega arith, c.requires.1)

pub returns-in-None : goal.returns-in-None
returns-in-None c =
    let args = c.args in
    c.lit.ensures ∙ ap (λ s. passing_sending args.c args.place args.wait.0 s) (sym c.in-None.is)

pub returns-in-Running : goal.returns-in-Running
returns-in-Running c =
    let passed = rw c.from.ensures at c.passed.ensures in
    rw (c.in-Some.is, ← passed, c.in-Running.is, c.with_sending.ensures)

pub returns-in-Complete : goal.returns-in-Complete
returns-in-Complete c =
    let passed = rw c.from.ensures at c.passed.ensures in
    rw (c.in-Some.is, ← passed, c.in-Complete.is, c.with_sending-next.ensures, c.from-in-Complete.ensures)
