use Rattle.steps.proofs.Deciding.{run_made}
use Rattle.steps.proofs.send.run_of.Goals as goal

pub returns : goal.returns
returns c =
    rw (c.started.ensures, c.periods_of-lead.ensures, c.periods_of-tail.ensures) (run_made _ _ c.args.f c.requires.1)
