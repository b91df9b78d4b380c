use mathlib.Core.Path.{sym, ◌∙◌}
use Rattle.words.proofs.Standing.{pairs_counts}
use Rattle.steps.specs.Step.{command_step}
use Rattle.steps.proofs.send.commanded.Goals as goal

pub returns-in-Start : goal.returns-in-Start
unfolding command_step
returns-in-Start c =
    let verdict = sym c.verdict_of.ensures ∙ c.in-Start.is in
    record {
      result = rw (verdict, ← c.run_of-run.ensures, c.with_sending.ensures);
      counts = rw (verdict, pairs_counts) c.keep.ensures;
    }

pub returns-in-Renew : goal.returns-in-Renew
unfolding command_step
returns-in-Renew c =
    let verdict = sym c.verdict_of.ensures ∙ c.in-Renew.is in
    record { result = rw (verdict, c.renewed.ensures); counts = rw verdict }

pub returns-in-Busy : goal.returns-in-Busy
unfolding command_step
returns-in-Busy c =
    let verdict = sym c.verdict_of.ensures ∙ c.in-Busy.is in
    record { result = rw (verdict, ← c.from.ensures) c.says.ensures; counts = rw verdict }
