use mathlib.Core.Path.{sym, ◌∙◌}
use Rattle.std.proofs.lemmas.Result.{err_from_is_err_and}
use Rattle.command.specs.Read.{command_at}
use Rattle.command.proofs.Commands.{nothing_found}
use Rattle.command.proofs.read.command_at.Goals as goal

pub returns-in_err-f : goal.returns-in_err-f
unfolding command_at
returns-in_err-f c =
    let p = err_from_is_err_and c.from_residual.result c.from_residual.ensures.1 in
    rw (p.1, p.2, sym c.fields_at.ensures ∙ c.in_err-f.was) (nothing_found _ _)

pub returns : goal.returns
unfolding command_at
returns c = rw (sym c.fields_at.ensures ∙ c.in_ok-f.was) c.code_at.ensures
