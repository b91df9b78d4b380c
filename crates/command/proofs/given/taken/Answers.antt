use native.Mathlib.Omega.{arith}
use Rattle.command.proofs.Capping.{capped_high}
use Rattle.command.proofs.Giving.{fields_in}
use Rattle.command.proofs.given.taken.Goals as goal

pub overflow_cast-id : goal.overflow_cast-id
overflow_cast-id c = omega (arith, (fields_in _ c.requires).id_most)

pub overflow_cast-freq : goal.overflow_cast-freq
overflow_cast-freq c = omega (arith, (fields_in _ c.requires).freq_most)

pub overflow_cast-repeat : goal.overflow_cast-repeat
overflow_cast-repeat c = omega (arith, c.capped-repeat.ensures, capped_high c.args.f.repeat)

pub overflow_cast-offset : goal.overflow_cast-offset
overflow_cast-offset c = omega (arith, (fields_in _ c.requires).offset_most)

pub returns : goal.returns
returns c = rw c.capped-repeat.ensures
