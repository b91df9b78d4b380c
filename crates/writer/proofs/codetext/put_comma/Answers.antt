use native.Mathlib.Omega.{arith}
use Rattle.text.proofs.Appended.{no_text}
use Rattle.writer.proofs.codetext.put_comma.Goals as goal

pub returns-in-Nothing : goal.returns-in-Nothing
returns-in-Nothing c = rw c.in-Nothing.is (no_text (omega (arith, c.requires)))

pub returns-in-Lettering : goal.returns-in-Lettering
returns-in-Lettering c = rw c.in-Lettering.is (no_text (omega (arith, c.requires)))
