use Rattle.laws.proofs.Put.{byte}
use native.Mathlib.Omega.{arith}
use Rattle.output.proofs.put_byte.Goals as goal

pub returns : goal.returns
returns c = byte _ _ _ (omega arith)
