use native.Mathlib.Numerals.{add-one}
use Rattle.decoder.proofs.read.put_pair.Goals as goal

pub returns : goal.returns
returns c = rw add-one
