use native.Mathlib.Omega.{arith}
use Rattle.store.proofs.Kept.{kept_first}
use Rattle.store.proofs.keep.Goals as goal

pub returns : goal.returns
returns c = rw c.copy_from_slice.ensures.after (kept_first _ _ c.args.count (omega arith) (omega arith))
