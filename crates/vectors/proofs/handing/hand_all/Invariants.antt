use Prim.Native.Nat.{◌-◌}
use Rattle.vectors.proofs.handing.hand_all.Given as goal

abbrev pub decreases-loop-p : goal.decreases-loop-p
decreases-loop-p g l = 261 - l.progress.count
