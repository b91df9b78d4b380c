use Rattle.std.proofs.Common.{◌≡◌, ◌-◌, length}
use Rattle.hub.specs.Record.{SoundHub}
use Rattle.bench.proofs.fed.Given as goal

-- the hub stays sound, and the lent memory as long as it was
abbrev pub invariant-loop-i : goal.invariant-loop-i
invariant-loop-i g l =
    SoundHub l.hub × (length l.line ≡ length l.initial.line) × (length l.out ≡ length l.initial.out)

abbrev pub decreases-loop-i : goal.decreases-loop-i
decreases-loop-i g l = length l.block - l.i
