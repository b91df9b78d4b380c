use Rattle.std.proofs.Common.{◌≡◌, length}
use Rattle.hub.specs.Record.{SoundHub}
use Rattle.bench.proofs.run.Given as goal

-- the hub is sound, and the memory that is lent as long as it was made
abbrev pub invariant-loop : goal.invariant-loop
invariant-loop g l = SoundHub l.state.hub × (length l.out ≡ 65536)
