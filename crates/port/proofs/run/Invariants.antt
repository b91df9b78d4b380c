use Rattle.std.proofs.Common.{◌≡◌, length}
use Rattle.port.specs.Turn.{SoundState}
use Rattle.port.proofs.run.Given as goal

-- the state is sound, and the memory that is lent as long as it was made
abbrev pub invariant-loop : goal.invariant-loop
invariant-loop g l = SoundState l.state × (length l.buffers ≡ 32768) × (length l.out ≡ 65536)
