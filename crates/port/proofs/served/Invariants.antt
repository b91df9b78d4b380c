use Rattle.std.proofs.Common.{◌≡◌, ◌-◌, ◌≤◌, length}
use Rattle.server.specs.Record.{all_buffers}
use Rattle.port.specs.Turn.{SoundState}
use Rattle.port.specs.Run.{turn_room}
use Rattle.port.proofs.served.Given as goal

abbrev pub invariant-loop-i : goal.invariant-loop-i
invariant-loop-i g l =
    SoundState l.next × (length l.buffers ≡ all_buffers) × (turn_room ≤ length l.initial.out) × (length l.out ≡ length l.initial.out)

abbrev pub decreases-loop-i : goal.decreases-loop-i
decreases-loop-i g l = length l.block - l.i
