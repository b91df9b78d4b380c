use Prim.Native.Nat.{◌+◌, ◌-◌, ◌*◌}
use Rattle.decoder.proofs.Reading.{Going}
use Rattle.decoder.proofs.read.read_code.Given as goal

abbrev pub invariant-loop-letters : goal.invariant-loop-letters
invariant-loop-letters l =
    Going l.freq l.s l.start l.initial.counts l.counts l.letters l.seen l.count l.at l.after

abbrev pub decreases-loop-letters : goal.decreases-loop-letters
decreases-loop-letters l = (261 - l.count) * 262 + (l.count - l.seen)
