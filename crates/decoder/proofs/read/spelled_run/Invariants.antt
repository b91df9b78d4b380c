use Prim.Native.Nat.{◌-◌}
use mathlib.Core.List.{List}
use Rattle.words.specs.declared.Pair.{Pair}
use Rattle.code.specs.declared.next.After.TheVariants.{Spelling}
use Rattle.decoder.specs.Follows.{Follows}
use Rattle.decoder.proofs.read.spelled_run.Given as goal

abbrev pub invariant-loop-n : goal.invariant-loop-n
invariant-loop-n l = (t : List Pair) → (t' : List Pair) × Follows l.freq l.s t t' l.initial.counts l.counts l.count l.at l.n l.i Spelling Spelling

abbrev pub decreases-loop-n : goal.decreases-loop-n
decreases-loop-n l = 260 - l.n
