use Prim.Native.Nat.{◌-◌}
use mathlib.Core.Path.{◌≡◌}
use Rattle.code.specs.Letters.{letters_of, held, Kept}
use Rattle.decoder.specs.Follows.{pairs_at}
use Rattle.decoder.proofs.read.learn_all.Given as goal

abbrev pub invariant-loop-i : goal.invariant-loop-i
invariant-loop-i l = Kept l.known (held l.known) × (letters_of (held l.initial.known) (pairs_at l.counts l.from (l.to - l.from)) ≡ letters_of (held l.known) (pairs_at l.counts l.i (l.to - l.i)))
