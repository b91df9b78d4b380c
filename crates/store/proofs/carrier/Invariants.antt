use Prim.Native.Nat.{◌-◌, ◌*◌}
use mathlib.Core.Bool.{true}
use mathlib.Core.Path.{◌≡◌}
use Rattle.laws.specs.Lists.{numbers}
use Rattle.words.specs.Pairs.{counts_in}
use Rattle.meaning.specs.Time.{on_at}
use Rattle.store.proofs.carrier.Given as goal

abbrev pub invariant-loop-i : goal.invariant-loop-i
invariant-loop-i l = on_at true (counts_in l.kept l.count) l.place ≡ on_at l.on (numbers l.kept l.i (2 * l.count - l.i)) l.left
