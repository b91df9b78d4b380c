use Prim.Native.Nat.{ℕ, ◌+◌, ◌-◌, ◌≤◌}
use Rattle.code.specs.declared.next.After.TheVariants.{Lettering}
use Rattle.code.specs.Letters.{held}
use Rattle.decoder.specs.Follows.{Follows}
use Rattle.decoder.proofs.read.letter_run.Given as goal

abbrev pub invariant-loop-more : goal.invariant-loop-more
invariant-loop-more l =
    ((freq : ℕ) → Follows freq l.s (held l.letters) (held l.letters) l.initial.counts l.counts l.count l.at (l.count + l.more) (l.at + l.more) Lettering Lettering)
    × (l.more ≤ l.most)

abbrev pub decreases-loop-more : goal.decreases-loop-more
decreases-loop-more l = l.most - l.more
