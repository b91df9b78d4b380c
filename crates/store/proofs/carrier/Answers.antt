use Prim.Native.Nat.{◌*◌}
use mathlib.Core.Path.{sym, ◌∙◌}
use native.Mathlib.Nat.{sub-zero}
use Rattle.laws.proofs.Numbers.{numbers_none}
use Rattle.words.specs.Pairs.{counts_in}
use Rattle.store.proofs.Turns.{inside, beyond}
use Rattle.store.proofs.carrier.Goals as goal

pub loop-i-init : goal.loop-i-init
unfolding counts_in
loop-i-init c = rw (sub-zero (2 * c.args.count))

pub returns-then-left-length : goal.returns-then-left-length
returns-then-left-length c = inside _ _ _ _ _ _ c.loop-i-test.true c.ticks-length.ensures c.if-left-length.true ∙ sym c.loop-i.invariant

pub loop-i-preserved : goal.loop-i-preserved
loop-i-preserved c = c.loop-i.invariant ∙ beyond _ _ _ _ _ _ c.loop-i-test.true c.ticks-length.ensures c.if-left-length.false

pub returns : goal.returns
returns c = sym (c.loop-i.invariant ∙ rw (numbers_none _ _ _ c.loop-i-test.false))
