use borrow.Author.Rules.{rules}
use mathlib.Core.Path.{◌∙◌}
use native.Mathlib.Omega.{arith}
use Rattle.laws.proofs.Put.{put_length}
use Rattle.port.proofs.Feeding.{fed_sound, fed_long, fed_some}
use Rattle.port.proofs.served.Goals as goal

pub loop-i-smaller : goal.loop-i-smaller
loop-i-smaller g c = omega (arith, fed_some c.args.block.now (λ k. search rules) c.fed-fed.ensures c.loop-i.invariant.0 c.loop-i.invariant.1 c.loop-i-test.true (omega arith))

pub loop-i-preserved : goal.loop-i-preserved
loop-i-preserved g c = (fed_sound c.args.block.now (λ k. search rules) c.fed-fed.ensures c.loop-i.invariant.0 c.loop-i.invariant.1, fed_long c.args.block.now (λ k. search rules) c.fed-fed.ensures c.loop-i.invariant.0 c.loop-i.invariant.1, c.loop-i.invariant.2, put_length c.fed-fed.ensures.put ∙ c.loop-i.invariant.3)
