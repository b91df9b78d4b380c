use mathlib.Core.Path.{refl, ◌∙◌}
use Rattle.decoder.proofs.Follows.{learn_turn}
use Rattle.decoder.proofs.read.learn_all.Goals as goal

pub loop-i-preserved : goal.loop-i-preserved
loop-i-preserved c =
    let inv = c.loop-i.invariant in
    let learnt = c.learn-known.ensures.kept inv.0.few in
    (record { few = learnt.few; counted = learnt.counted; are = refl }, inv.1 ∙ learn_turn _ _ _ _ c.loop-i-test.true ∙ rw learnt.are)
