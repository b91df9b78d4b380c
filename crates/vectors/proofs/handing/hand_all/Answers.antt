use Rattle.std.proofs.Common.{arith, ◌∙◌, ap, Ok}
use Rattle.reader.proofs.Pieces.{handed_more}
use Rattle.vectors.proofs.handing.hand_all.Goals as goal

pub loop-p-smaller : goal.loop-p-smaller
loop-p-smaller g c =
    let pair = c.in-Ok-Some.is ∙ ap Ok (rw c.in-Ok-Some.is at c.in-Ok-Some.field-0-is) in
    omega (arith, handed_more c.loop-p.progress _ _ c.hand_out-handed.ensures pair)
