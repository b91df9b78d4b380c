use mathlib.Core.Path.{sym, ◌∙◌}
use Rattle.reader.proofs.Pieces.{standing_sound, handed_is}
use Rattle.reader.proofs.next_from.Goals as goal

pub pair_handed-requires : goal.pair_handed-requires
pair_handed-requires c =
    (standing_sound c.args.progress _ _ (rw c.in-Ok-Spelled.field-0-is at (sym c.next_pair.ensures ∙ c.in-Ok-Spelled.is))).0

pub pair_handed-requires-in-Ok-Letter : goal.pair_handed-requires-in-Ok-Letter
pair_handed-requires-in-Ok-Letter c =
    (standing_sound c.args.progress _ _ (rw c.in-Ok-Letter.field-0-is at (sym c.next_pair.ensures ∙ c.in-Ok-Letter.is))).0

pub returns-in-Ok-End : goal.returns-in-Ok-End
returns-in-Ok-End c = sym (handed_is _ _ _ (rw c.in-Ok-End.field-0-is at (sym c.next_pair.ensures ∙ c.in-Ok-End.is)))

pub returns-in-Err : goal.returns-in-Err
returns-in-Err c = sym (handed_is _ _ _ (sym c.next_pair.ensures ∙ c.in-Err.is))

pub returns-in-Ok-Spelled : goal.returns-in-Ok-Spelled
returns-in-Ok-Spelled c = c.pair_handed.ensures ∙ rw c.learn-learnt.ensures.result (sym (handed_is _ _ _ (rw c.in-Ok-Spelled.field-0-is at (sym c.next_pair.ensures ∙ c.in-Ok-Spelled.is))))

pub returns-in-Ok-Letter : goal.returns-in-Ok-Letter
returns-in-Ok-Letter c = c.pair_handed-in-Ok-Letter.ensures ∙ rw c.pair_of-p.ensures (sym (handed_is _ _ _ (rw c.in-Ok-Letter.field-0-is at (sym c.next_pair.ensures ∙ c.in-Ok-Letter.is))))
