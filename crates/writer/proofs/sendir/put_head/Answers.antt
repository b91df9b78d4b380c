use Rattle.text.proofs.Appended.{and_then}
use Rattle.writer.specs.Sendir.{sendir_head}
use Rattle.writer.proofs.sendir.put_head.Goals as goal

pub returns-clause-head : goal.returns-clause-head
unfolding sendir_head
returns-clause-head c =
    and_then (and_then (and_then (and_then (and_then c.word.ensures c.put_field.ensures.field) c.put_field-2.ensures.field) c.put_field-3.ensures.field) c.put_field-4.ensures.field) c.put_field-5.ensures.field
