use Rattle.text.proofs.Appended.{and_then}
use Rattle.reply.proofs.put_error_number.Goals as goal

pub returns : goal.returns
returns c =
    and_then (and_then (and_then (and_then c.byte.ensures c.byte-2.ensures) c.byte-3.ensures) c.byte-4.ensures) c.byte-5.ensures
