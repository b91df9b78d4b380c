use Rattle.laws.proofs.Put.{then}
use Rattle.output.proofs.put_connector.Goals as goal

pub returns : goal.returns
returns c = rw (← c.mode_number.ensures) (then (then (then (then (then c.put_head-a.ensures c.put_byte-b.ensures) c.put_byte-d.ensures) c.put_byte-e.ensures) c.put_sending-f.ensures) c.put_byte.ensures)
