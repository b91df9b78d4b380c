use Rattle.port.proofs.Quiet.{reading_bytes, reading_does}
use native.Mathlib.Omega.{arith}
use Rattle.port.proofs.event.reading.Goals as goal

pub put_answer-requires : goal.put_answer-requires
put_answer-requires c = (reading_bytes c.args.server.now c.args.port c.args.value c.reading-served.ensures, omega arith)

pub returns : goal.returns
returns c = reading_does c.args.server.now c.args.port c.args.value c.reading-served.ensures c.put_answer.ensures
