use Rattle.port.proofs.Quiet.{closed_bytes, closed_does}
use native.Mathlib.Omega.{arith}
use Rattle.port.proofs.event.closed.Goals as goal

pub put_answer-requires : goal.put_answer-requires
put_answer-requires c = (closed_bytes c.args.server.now c.args.connection c.closed-served.ensures, omega arith)

pub returns : goal.returns
returns c = closed_does c.args.server.now c.args.connection c.closed-served.ensures c.put_answer.ensures
