use Rattle.port.proofs.Quiet.{wait_bytes, wait_brief, wait_does}
use native.Mathlib.Omega.{arith}
use Rattle.laws.proofs.Put.{put_length, then}
use Rattle.port.proofs.event.waited.Goals as goal

pub put_answer-a-requires : goal.put_answer-a-requires
put_answer-a-requires c = (wait_bytes c.args.server.now c.args.n.0 c.wait-served.ensures, omega arith)

pub put_completions-requires : goal.put_completions-requires
put_completions-requires c = omega (arith, c.put_answer-a.ensures.place, put_length c.put_answer-a.ensures, wait_brief c.args.server.now c.args.n.0 c.args.connection c.wait-served.ensures)

pub returns : goal.returns
returns c = wait_does c.args.server.now c.args.connection c.args.n.0 c.wait-served.ensures (then c.put_answer-a.ensures c.put_completions.ensures)
