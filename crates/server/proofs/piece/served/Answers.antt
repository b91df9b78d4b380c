use native.Mathlib.Omega.{arith}
use Rattle.server.proofs.Joining.{found_fits, found_in_range, serves}
use Rattle.server.proofs.piece.served.Goals as goal

pub joined-taken-requires : goal.joined-taken-requires
joined-taken-requires c =
    (c.requires.0.each c.args.connection (omega arith), omega arith)

pub answered-answered-requires : goal.answered-answered-requires
answered-answered-requires c =
    let joined = c.joined-taken.ensures in
    (c.requires.0.hub, rw joined.result (found_fits _ _ _ _ _ (omega arith)), omega arith, omega arith)

pub applied-next-requires : goal.applied-next-requires
applied-next-requires c = found_in_range c.answered-answered.ensures

pub returns : goal.returns
returns c =
    let args = c.args in
    rw c.applied-next.ensures (serves args.server args.store.now args.buffers.now args.connection args.piece.now c.requires.1 c.requires.2
    c.joined-taken.ensures c.answered-answered.ensures)
