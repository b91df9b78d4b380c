use Prim.Native.Nat.{◌+◌, ◌-◌}
use native.Mathlib.Omega.{arith}
use Rattle.server.specs.Record.{buffer_size}
use Rattle.server.proofs.Joining.{part_taken, joins}
use Rattle.server.proofs.piece.joined.Goals as goal

pub unwrap-requires : goal.unwrap-requires
unwrap-requires c =
    let args = c.args in
    let size = (args.from + buffer_size) - args.from in
    rw (part_taken args.buffers.now args.from size args.assembler args.piece.now (omega arith) c.requires.1 c.take.ensures).0

pub returns : goal.returns
returns c =
    let args = c.args in
    let size = (args.from + buffer_size) - args.from in
    joins args.buffers.now args.from size args.assembler args.piece.now (omega arith) c.requires.1
    (rw c.unwrap.ensures at c.take.ensures)
