use Prim.Native.Nat.{◌+◌, ◌-◌, ◌≤◌}
use mathlib.Core.Path.{◌≡◌, refl, sym}
use native.Mathlib.Omega.{arith}
use lib.ListN.{length}
use Rattle.laws.proofs.Put.{over_nothing}
use Rattle.server.proofs.piece.answered.Goals as goal

pub overflow_add-to : goal.overflow_add-to
overflow_add-to c =
    let within : c.args.from + c.in-Line.size
    ≤ length c.args.buffers.now = rw c.in-Line.is at c.requires.1 in
    omega (arith, within)

pub returns-in-Nothing : goal.returns-in-Nothing
returns-in-Nothing c = rw c.in-Nothing.is (record { answers = record { writes = record { result = refl; laid = sym (over_nothing _ 0) }; kept = refl } })

pub returns-in-Line : goal.returns-in-Line
returns-in-Line c =
    let args = c.args in
    let size = c.in-Line.size in
    let e : (args.from + size) - args.from ≡ size = omega arith in
    rw c.in-Line.is (record { answers = rw e at c.line.ensures })

pub returns-in-Overlong : goal.returns-in-Overlong
returns-in-Overlong c = rw c.in-Overlong.is (record { answers = record { writes = c.overlong_line.ensures; kept = refl } })
