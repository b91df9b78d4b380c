use Prim.Native.Nat.{◌+◌, ◌-◌}
use mathlib.Core.Path.{◌≡◌}
use native.Mathlib.Omega.{arith}
use Rattle.hub.specs.Record.{part_size}
use Rattle.hub.proofs.carriers.carrier_in.Goals as goal

pub returns : goal.returns
returns c =
    let from = c.args.from in
    let size : (from + part_size) - from ≡ part_size = omega arith in
    rw size at c.carrier_of.ensures
