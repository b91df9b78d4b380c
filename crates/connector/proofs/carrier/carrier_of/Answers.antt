use Prim.Native.Nat.{◌*◌, ◌≤◌}
use native.Mathlib.Omega.{arith}
use lib.ListN.{length}
use Rattle.words.proofs.Standing.{counts_first}
use Rattle.connector.proofs.carrier.carrier_of.Goals as goal

pub place-requires : goal.place-requires
place-requires c = (rw c.in-Some.is at c.requires.0).paced

pub carrier-requires : goal.carrier-requires
carrier-requires c =
    let s = rw c.in-Some.is at c.requires.0 in
    (c.requires.1, s.few)

pub returns : goal.returns
returns c =
    let s = rw c.in-Some.is at c.requires.0 in
    let room : 2 * c.in-Some.run'.count ≤ length c.args.kept.now = omega (arith, s.few, c.requires.1) in
    rw (c.in-Some.is, c.carrier.ensures, c.place.ensures, counts_first _ _ room)
