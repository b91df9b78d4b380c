use mathlib.Core.Path.{◌≡◌}
use native.Mathlib.Omega.{arith}
use borrow.Author.Tests.{lt-ltb, le-ltb}
use lib.ListN.{length}
use Rattle.words.specs.Places.{connectors}
use Rattle.hub.specs.Completions.{put_in}
use Rattle.hub.proofs.Inserting.{inserted_in}
use Rattle.hub.proofs.completions.Completions.with.Goals as goal

pub returns-then-count-ge-CONNECTORS : goal.returns-then-count-ge-CONNECTORS
unfolding put_in
returns-then-count-ge-CONNECTORS c = rw (le-ltb _ _ c.if-count-ge-CONNECTORS.true)

pub returns : goal.returns
unfolding put_in
returns c =
    let long : length c.args.self.items ≡ connectors = omega arith in
    let all = inserted_in c.args.x c.args.self.items c.args.self.count (omega (arith, long, c.if-count-ge-CONNECTORS.false)) in
    rw (lt-ltb _ _ c.if-count-ge-CONNECTORS.false, c.copy_within.ensures.after, c.place_in-at.ensures, all)
