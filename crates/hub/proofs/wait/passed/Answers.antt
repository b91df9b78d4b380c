use Prim.Native.Nat.{◌<◌}
use mathlib.Core.Path.{◌≡◌, ◌∙◌}
use native.Mathlib.Omega.{arith}
use lib.ListN.{length}
use Rattle.std.proofs.lemmas.List.{set-get_or}
use Rattle.words.specs.Places.{connectors}
use Rattle.hub.specs.Wait.{passing_at}
use Rattle.hub.proofs.Waiting.{waiting_starts, waiting_at, waiting_asks, waiting_still, waiting_runs, waiting_done, waiting_ends}
use Rattle.hub.proofs.wait.passed.Goals as goal
use Rattle.hub.proofs.wait.passed.Goals.{in-Still, in-Running, in-Complete}

pub loop-slot-init : goal.loop-slot-init
loop-slot-init c = rw c.none-completions.ensures (waiting_starts _ _)

pub pass-requires : goal.pass-requires
pass-requires c =
    (rw (waiting_at _ _ (omega arith) c.loop-slot.invariant (omega arith)) (c.requires.0 c.loop-slot.slot (omega arith)), c.requires.1)

pub loop-slot-preserved : goal.loop-slot-preserved
loop-slot-preserved c =
    let size : length c.args.connectors ≡ connectors = omega arith in
    let in-turn : c.loop-slot.slot < connectors = omega arith in
    let gives : passing_at c.args.connectors c.args.n.0 c.loop-slot.slot ≡ c.pass.result =
    waiting_asks _ _ size c.loop-slot.invariant in-turn c.connector.ensures c.pass.ensures in
    elim c.match-pass.branch [
      | in-Still w ↦ rw (w.completions-is, w.c-items-is, set-get_or) (waiting_still _ _ size c.loop-slot.invariant in-turn (gives ∙ w.in-Still.is))
      | in-Running w ↦ rw (w.completions-is, w.c-items-is) (waiting_runs _ _ size c.loop-slot.invariant in-turn (gives ∙ w.in-Running.is))
      | in-Complete w ↦
          rw (w.completions-is, w.c-items-is, w.with-completions.ensures)
          (waiting_done _ _ size c.loop-slot.invariant in-turn (gives ∙ w.in-Complete.is))
    ]

pub returns : goal.returns
returns c = waiting_ends _ _ (omega arith) c.loop-slot.invariant (omega arith)
