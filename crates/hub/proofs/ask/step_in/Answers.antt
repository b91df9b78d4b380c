use Prim.Native.Nat.{ℕ, ◌+◌, ◌-◌}
use mathlib.Core.List.{List}
use native.Mathlib.Omega.{arith}
use Rattle.steps.specs.Step.{step_of}
use Rattle.steps.proofs.Keeps.{step_size}
use Rattle.hub.specs.Record.{part_size}
use Rattle.hub.proofs.Parts.{stepped_in}
use Rattle.hub.proofs.ask.step_in.Goals as goal

pub returns : goal.returns
returns c =
    let args = c.args in
    let text = args.text.now in
    let size = (args.from + part_size) - args.from in
    stepped_in args.store.now args.from size
    (λ (kept : List ℕ). step_of args.c kept args.connection text args.place args.ask) (omega arith) c.requires.1
    (λ kept. step_size args.c kept args.connection text args.place args.ask) c.step.ensures
