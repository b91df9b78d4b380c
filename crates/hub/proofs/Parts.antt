-- A connector's part of the store.
use Prim.Native.Nat.{ℕ, ◌+◌, ◌≤◌}
use mathlib.Core.Path.{◌≡◌, sym, ap, ◌∙◌}
use mathlib.Core.List.{List, ◌++◌}
use native.Mathlib.Omega.{arith}
use lib.ListN.{length, take, drop, length-drop}
use lib.Seq.{length-take-le}
use Rattle.laws.specs.Put.{over}
use Rattle.laws.proofs.Parts.{laid_back}
use Rattle.connector.specs.declared.Stepped.{Stepped}
use Rattle.steps.specs.Step.{Made, Makes}
use Rattle.hub.specs.Record.{part_size}
use Rattle.hub.specs.Line.{Stored}

-- a connector's step on its part of the store
pub stepped_in : (store : List ℕ) (from n : ℕ) (step : List ℕ → Made) {r : Stepped} {part : List ℕ} → n ≡ part_size
    → from + part_size ≤ length store → ((kept : List ℕ) → length (step kept).kept ≡ length kept)
    → Makes (step (take n (drop from store))) r part
    → Stored (step (take part_size (drop from store))) store from r (take from store ++ (part ++ drop n (drop from store)))
stepped_in store from n step {r} {part} e fits same made =
    let is : Makes (step (take part_size (drop from store))) r part = rw e at made in
    let room : part_size ≤ length (drop from store) = rw length-drop (omega arith) in
    let sized = ap length is.counts ∙ same (take part_size (drop from store)) ∙ length-take-le part_size (drop from store) room ∙ sym e in
    record { result = is.result; laid = laid_back store from part n sized ∙ ap (over store from) is.counts }
