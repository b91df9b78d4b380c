-- A call that is refused, a line answered with an error and one answered with busyIR leave the hub and the store as they were. That they do
-- is proved in proofs/Refusals.antt.
use Rattle.std.specs.Prelude.{ℕ, ◌≡◌, List}
use Rattle.steps.specs.Refusals.{Refuses}
use Rattle.hub.specs.declared.Decided.{Decided}
use Rattle.hub.specs.declared.Moved.{Moved}
use Rattle.hub.specs.declared.Hub.{Hub}
use Rattle.hub.specs.declared.HubChange.TheVariants.{Nothing}
use Rattle.hub.specs.Line.{Outcome}

-- where the call is refused, nothing changes
abbrev pub ChangesNothing : Decided → Type 0
ChangesNothing d = Refuses d.answer → d.change ≡ Nothing

-- and the store stays, where it is a line
abbrev pub KeepsBoth : List ℕ → Outcome → Type 0
KeepsBoth store o = Refuses o.decided.answer → (o.decided.change ≡ Nothing) × (o.store ≡ store)

-- where it reaches every connector, the hub is the one before
abbrev pub KeepsHub : Hub → Moved → Type 0
KeepsHub h m = Refuses m.answer → m.hub ≡ h
