-- What is refused. Document 01: "Calls themselves refuse with a number, nothing written and nothing changed"; of an error line "It is the
-- whole written reply, and the hub stays unchanged"; and busyIR. That all stays as it was is proved in proofs/Refusals.antt.
use Rattle.std.specs.Prelude.{ℕ, ◌≡◌, None, List}
use Rattle.reply.specs.declared.Reply.{Reply}
use Rattle.reply.specs.declared.Reply.TheVariants as reply
use Rattle.connector.specs.declared.Answer.{Answer}
use Rattle.connector.specs.declared.Answer.TheVariants as answer
use Rattle.connector.specs.declared.Stepped.{Stepped}
use Rattle.steps.specs.Step.{Made}

-- an error line or busyIR
abbrev pub RefusesBy : Reply → Type 0
RefusesBy (reply.Fixed fixed) = ⊥
RefusesBy (reply.Error number place) = Unit
RefusesBy (reply.Mode place mode) = ⊥
RefusesBy (reply.State place state) = ⊥
RefusesBy (reply.Complete place id) = ⊥
RefusesBy (reply.Busy place id) = Unit
RefusesBy (reply.Stopped place) = ⊥
RefusesBy (reply.Lamp place level target) = ⊥

abbrev pub Refuses : Answer → Type 0
Refuses (answer.Refused number) = Unit
Refuses answer.Taken = ⊥
Refuses (answer.Reply r also) = RefusesBy r

-- where it is refused, nothing changes
abbrev pub KeepsConnector : Stepped → Type 0
KeepsConnector s = Refuses s.answer → s.change ≡ None

-- and the counts stay too
abbrev pub KeepsBoth : List ℕ → Made → Type 0
KeepsBoth kept made = Refuses made.stepped.answer → (made.stepped.change ≡ None) × (made.kept ≡ kept)
