-- What it is that a written line reads back. The line reader takes it for a sendir to the command's connector and says where its
-- fields begin; from there the command is the one that was given, with the repeat as capped, and the pairs that were given, and no
-- others. That what the writer leaves at the start of its buffer reads back, as many bytes as it says, is the theorem `round_trip`
-- of proofs/RoundTrip.antt.
use Rattle.std.specs.Prelude.{ℕ, ◌≡◌, List}
use Rattle.words.specs.declared.Pair.{Pair}
use Rattle.request.specs.declared.Request.TheVariants.{Connector}
use Rattle.request.specs.declared.Ask.TheVariants.{Send}
use Rattle.request.specs.Request.{read_request}
use Rattle.command.specs.declared.given.Command.{Command}
use Rattle.command.specs.Read.{sent, command_at}
use Rattle.command.specs.Given.{taken_as}

pub record ReadsBack (c : Command) (ps : List Pair) (text : List ℕ) : Type 0 where
  pub place : ℕ
  pub request : read_request text ≡ Connector c.place (Send place)
  pub command : command_at text place ≡ sent (taken_as c.fields) ps
