-- The hub's answers in the meaning's words: bytes, connections, moments.
use Rattle.std.specs.Prelude.{ℕ, List, map}
use Rattle.std.proofs.Math.Option.{Option, none, some}
use Rattle.meaning.specs.Table.{Completion, Answer, refused, taken, replied}
use Rattle.reply.specs.Reply.{reply_text}
use Rattle.connector.specs.declared.Owner.{Owner}
use Rattle.connector.specs.declared.Owner.TheVariants.{Nobody, Connection}
use Rattle.connector.specs.declared.Completion as hub
use Rattle.connector.specs.declared.Answer as hubs
use Rattle.connector.specs.declared.Answer.TheVariants as answer
use Rattle.hub.specs.Calls.{completion_text}

abbrev pub owner_out : Owner → Option ℕ
owner_out Nobody = none
owner_out (Connection connection) = some connection

-- a completion is written as its `completeir` line
abbrev pub completion_out : hub.Completion → Completion
completion_out c = record { moment = c.moment.0; owner = owner_out c.owner; notice = completion_text c }

-- an answer with the completions beside it
abbrev pub answer_out : hubs.Answer → List hub.Completion → Answer
answer_out (answer.Refused n) l = refused n
answer_out answer.Taken l = taken (map completion_out l)
answer_out (answer.Reply r owner) l = replied (reply_text r) (owner_out owner)
