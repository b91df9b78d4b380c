-- The frames that answer a line, and those of a wait's completions, are what is told, framed.
use Prim.Native.Nat.{ℕ}
use mathlib.Core.Path.{◌≡◌, refl, sym}
use mathlib.Core.List.{List, [], ◌∷◌, map, append-nil}
use mathlib.Core.Option.{some}
use Rattle.connector.specs.declared.Owner.{Owner}
use Rattle.connector.specs.declared.Owner.TheVariants.{Nobody, Connection}
use Rattle.connector.specs.declared.Answer.{Answer}
use Rattle.connector.specs.declared.Answer.TheVariants as answer
use Rattle.connector.specs.declared.Completion.{Completion}
use Rattle.output.specs.Output.{answer_frames, to_whom, completion_frame, completion_frames}
use Rattle.history.specs.Heard.{owner_out, completion_out, answer_out}
use Rattle.served.specs.Told.{answer_told, completion_told}
use Rattle.served.specs.Framed.{addressee, all_framed}

-- a line's answer: the asker's frame before the owner's
pub answer_framed : (connection : ℕ) (a : Answer)
    → answer_frames connection a ≡ all_framed connection (answer_told (some connection) (answer_out a []))
unfolding answer_frames
answer_framed connection (answer.Refused number) = sym (append-nil _)
answer_framed connection answer.Taken = refl
answer_framed connection (answer.Reply r Nobody) = sym (append-nil _)
answer_framed connection (answer.Reply r (Connection other)) = rw append-nil

-- to whom a completion goes
whom_is : (o : Owner) → to_whom o ≡ addressee (owner_out o)
whom_is Nobody = refl
whom_is (Connection connection) = refl

-- a wait's completions, in their order
pub completions_framed : (whose : ℕ) (l : List Completion)
    → completion_frames l ≡ all_framed whose (map completion_told (map completion_out l))
unfolding completion_frame
completions_framed whose [] = refl
completions_framed whose (c ∷ l) = rw (whom_is c.owner, completions_framed whose l)
