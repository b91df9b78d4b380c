-- What is printed. Document 01: "It prints each reply as connection, space, reply, LF, the asker's before the owner's, and each completion as
-- `@moment`, space, connection (`-` for none), space, reply, LF; each line of a device list stands so by itself. A call's refusal is `!` and its
-- number; a line of another form is `!`."
use Rattle.std.specs.Prelude.{ℕ, Bool, true, false, List, [], ◌∷◌, ◌++◌}
use Rattle.laws.specs.Bytes.{bytes}
use Rattle.laws.specs.Lists.{cut}
use Rattle.words.specs.Decimal.{decimal}
use Rattle.request.specs.declared.Fixed.TheVariants.{Devices, Version}
use Rattle.reply.specs.declared.Reply.{Reply}
use Rattle.reply.specs.declared.Reply.TheVariants as reply
use Rattle.reply.specs.Reply.{reply_text}
use Rattle.connector.specs.declared.Owner.{Owner}
use Rattle.connector.specs.declared.Owner.TheVariants.{Nobody, Connection}
use Rattle.connector.specs.declared.Answer.{Answer}
use Rattle.connector.specs.declared.Answer.TheVariants as answer
use Rattle.connector.specs.declared.Completion.{Completion}
use Rattle.hub.specs.Calls.{completion_text}

-- a line for somebody: "connection, space, reply, LF"
abbrev pub line_for : List ℕ → List ℕ → List ℕ
line_for who line = who ++ bytes " " ++ line ++ bytes "\n"

-- lines with a CR behind each; behind the last CR stands nothing
abbrev pub lines_for : List ℕ → List (List ℕ) → List ℕ
lines_for who [] = []
lines_for who (line ∷ []) = []
lines_for who (line ∷ next ∷ lines) = line_for who line ++ lines_for who (next ∷ lines)

-- a reply, whose every line a CR ends: "each line of a device list stands so by itself"
unfoldable pub printed_reply : List ℕ → List ℕ → List ℕ
printed_reply who text = lines_for who (cut 13 text)

-- "connection (`-` for none)"
unfoldable pub who_text : Owner → List ℕ
who_text Nobody = bytes "-"
who_text (Connection number) = decimal number

-- the reply for the owner too, if there is one
abbrev pub printed_also : Owner → List ℕ → List ℕ
printed_also Nobody text = []
printed_also (Connection number) text = printed_reply (decimal number) text

-- "A call's refusal is `!` and its number; a line of another form is `!`."
unfoldable pub printed_refusal : ℕ → List ℕ
printed_refusal number = bytes "!" ++ decimal number ++ bytes "\n"

abbrev pub printed_other : List ℕ
printed_other = bytes "!\n"

-- the answer to a line of a connection: "the asker's before the owner's"
unfoldable pub printed_answer : ℕ → Answer → List ℕ
printed_answer connection (answer.Refused number) = printed_refusal number
printed_answer connection answer.Taken = []
printed_answer connection (answer.Reply r also) =
    printed_reply (decimal connection) (reply_text r) ++ printed_also also (reply_text r)

-- the answer to another call, which has no reply
unfoldable pub printed_call : Answer → List ℕ
printed_call (answer.Refused number) = printed_refusal number
printed_call answer.Taken = []
printed_call (answer.Reply r also) = []

-- "each completion as `@moment`, space, connection (`-` for none), space, reply, LF"
unfoldable pub printed_completion : Completion → List ℕ
printed_completion c = bytes "@" ++ decimal c.moment.0 ++ bytes " " ++ printed_reply (who_text c.owner) (completion_text c)

abbrev pub printed_completions : List Completion → List ℕ
printed_completions [] = []
printed_completions (c ∷ l) = printed_completion c ++ printed_completions l

-- ---- as the code looks at it

-- whether a reply is one line: the device list alone is not
abbrev pub is_one_line : Reply → Bool
is_one_line (reply.Fixed Devices) = false
is_one_line (reply.Fixed Version) = true
is_one_line (reply.Error number place) = true
is_one_line (reply.Mode place mode) = true
is_one_line (reply.State place state) = true
is_one_line (reply.Complete place id) = true
is_one_line (reply.Busy place id) = true
is_one_line (reply.Stopped place) = true
is_one_line (reply.Lamp place level target) = true
