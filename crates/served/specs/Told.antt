-- What is written to whom, reply by reply, and what is refused. Document 01: "`stopir,1:p`; the same to the owner of a halted transmission, if
-- another connection"; "A wait returns up to three completions ..  One without an owner is listed without an addressee."
use Rattle.std.specs.Prelude.{ℕ, cond, List, [], ◌∷◌, ◌++◌, map}
use Rattle.std.proofs.Math.Option.{Option, none, some}
use Rattle.meaning.specs.Log.{Deed, is_owner}
use Rattle.meaning.specs.Table.{Completion, Answer, refused, taken, replied, Call, logged, Said}
use Rattle.logged.specs.Written.{asker}

-- a reply to a connection; a completion at a moment from the wait's start, to its owner or to nobody; a refusal
pub data Told : Type 0 where
  reply : ℕ → List ℕ → Told
  completion : ℕ → Option ℕ → List ℕ → Told
  refusal : ℕ → Told

abbrev pub reply_to : Option ℕ → List ℕ → List Told
reply_to none words = []
reply_to (some connection) words = reply connection words ∷ []

abbrev pub completion_told : Completion → Told
completion_told x = completion x.moment x.owner x.notice

-- an answer to a call of somebody, or of nobody: the asker's reply before the owner's
abbrev pub answer_told : Option ℕ → Answer → List Told
answer_told whose (refused n) = refusal n ∷ []
answer_told whose (taken l) = map completion_told l
answer_told whose (replied words also) = reply_to whose words ++ reply_to also words

-- the answers to a list of calls
abbrev pub told : List Call → List Said → List Told
told [] said = []
told (call ∷ l) [] = []
told (call ∷ l) (x ∷ said) = answer_told (asker call) x.answer ++ told l said

-- what of it is written to a connection, text by text
abbrev pub text_for : ℕ → Told → List (List ℕ)
text_for connection (reply whom words) = cond (is_owner connection (some whom)) (words ∷ []) []
text_for connection (completion moment whom words) = cond (is_owner connection whom) (words ∷ []) []
text_for connection (refusal n) = []

abbrev pub texts_for : ℕ → List Told → List (List ℕ)
texts_for connection [] = []
texts_for connection (x ∷ l) = text_for connection x ++ texts_for connection l

-- the log after a list of calls, the first of them first
abbrev pub log_after : List Deed → List Call → List Deed
log_after log [] = log
log_after log (call ∷ l) = log_after (logged log call) l
