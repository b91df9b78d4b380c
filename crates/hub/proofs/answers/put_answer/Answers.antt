use Prim.Native.Nat.{ℕ}
use mathlib.Core.Path.{◌≡◌, refl, sym}
use mathlib.Core.List.{List}
use native.Mathlib.Nat.{zero-add}
use Rattle.laws.proofs.Put.{over_nothing}
use Rattle.reply.specs.declared.Reply.{Reply}
use Rattle.connector.specs.declared.Owner.{Owner}
use Rattle.connector.specs.declared.Answer.{Answer}
use Rattle.connector.specs.declared.Answer.TheVariants as answer
use Rattle.hub.specs.Line.{Laid}
use Rattle.hub.proofs.answers.put_answer.Goals as goal

-- nothing is laid where there is no reply
none_laid : (a : Answer) → ((r : Reply) (also : Owner) → a ≡ answer.Reply r also → ⊥) → (before : List ℕ) → Laid a before 0 before
none_laid (answer.Refused number) other before = record { result = refl; laid = sym (over_nothing before 0) }
none_laid answer.Taken other before = record { result = refl; laid = sym (over_nothing before 0) }
none_laid (answer.Reply r also) other before = absurd (other r also refl)

pub returns-in-Reply : goal.returns-in-Reply
returns-in-Reply c =
    let put = c.put_reply.ensures in
    rw c.in-Reply.is (record { result = rw (put.place, zero-add); laid = put.laid })

pub returns-in_default : goal.returns-in_default
returns-in_default c = none_laid c.args.answer c.in_default.not-Reply c.args.reply.now
