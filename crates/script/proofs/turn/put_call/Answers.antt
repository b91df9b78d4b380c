use Prim.Native.Nat.{ℕ}
use mathlib.Core.Path.{◌≡◌, refl}
use mathlib.Core.List.{[]}
use Rattle.connector.specs.declared.Answer.{Answer}
use Rattle.connector.specs.declared.Answer.TheVariants as answer
use native.Mathlib.Omega.{arith}
use Rattle.laws.proofs.Put.{nothing}
use Rattle.script.specs.Output.{printed_call}
use Rattle.script.proofs.Printing.{refusal_length}
use Rattle.script.proofs.turn.put_call.Goals as goal

pub returns-in-Refused : goal.returns-in-Refused
unfolding printed_call
returns-in-Refused c =
    rw c.in-Refused.is (c.put_refusal.ensures, omega (arith, c.put_refusal.ensures.place, refusal_length c.in-Refused.number))

-- nothing is printed where there is no refusal
silent : (a : Answer) → ((number : ℕ) → a ≡ answer.Refused number → ⊥) → printed_call a ≡ []
unfolding printed_call
silent (answer.Refused number) other = absurd (other number refl)
silent answer.Taken other = refl
silent (answer.Reply r also) other = refl

pub returns-in_default : goal.returns-in_default
returns-in_default c = rw (silent c.args.answer c.in_default.not-Refused) (nothing _ _ (omega arith), omega arith)
