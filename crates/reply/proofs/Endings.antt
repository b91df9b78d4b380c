-- "A reply ends with CR".
use Prim.Native.Nat.{ℕ, ◌-◌}
use mathlib.Core.Path.{refl, sym}
use mathlib.Core.List.{List, [], ◌∷◌, ◌++◌, append_assoc}
use lib.ListN.{length, take}
use Rattle.laws.specs.Bytes.{bytes}
use Rattle.words.specs.Decimal.{decimal, three_digits}
use Rattle.request.specs.Mode.{mode_word}
use Rattle.reply.specs.declared.Reply.{Reply}
use Rattle.reply.specs.declared.Reply.TheVariants.{Fixed, Error, Mode, State, Complete, Busy, Stopped, Lamp}
use Rattle.reply.specs.Reply.{address_text, fixed_text, reply_text, EndsWithCr}
use Rattle.reply.proofs.Fixed.{fixed_proper}

-- a head, a comma, a word and the CR
behind : (head word : List ℕ) → EndsWithCr (head ++ (bytes "," ++ word ++ bytes "\r"))
behind head word =
    record { front = head ++ (bytes "," ++ word); is = sym (append_assoc head (bytes "," ++ word) (13 ∷ [])) }

-- any reply
pub ends_with_cr : (r : Reply) → EndsWithCr (reply_text r)
unfolding reply_text
ends_with_cr (Fixed fixed) =
    record { front = take (length (fixed_text fixed) - 1) (fixed_text fixed); is = (fixed_proper fixed).ends }
ends_with_cr (Error number place) = behind (address_text (bytes "ERR_") place) (three_digits number)
ends_with_cr (Mode place mode) = behind (address_text (bytes "IR,") place) (mode_word mode)
ends_with_cr (State place state) = behind (address_text (bytes "state,") place) (decimal state)
ends_with_cr (Complete place id) = behind (address_text (bytes "completeir,") place) (decimal id)
ends_with_cr (Busy place id) = behind (address_text (bytes "busyIR,") place) (decimal id)
ends_with_cr (Stopped place) = record { front = address_text (bytes "stopir,") place; is = refl }
ends_with_cr (Lamp place level target) =
    behind (address_text (bytes "LED_LIGHTING,") place) (decimal level ++ bytes "," ++ decimal target)
