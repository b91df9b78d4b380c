-- The line of each request of document 01's table, and what composing gives: "It composes each request of document 01's table, with its CR";
-- "then 101 for a lent line under 4,096 bytes; nothing written"; "Bytes of a lent buffer after what is written keep their contents."
use Rattle.std.specs.Prelude.{ℕ, ◌≡◌, not, List, [], ◌∷◌, ◌++◌, ltb, eqb, Result}
use Rattle.laws.specs.Bytes.{bytes}
use Rattle.laws.specs.Checks.{◌⇒◌, first}
use Rattle.laws.specs.Put.{over}
use Rattle.words.specs.Decimal.{decimal}
use Rattle.words.specs.Pairs.{pairs_of}
use Rattle.request.specs.Name.{fixed_word}
use Rattle.request.specs.Mode.{mode_word}
use Rattle.reply.specs.Reply.{address_text}
use Rattle.command.specs.declared.given.Command.{Command}
use Rattle.command.specs.Given.{taken_as}
use Rattle.writer.specs.declared.Form.{Form}
use Rattle.writer.specs.Sendir.{sendir_line, Outcome, refused, line, answer_of, bytes_of}
use Rattle.composer.specs.declared.Wish.{Wish}
use Rattle.composer.specs.declared.Wish.TheVariants.{Fixed, SetMode, GetMode, SetState, GetState, Stop, SetLamp, GetLamp}
use Rattle.composer.specs.Fault.{or_else, sendir_fault, wish_fault}

-- without its CR
unfoldable pub wish_text : Wish → List ℕ
wish_text (Fixed fixed) = fixed_word fixed
wish_text (SetMode a mode) = address_text (bytes "set_IR,") a ++ (bytes "," ++ mode_word mode)
wish_text (GetMode a) = address_text (bytes "get_IR,") a
wish_text (SetState a state) = address_text (bytes "setstate,") a ++ (bytes "," ++ decimal state)
wish_text (GetState a) = address_text (bytes "getstate,") a
wish_text (Stop a) = address_text (bytes "stopir,") a
wish_text (SetLamp a target ramp) =
    address_text (bytes "set_LED_LIGHTING,") a ++ (bytes "," ++ (decimal target ++ bytes "," ++ decimal ramp))
wish_text (GetLamp a) = address_text (bytes "get_LED_LIGHTING,") a

-- "101 for a lent line under 4,096 bytes"
abbrev pub room_fault : ℕ → ℕ
room_fault room = first ((ltb room 4096 ⇒ 101) ∷ []) 0

-- the number of a refusal: the fault, then that of too little room; 0 where there is neither
unfoldable pub refusal_of : ℕ → ℕ → ℕ
refusal_of fault room = or_else fault (room_fault room)

-- that refusal, or the text and its CR
unfoldable pub composing : ℕ → ℕ → List ℕ → Outcome
composing room fault text = first
    ((not (eqb (refusal_of fault room) 0) ⇒ refused (refusal_of fault room))
    ∷ []) (line (text ++ bytes "\r"))

abbrev pub wish_outcome : ℕ → Wish → Outcome
wish_outcome room wish = composing room (wish_fault wish) (wish_text wish)

-- the repeat as capped, the code in the form that is asked for
abbrev pub sendir_outcome : ℕ → Form → Command → List ℕ → Outcome
sendir_outcome room form c counts =
    composing room (sendir_fault c counts) (sendir_line form c.place (taken_as c.fields) (pairs_of counts))

-- the answer and the whole of the lent line; nothing is written of a refusal
pub record Composes (outcome : Outcome) (before : List ℕ) (r : Result ℕ ℕ) (after : List ℕ) : Type 0 where
  pub answer : r ≡ answer_of outcome
  pub laid : after ≡ over before 0 (bytes_of outcome)
