-- Worked requests: what is asked for, the room of the lent line, and what comes of it.
use Rattle.std.specs.Prelude.{ℕ, List, [], ◌∷◌}
use Prim.Native.String.{String}
use Rattle.laws.specs.Bytes.{bytes}
use Rattle.request.specs.declared.mode.Mode.TheVariants.{IrBlaster, LedLighting}
use Rattle.request.specs.Place.{place_of}
use Rattle.command.specs.declared.given.Command.{Command}
use Rattle.writer.specs.declared.Form.TheVariants.{Plain, Lettered}
use Rattle.writer.specs.Sendir.{Outcome, refused, line}
use Rattle.composer.specs.declared.Wish.TheVariants.{SetMode, SetState, GetState, SetLamp, GetLamp}
use Rattle.composer.specs.Compose.{wish_outcome, sendir_outcome}

pub record Row : Type 0 where
  pub composed : Outcome
  pub is : Outcome

infixr 40 ◌⇢◌
abbrev pub ◌⇢◌ : Outcome → Outcome → Row
composed ⇢ is = record { composed = composed; is = is }

abbrev pub ends : String → Outcome
ends text = line (bytes text)

-- a command to m:p
abbrev pub command : ℕ → ℕ → ℕ → ℕ → ℕ → ℕ → Command
command m p id freq repeat offset =
    record { place = place_of m p; fields = record { id = id; freq = freq; repeat = repeat; offset = offset } }

abbrev pub rows : List Row
rows =
    (sendir_outcome 4096 Plain (command 1 2 23333 40000 2 3) (24 ∷ 48 ∷ 24 ∷ 48 ∷ 960 ∷ []) ⇢ refused 10)
    ∷ (sendir_outcome 10 Plain (command 1 1 65536 40000 1 1) (4 ∷ 5 ∷ []) ⇢ refused 4)
    ∷ (sendir_outcome 10 Plain (command 1 1 65535 40000 1 1) (4 ∷ 5 ∷ []) ⇢ refused 101)
    ∷ (sendir_outcome 4096 Plain (command 5 3 3456 23400 1 1) (24 ∷ 48 ∷ 24 ∷ 960 ∷ []) ⇢ refused 2)
    ∷ (sendir_outcome 4096 Plain (command 1 3 0 40000 2 2) (24 ∷ 48 ∷ 24 ∷ 960 ∷ []) ⇢ refused 7)
    ∷ (sendir_outcome 4096 Plain (command 1 1 7 40000 1 3) (4 ∷ 5 ∷ []) ⇢ refused 7)
    ∷ (sendir_outcome 4096 Plain (command 1 1 7 40000 1 1) [] ⇢ refused 9)
    ∷ (sendir_outcome 4096 Plain (command 1 1 7 40000 21 1) (4 ∷ 5 ∷ []) ⇢ ends "sendir,1:1,7,40000,20,1,4,5\r")
    ∷ (sendir_outcome 4096 Lettered (command 1 1 7 40000 1 1) (4 ∷ 5 ∷ 4 ∷ 5 ∷ 8 ∷ 9 ∷ 4 ∷ 5 ∷ 8 ∷ 9 ∷ 8 ∷ 9 ∷ [])
    ⇢ ends "sendir,1:1,7,40000,1,1,4,5A8,9ABB\r")
    ∷ (wish_outcome 4096 (SetMode (place_of 1 2) IrBlaster) ⇢ refused 14)
    ∷ (wish_outcome 10 (SetMode (place_of 1 3) IrBlaster) ⇢ refused 101)
    ∷ (wish_outcome 4096 (SetMode (place_of 1 3) IrBlaster) ⇢ ends "set_IR,1:3,IR_BLASTER\r")
    ∷ (wish_outcome 10 (SetState (place_of 2 1) 2) ⇢ refused 23)
    ∷ (wish_outcome 4096 (GetState (place_of 2 4)) ⇢ refused 3)
    ∷ (wish_outcome 4096 (SetMode (place_of 1 2) LedLighting) ⇢ ends "set_IR,1:2,LED_LIGHTING\r")
    ∷ (wish_outcome 4096 (SetLamp (place_of 1 3) 100 10) ⇢ ends "set_LED_LIGHTING,1:3,100,10\r")
    ∷ (wish_outcome 4096 (SetLamp (place_of 2 1) 0 1) ⇢ refused 2)
    ∷ (wish_outcome 4096 (SetLamp (place_of 1 1) 0 1) ⇢ refused 23)
    ∷ (wish_outcome 10 (SetLamp (place_of 1 1) 101 1) ⇢ refused 23)
    ∷ (wish_outcome 10 (SetLamp (place_of 1 1) 1 11) ⇢ refused 23)
    ∷ (wish_outcome 10 (SetLamp (place_of 1 1) 1 0) ⇢ refused 101)
    ∷ (wish_outcome 4096 (GetLamp (place_of 1 1)) ⇢ ends "get_LED_LIGHTING,1:1\r")
    ∷ []
