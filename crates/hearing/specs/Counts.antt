-- What of the table is counted, and worked lines.
use Rattle.std.specs.Prelude.{ℕ, zero, suc, ◌+◌, cond, List, [], ◌∷◌}
use Prim.Native.String.{String}
use Rattle.laws.specs.Bytes.{bytes}
use Rattle.request.specs.declared.Place.{Place}
use Rattle.request.specs.Place.{place_of}
use Rattle.request.specs.declared.mode.Mode.TheVariants.{LedLighting}
use Rattle.logger.specs.declared.Heard.{Heard}
use Rattle.logger.specs.declared.Heard.TheVariants.{NotReply, Complete, Mode, Error, Lamp}
use Rattle.logger.specs.Heard.{writable}

-- a function summed over the numbers below n
abbrev pub sum : ℕ → (ℕ → ℕ) → ℕ
sum zero f = 0
sum (suc n) f = sum n f + f n

-- over the modules and ports below 5
abbrev pub places : (Place → ℕ) → ℕ
places f = sum 5 (λ m. sum 5 (λ port. f (place_of m port)))

-- 1 for a reply that a hub can write
abbrev pub one : Heard → ℕ
one r = cond (writable r) 1 0

-- a line, and what it is heard as
pub record Row : Type 0 where
  pub line : List ℕ
  pub is : Heard

infixr 40 ◌⇢◌
abbrev pub ◌⇢◌ : String → Heard → Row
text ⇢ is = record { line = bytes text; is = is }

abbrev pub rows : List Row
rows =
    ("ERR_1:2,014" ⇢ Error 14 (place_of 1 2))
    ∷ ("ERR_1:3,014" ⇢ NotReply)
    ∷ ("completeir,1:3,65535" ⇢ Complete (place_of 1 3) 65535)
    ∷ ("IR,1:1,IR_BLASTER" ⇢ NotReply)
    ∷ ("ERR_2:1,018" ⇢ NotReply)
    ∷ ("ERR_1:1,002" ⇢ NotReply)
    ∷ ("completeir,1:1,007" ⇢ NotReply)
    ∷ ("completeir,1:1,65536" ⇢ NotReply)
    ∷ ("state,1:1,2" ⇢ NotReply)
    ∷ ("device,1,3 RELAY" ⇢ NotReply)
    ∷ ("state,1:1,00" ⇢ NotReply)
    ∷ ("IR,1:1,LED_LIGHTING" ⇢ Mode (place_of 1 1) LedLighting)
    ∷ ("LED_LIGHTING,1:2,3,100" ⇢ Lamp (place_of 1 2) 3 100)
    ∷ ("LED_LIGHTING,1:3,0,0" ⇢ Lamp (place_of 1 3) 0 0)
    ∷ ("LED_LIGHTING,1:1,5,0" ⇢ NotReply)
    ∷ ("LED_LIGHTING,1:1,5,101" ⇢ NotReply)
    ∷ ("LED_LIGHTING,1:1,101,5" ⇢ NotReply)
    ∷ ("LED_LIGHTING,1:1,5,07" ⇢ NotReply)
    ∷ ("LED_LIGHTING,1:1,5,7," ⇢ NotReply)
    ∷ ("LED_LIGHTING,2:1,5,7" ⇢ NotReply)
    ∷ []
