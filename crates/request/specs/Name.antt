-- Document 01: "Names are case sensitive." A request's name runs up to the first comma.
use Rattle.std.specs.Prelude.{ℕ, List, [], ◌∷◌, cond, Option, Some, None, eqb}
use Rattle.laws.specs.Bytes.{bytes}
use Rattle.laws.specs.Checks.{◌⇒◌, first}
use Rattle.text.specs.Field.{field_is}
use Rattle.request.specs.declared.Fixed.{Fixed}
use Rattle.request.specs.declared.Fixed.TheVariants.{Devices, Version}
use Rattle.request.specs.declared.name.Name.{Name}
use Rattle.request.specs.declared.name.Name.TheVariants.{SetIr, GetIr, SetState, GetState, SendIr, StopIr, SetLamp, GetLamp}
use Rattle.request.specs.declared.name.Word.{Word}
use Rattle.request.specs.declared.name.Word.TheVariants.{Alone, Named}

-- the requests without an address
abbrev pub fixed_word : Fixed → List ℕ
fixed_word Devices = bytes "getdevices"
fixed_word Version = bytes "getversion"

-- those with one
abbrev pub name_of : Name → List ℕ
name_of SetIr = bytes "set_IR"
name_of GetIr = bytes "get_IR"
name_of SetState = bytes "setstate"
name_of GetState = bytes "getstate"
name_of SendIr = bytes "sendir"
name_of StopIr = bytes "stopir"
name_of SetLamp = bytes "set_LED_LIGHTING"
name_of GetLamp = bytes "get_LED_LIGHTING"

abbrev pub word_of : Word → List ℕ
word_of (Alone fixed) = fixed_word fixed
word_of (Named name) = name_of name

-- every word
abbrev pub words : List Word
words =
    Alone Devices ∷ Alone Version ∷ Named SetIr ∷ Named GetIr ∷ Named SetState ∷ Named GetState ∷ Named SendIr ∷ Named StopIr
    ∷ Named SetLamp ∷ Named GetLamp ∷ []

-- the first of some words that the line's first field is
abbrev pub word_among : List Word → List ℕ → Option Word
word_among [] s = None
word_among (w ∷ ws) s = cond (field_is (word_of w) s) (Some w) (word_among ws s)

unfoldable pub word_at : List ℕ → Option Word
word_at s = word_among words s

-- the one word that can be the first field of a line with these first, fourth and fifth bytes: 100, 115, 95, 118 and 76 are d, s, _, v and L
unfoldable pub candidate : ℕ → ℕ → ℕ → Word
candidate a d e = first
    ((eqb d 100 ⇒ cond (eqb a 115) (Named SendIr) (Alone Devices))
    ∷ (eqb d 115 ⇒ cond (eqb a 115) (Named SetState) (Named GetState))
    ∷ (eqb d 95 ⇒ cond (eqb e 76) (cond (eqb a 115) (Named SetLamp) (Named GetLamp)) (cond (eqb a 115) (Named SetIr) (Named GetIr)))
    ∷ (eqb d 118 ⇒ Alone Version)
    ∷ []) (Named StopIr)
