-- Document 01: "modes IR, SENSOR, IR_BLASTER", and by request 3 LED_LIGHTING "on any connector", 023 "mode or relay state not in its list, or missing", 014 "IR_BLASTER on a
-- connector other than 3".
use Rattle.std.specs.Prelude.{ℕ, ◌+◌, List, [], ◌∷◌, Bool, true, false, Option, Some, None, length, drop, eqb}
use Rattle.laws.specs.Bytes.{bytes}
use Rattle.laws.specs.Checks.{◌⇒◌, first}
use Rattle.text.specs.Field.{field_is}
use Rattle.request.specs.declared.mode.Mode.{Mode}
use Rattle.request.specs.declared.mode.Mode.TheVariants.{Ir, Sensor, IrBlaster, LedLighting}

abbrev pub mode_word : Mode → List ℕ
mode_word Ir = bytes "IR"
mode_word Sensor = bytes "SENSOR"
mode_word IrBlaster = bytes "IR_BLASTER"
mode_word LedLighting = bytes "LED_LIGHTING"

-- the mode that the field at a place is, and where that field ends
unfoldable pub mode_at : List ℕ → ℕ → Option (Mode × ℕ)
mode_at s at = first
    ((field_is (mode_word Ir) (drop at s) ⇒ Some (Ir, at + length (mode_word Ir)))
    ∷ (field_is (mode_word Sensor) (drop at s) ⇒ Some (Sensor, at + length (mode_word Sensor)))
    ∷ (field_is (mode_word IrBlaster) (drop at s) ⇒ Some (IrBlaster, at + length (mode_word IrBlaster)))
    ∷ (field_is (mode_word LedLighting) (drop at s) ⇒ Some (LedLighting, at + length (mode_word LedLighting)))
    ∷ []) None

abbrev pub may_have : ℕ → Mode → Bool
may_have port Ir = true
may_have port Sensor = true
may_have port IrBlaster = eqb port 3
may_have port LedLighting = true

abbrev pub is_sensor : Mode → Bool
is_sensor Ir = false
is_sensor Sensor = true
is_sensor IrBlaster = false
is_sensor LedLighting = false

abbrev pub is_lighting : Mode → Bool
is_lighting Ir = false
is_lighting Sensor = false
is_lighting IrBlaster = false
is_lighting LedLighting = true

-- 013 "sendir or stopir to a connector in SENSOR", and in LED_LIGHTING: "sendir and stopir there get 013"
abbrev pub is_silent : Mode → Bool
is_silent Ir = false
is_silent Sensor = true
is_silent IrBlaster = false
is_silent LedLighting = true

-- "A fresh hub has every connector in mode IR"
abbrev pub fresh_mode : ℕ → Mode
fresh_mode port = Ir
