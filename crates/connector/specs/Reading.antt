-- A contact reading, of a connector that there is: 104 "contact reading for a port not 1 to 3, or not in SENSOR, or not 0 or 1".
use Rattle.std.specs.Prelude.{ℕ, not, [], ◌∷◌, ltb, Some, None}
use Rattle.laws.specs.Checks.{◌⇒◌, first}
use Rattle.request.specs.Mode.{is_sensor}
use Rattle.connector.specs.declared.Connector.{Connector}
use Rattle.connector.specs.declared.Answer.TheVariants as answer
use Rattle.connector.specs.declared.Stepped.{Stepped}
use Rattle.connector.specs.Record.{stepping}
use Rattle.connector.specs.Change.{with_reading}

-- "Calls themselves refuse with a number, nothing written and nothing changed"
abbrev pub refuses : ℕ → Stepped
refuses number = stepping (answer.Refused number) None

unfoldable pub reading_step : Connector → ℕ → Stepped
reading_step c value = first
    ((not (is_sensor c.mode) ⇒ refuses 104)
    ∷ (ltb 1 value ⇒ refuses 104)
    ∷ []) (stepping answer.Taken (Some (with_reading c value)))
