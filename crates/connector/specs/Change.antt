-- The records that a connector may become, the same for each of them.
use Rattle.std.specs.Prelude.{ℕ, Bool, true, false, cond, eqb, Option, Some, None}
use Rattle.pace.specs.Pace as pace
use Rattle.lamp.specs.declared.Lamp.{Lamp}
use Rattle.lamp.specs.Lamp.{dark}
use Rattle.request.specs.declared.mode.Mode.{Mode}
use Rattle.request.specs.declared.mode.Mode.TheVariants.{Ir, Sensor, IrBlaster, LedLighting}
use Rattle.connector.specs.declared.Owner.{Owner}
use Rattle.connector.specs.declared.Owner.TheVariants.{Nobody, Connection}
use Rattle.connector.specs.declared.Run.{Run}
use Rattle.connector.specs.declared.Connector.{Connector}
use Rattle.connector.specs.Record.{unread, idle}

abbrev pub same_mode : Mode → Mode → Bool
same_mode Ir Ir = true
same_mode Sensor Sensor = true
same_mode IrBlaster IrBlaster = true
same_mode LedLighting LedLighting = true
same_mode _ _ = false

-- "a change of mode makes the contact unread, the present mode again changes nothing"; "A connector entering this mode is at 0 with target 0"
unfoldable pub with_mode : Connector → Mode → Connector
with_mode c mode =
    cond (same_mode c.mode mode) c
    (record { owner = c.owner; mode = mode; contact = unread; sending = c.sending; lamp = dark })

abbrev pub with_reading : Connector → ℕ → Connector
with_reading c value = record { owner = c.owner; mode = c.mode; contact = Some value; sending = c.sending; lamp = c.lamp }

abbrev pub with_lamp : Connector → Lamp → Connector
with_lamp c lamp = record { owner = c.owner; mode = c.mode; contact = c.contact; sending = c.sending; lamp = lamp }

-- the same mode, contact and lamp, with another transmission or none
abbrev pub with_sending : Connector → Owner → Option Run → Connector
with_sending c owner sending = record { owner = owner; mode = c.mode; contact = c.contact; sending = sending; lamp = c.lamp }

-- a renewal, with the command's own repeat
abbrev pub renewed_run : Run → Run
renewed_run r = record { fields = r.fields; count = r.count; pace = pace.renewed r.pace r.fields.repeat }

abbrev pub renewed_sending : Connector → Option Run → Connector
renewed_sending c None = c
renewed_sending c (Some r) = with_sending c c.owner (Some (renewed_run r))

abbrev pub renewed : Connector → Connector
renewed c = renewed_sending c c.sending

abbrev pub is_running : Option Run → Bool
is_running None = false
is_running (Some r) = true

abbrev pub stopped : Connector → Connector
stopped c = with_sending c Nobody idle

abbrev pub owns : Owner → ℕ → Bool
owns Nobody connection = false
owns (Connection number) connection = eqb number connection

-- "Closing a connection .. its transmissions run on with no owner": who owns one then
unfoldable pub owner_left : Owner → ℕ → Owner
owner_left owner connection = cond (owns owner connection) Nobody owner

abbrev pub disowned : Connector → ℕ → Connector
disowned c connection = with_sending c (owner_left c.owner connection) c.sending
