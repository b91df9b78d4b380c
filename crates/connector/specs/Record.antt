-- The record of a connector. Document 01: "every connector in mode IR and idle, every contact unread".
use Rattle.std.specs.Prelude.{ℕ, ◌≤◌, ◌≡◌, Option, Some, None}
use Rattle.pace.specs.Pace.{SoundPace}
use Rattle.lamp.specs.Lamp.{SoundLamp, dark}
use Rattle.request.specs.declared.mode.Mode.{Mode}
use Rattle.connector.specs.declared.Owner.{Owner}
use Rattle.connector.specs.declared.Owner.TheVariants.{Nobody}
use Rattle.connector.specs.declared.Run.{Run}
use Rattle.connector.specs.declared.Connector.{Connector}
use Rattle.connector.specs.declared.Answer.{Answer}
use Rattle.connector.specs.declared.Stepped.{Stepped}

-- a contact without a reading since the hub or the mode began
abbrev pub unread : Option ℕ
unread = None

-- a connector that transmits nothing
abbrev pub idle : Option Run
idle = None

-- in the mode that it wakes in
abbrev pub fresh_connector : Mode → Connector
fresh_connector mode = record { owner = Nobody; mode = mode; contact = unread; sending = idle; lamp = dark }

-- ---- what every connector has that a fresh hub and the calls gave

pub record SoundRun (r : Run) : Type 0 where
  pub paced : SoundPace r.pace
  pub freq_low : 15000 ≤ r.fields.freq
  pub freq_high : r.fields.freq ≤ 500000
  pub repeat_low : 1 ≤ r.fields.repeat
  pub repeat_high : r.fields.repeat ≤ 20
  pub few : r.count ≤ 260

-- an idle connector owns nobody, so that one meaning has one record
abbrev pub SoundSending : Option Run → Owner → Type 0
SoundSending None owner = owner ≡ Nobody
SoundSending (Some r) owner = SoundRun r

abbrev pub SoundContact : Option ℕ → Type 0
SoundContact None = Unit
SoundContact (Some value) = value ≤ 1

pub record SoundConnector (c : Connector) : Type 0 where
  pub sends : SoundSending c.sending c.owner
  pub reads : SoundContact c.contact
  pub lights : SoundLamp c.lamp

-- and what becomes of one is sound
abbrev pub SoundChange : Option Connector → Type 0
SoundChange None = Unit
SoundChange (Some c) = SoundConnector c

-- the connector after a change
abbrev pub changed : Connector → Option Connector → Connector
changed c None = c
changed c (Some next) = next

-- what an answer and a change are together
abbrev pub stepping : Answer → Option Connector → Stepped
stepping a x = record { answer = a; change = x }
