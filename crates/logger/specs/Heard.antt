-- What a reply line is: the line of each reply, which of them a hub can write, and what a line is heard as. Document 02: "Lines that no hub
-- reached from a fresh one writes are not replies." That those of the table here are exactly the lines that histories write is the theorem
-- `exact` of crates/logged.
use Rattle.std.specs.Prelude.{ℕ, ◌≡◌, Bool, true, false, not, ◌&&◌, ◌||◌, List, [], ◌∷◌, ◌++◌, eqb, ltb, leb}
use Prim.Native.String.{String}
use Rattle.laws.specs.Bytes.{bytes}
use Rattle.laws.specs.Checks.{◌⇒◌, first, between, one_of}
use Rattle.words.specs.Decimal.{decimal, three_digits}
use Rattle.words.specs.Places.{connectors, relays}
use Rattle.meaning.specs.Line.{addressed}
use Rattle.theorems.specs.Occasion.{unaddressed}
use Rattle.theorems.specs.Occasion as occasion
use Rattle.request.specs.declared.Place.{Place}
use Rattle.request.specs.Mode.{mode_word, may_have}
use Rattle.logger.specs.declared.Device.{Device}
use Rattle.logger.specs.declared.Device.TheVariants.{Ethernet, Infrared, Relays, End}
use Rattle.logger.specs.declared.Heard.{Heard}
use Rattle.logger.specs.declared.Heard.TheVariants.{NotReply, State, Complete, Busy, Stop, Mode, Error, Version, Listed, Lamp}

-- ---- the line of each, without its CR: document 01's table

abbrev pub device_line : Device → List ℕ
device_line Ethernet = bytes "device,0,0 ETHERNET"
device_line Infrared = bytes "device,1,3 IR"
device_line Relays = bytes "device,2,3 RELAY"
device_line End = bytes "endlistdevices"

-- a word, m:p, a comma and what comes last
abbrev pub at : String → Place → List ℕ → List ℕ
at word a last = addressed word a.m a.port ++ (bytes "," ++ last)

unfoldable pub line_of : Heard → List ℕ
line_of NotReply = []
line_of (State a state) = at "state," a (decimal state)
line_of (Complete a id) = at "completeir," a (decimal id)
line_of (Busy a id) = at "busyIR," a (decimal id)
line_of (Stop a) = addressed "stopir," a.m a.port
line_of (Mode a mode) = at "IR," a (mode_word mode)
line_of (Error number a) = at "ERR_" a (three_digits number)
line_of Version = bytes "LH-01"
line_of (Listed d) = device_line d
line_of (Lamp a level target) = at "LED_LIGHTING," a (decimal level ++ bytes "," ++ decimal target)

-- ---- those that a hub can write

abbrev pub is_nowhere : Place → Bool
is_nowhere a = eqb a.m 0 && eqb a.port 0

-- one of a module that has so many ports
abbrev pub is_port_of : ℕ → ℕ → Place → Bool
is_port_of m ports a = eqb a.m m && between 1 ports a.port

abbrev pub is_connector : Place → Bool
is_connector a = is_port_of 1 connectors a

abbrev pub is_relay : Place → Bool
is_relay a = is_port_of 2 relays a

-- the numbers with each place: five with 0:0, 023 with a relay, all others with a connector, 014 with "a connector other than 3"
abbrev pub is_error : ℕ → Place → Bool
is_error n a = first
    ((is_nowhere a ⇒ one_of unaddressed n)
    ∷ (is_relay a ⇒ eqb n 23)
    ∷ (not (is_connector a) ⇒ false)
    ∷ (eqb n 14 ⇒ not (eqb a.port 3))
    ∷ []) (one_of occasion.addressed n)

-- "a target of 1 to 100"; "a connector entering this mode is at 0 with target 0"
abbrev pub is_level : ℕ → ℕ → Bool
is_level level target = first ((eqb target 0 ⇒ eqb level 0) ∷ (ltb 100 target ⇒ false) ∷ []) (leb level 100)

unfoldable pub writable : Heard → Bool
writable NotReply = false
writable (State a state) = leb state 1 && (is_relay a || is_connector a)
writable (Complete a id) = leb id 65535 && is_connector a
writable (Busy a id) = leb id 65535 && is_connector a
writable (Stop a) = is_connector a
writable (Mode a mode) = is_connector a && may_have a.port mode
writable (Error number a) = is_error number a
writable Version = true
writable (Listed d) = true
writable (Lamp a level target) = is_connector a && is_level level target

-- ---- what a line is

-- a reply that a hub can write, whose line this is
pub record IsLine (s : List ℕ) (r : Heard) : Type 0 where
  pub may : writable r ≡ true
  pub is : line_of r ≡ s

-- the reply whose line it is; or no reply, where there is none
pub data Hears (s : List ℕ) : Heard → Type 0 where
  heard : {r : Heard} → IsLine s r → Hears s r
  nothing : ((r : Heard) → IsLine s r → ⊥) → Hears s NotReply
