-- What the theorems on composed requests speak of: the request that a wish is, and a sendir spelled out.
use Rattle.std.specs.Prelude.{ℕ, ◌<◌, ◌^◌, ◌≡◌, false, cond, List, ◌∷◌, map, eqb, length, get_or}
use Rattle.laws.specs.Bytes.{bytes}
use Rattle.words.specs.Decimal.{decimal}
use Rattle.words.specs.declared.Pair.{Pair}
use Rattle.theorems.specs.Spelled.{fields, at}
use Rattle.request.specs.declared.Place.{Place}
use Rattle.request.specs.declared.Ask.TheVariants as ask
use Rattle.request.specs.declared.Turn.TheVariants as turn
use Rattle.request.specs.declared.Request.{Request}
use Rattle.request.specs.declared.Request.TheVariants.{Fault, Connector, Relay}
use Rattle.request.specs.declared.Request.TheVariants as request
use Rattle.request.specs.Place.{nowhere}
use Rattle.request.specs.Request.{read_request}
use Rattle.command.specs.declared.given.Command.{Command}
use Rattle.command.specs.Read.{faulty, command_at}
use Rattle.composer.specs.declared.Wish.{Wish}
use Rattle.composer.specs.declared.Wish.TheVariants.{Fixed, SetMode, GetMode, SetState, GetState, Stop, SetLamp, GetLamp}

-- the request that the hub is to read
abbrev pub request_of : Wish → Request
request_of (Fixed fixed) = request.Fixed fixed
request_of (SetMode a mode) = Connector a (ask.SetMode mode)
request_of (GetMode a) = Connector a ask.GetMode
request_of (SetState a state) = Relay a (turn.Set state)
request_of (GetState a) = cond (eqb a.m 1) (Connector a ask.GetContact) (Relay a turn.Get)
request_of (Stop a) = Connector a ask.Stop
request_of (SetLamp a target ramp) = Connector a (ask.SetLamp target ramp false)
request_of (GetLamp a) = Connector a (ask.GetLamp false)

-- a machine's number
abbrev pub Wide : ℕ → Type 0
Wide n = n < 2 ^ 64

-- the place of a wish
abbrev pub place_in : Wish → Place
place_in (Fixed fixed) = nowhere
place_in (SetMode a mode) = a
place_in (GetMode a) = a
place_in (SetState a state) = a
place_in (GetState a) = a
place_in (Stop a) = a
place_in (SetLamp a target ramp) = a
place_in (GetLamp a) = a

-- the numbers of a wish are a machine's
abbrev pub WideWish : Wish → Type 0
WideWish (Fixed fixed) = Unit
WideWish (SetMode a mode) = Wide a.m × Wide a.port
WideWish (GetMode a) = Wide a.m × Wide a.port
WideWish (SetState a state) = Wide a.m × Wide a.port × Wide state
WideWish (GetState a) = Wide a.m × Wide a.port
WideWish (Stop a) = Wide a.m × Wide a.port
WideWish (SetLamp a target ramp) = Wide a.m × Wide a.port × Wide target × Wide ramp
WideWish (GetLamp a) = Wide a.m × Wide a.port

-- each of some counts is
abbrev pub EachWide : List ℕ → Type 0
EachWide counts = (i : ℕ) → i < length counts → Wide (get_or counts i 0)

-- all numbers of a sendir are
pub record WideCommand (c : Command) (counts : List ℕ) : Type 0 where
  pub m : Wide c.place.m
  pub port : Wide c.place.port
  pub id : Wide c.fields.id
  pub freq : Wide c.fields.freq
  pub repeat : Wide c.fields.repeat
  pub offset : Wide c.fields.offset
  pub each : EachWide counts

-- a fault as the hub reads one: 002 and 003 name no place
abbrev pub fault_for : ℕ → Place → Request
fault_for n a = Fault n (cond (eqb n 2) nowhere (cond (eqb n 3) nowhere a))

-- a sendir with all of its numbers as they were given and its counts spelled one by one
unfoldable pub spelled_out : Command → List ℕ → List ℕ
spelled_out c counts =
    fields
    (bytes "sendir" ∷ at (decimal c.place.m) (decimal c.place.port) ∷ decimal c.fields.id ∷ decimal c.fields.freq
    ∷ decimal c.fields.repeat ∷ decimal c.fields.offset ∷ map decimal counts)

-- how the hub refuses a sendir's line: by its address, or by what stands behind it
pub data RefusedAs (text : List ℕ) (a : Place) (n : ℕ) : Type 0 where
  by_place : read_request text ≡ Fault n nowhere → RefusedAs text a n
  by_command : (begins : ℕ) (ps : List Pair) → read_request text ≡ Connector a (ask.Send begins) → command_at text begins ≡ faulty n ps
      → RefusedAs text a n
