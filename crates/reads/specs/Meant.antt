-- What the log makes of a request that was read: the rows of the table once more, by the request and not by the line. `line_is` of
-- proofs/Rows.antt says that the two are one.
use Rattle.std.specs.Prelude.{ℕ, cond, List, []}
use Rattle.words.specs.declared.Pair.{Pair}
use Rattle.words.specs.declared.Fields.{Fields}
use Rattle.meaning.specs.Log.{Deed}
use Rattle.meaning.specs.Table.{Judged, error, reply}
use Rattle.theorems.specs.Deeds.{silent}
use Rattle.theorems.specs.Spelled.{mode_set, mode_told, relay_set, relay_told, contact_told, lamp_set, lamp_told, stopped}
use Rattle.theorems.specs.Spelled as spelled
use Rattle.request.specs.declared.Fixed.{Fixed}
use Rattle.request.specs.declared.Ask.{Ask}
use Rattle.request.specs.declared.Ask.TheVariants.{SetMode, GetMode, GetContact, Send, Stop, SetLamp, GetLamp}
use Rattle.request.specs.declared.Turn.{Turn}
use Rattle.request.specs.declared.Turn.TheVariants.{Set, Get}
use Rattle.request.specs.declared.Request.{Request}
use Rattle.request.specs.declared.Request.TheVariants as request
use Rattle.request.specs.Mode.{mode_word}
use Rattle.command.specs.Read.{CommandReading, sent, faulty, command_at}
use Rattle.reply.specs.Reply.{fixed_text}

abbrev pub meant_command : List Deed → ℕ → ℕ → Fields → List Pair → Judged
meant_command log connection p f ps = spelled.sent log connection p f ps

abbrev pub meant_read : List Deed → ℕ → ℕ → CommandReading → Judged
meant_read log connection p (faulty n ps) = error n 1 p
meant_read log connection p (sent f ps) = meant_command log connection p f ps

-- the requests without an address; that the table has these words too is `request_row` of proofs/Rows.antt
abbrev pub meant_fixed : Fixed → Judged
meant_fixed fixed = reply (fixed_text fixed) []

-- those to connector p
abbrev pub meant_ask : List Deed → ℕ → List ℕ → ℕ → Ask → Judged
meant_ask log connection s p (SetMode mode) = mode_set log p (mode_word mode)
meant_ask log connection s p GetMode = mode_told log p
meant_ask log connection s p GetContact = contact_told log p
meant_ask log connection s p (Send at) = cond (silent p log) (error 13 1 p) (meant_read log connection p (command_at s at))
meant_ask log connection s p Stop = stopped log connection p
meant_ask log connection s p (SetLamp target ramp more) = lamp_set log p target ramp more
meant_ask log connection s p (GetLamp more) = lamp_told log p more

-- those to relay p
abbrev pub meant_turn : List Deed → ℕ → Turn → Judged
meant_turn log p (Set state) = relay_set p state
meant_turn log p Get = relay_told log p

abbrev pub meant : List Deed → ℕ → List ℕ → Request → Judged
meant log connection s (request.Fault n place) = error n place.m place.port
meant log connection s (request.Fixed fixed) = meant_fixed fixed
meant log connection s (request.Connector place ask) = meant_ask log connection s place.port ask
meant log connection s (request.Relay place turn) = meant_turn log place.port turn
