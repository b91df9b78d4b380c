-- The calls beside lines that take no time, and the questions about carriers and levels.
use Rattle.std.specs.Prelude.{ℕ, ◌-◌, ◌≡◌, Bool, cond, Result, Ok, Err, List, [], ◌∷◌, map, ltb, length}
use Rattle.laws.specs.Checks.{◌⇒◌, first}
use Rattle.laws.specs.Put.{over}
use Rattle.words.specs.Places.{connectors}
use Rattle.reply.specs.declared.Reply.TheVariants.{Complete}
use Rattle.reply.specs.Reply.{reply_text}
use Rattle.lamp.specs.Lamp.{percent_of}
use Rattle.connector.specs.declared.Answer.{Answer}
use Rattle.connector.specs.declared.Answer.TheVariants as answer
use Rattle.connector.specs.declared.Completion.{Completion}
use Rattle.connector.specs.declared.Connector.{Connector}
use Rattle.connector.specs.Change.{disowned}
use Rattle.connector.specs.Reading.{reading_step}
use Rattle.connector.specs.Carrier.{carrier_of}
use Rattle.hub.specs.declared.Decided.{Decided}
use Rattle.hub.specs.declared.Moved.{Moved}
use Rattle.hub.specs.declared.Hub.{Hub}
use Rattle.hub.specs.Record.{slots, in_slot, connector_at, kept_at}
use Rattle.hub.specs.Line.{refusal, placed}

-- 104 "contact reading for a port not 1 to 3"; all else is the connector's to judge
unfoldable pub reading_call : Hub → ℕ → ℕ → Decided
reading_call h port value = first
    ((ltb port 1 ⇒ refusal 104)
    ∷ (ltb connectors port ⇒ refusal 104)
    ∷ []) (placed (port - 1) (reading_step (connector_at h (port - 1)) value))

abbrev pub moving : Answer → Hub → Moved
moving a h = record { answer = a; hub = h }

-- "Closing a connection changes one mark in each connector's record"
abbrev pub all_disowned : List Connector → ℕ → List Connector
all_disowned all connection = map (λ slot. disowned (in_slot all slot) connection) slots

abbrev pub closed_hub : Hub → ℕ → Hub
closed_hub h connection = record { connectors = all_disowned h.connectors connection; relays = h.relays }

unfoldable pub closed_call : Hub → ℕ → Moved
closed_call h connection = cond (ltb 7 connection) (moving (answer.Refused 102) h) (moving answer.Taken (closed_hub h connection))

-- "for each connector whether its carrier is on now"
abbrev pub all_carriers : List Connector → List ℕ → List Bool
all_carriers all store = map (λ slot. carrier_of (kept_at store slot) (in_slot all slot).sending) slots

abbrev pub carriers_of : Hub → List ℕ → List Bool
carriers_of h store = all_carriers h.connectors store

-- for each connector the level of its lamp, "the exact one rounded down"; 0 where there is no lamp, for it is dark then
abbrev pub all_levels : List Connector → List ℕ
all_levels all = map (λ slot. percent_of (in_slot all slot).lamp) slots

abbrev pub levels_of : Hub → List ℕ
levels_of h = all_levels h.connectors

-- 101 "lent reply buffer under 128 bytes"
abbrev pub completion_text : Completion → List ℕ
completion_text c = reply_text (Complete c.place c.id)

pub record CompletionWritten (c : Completion) (before : List ℕ) (r : Result ℕ ℕ) (after : List ℕ) : Type 0 where
  pub result : r ≡ cond (ltb (length before) 128) (Err 101) (Ok (length (completion_text c)))
  pub laid : after ≡ cond (ltb (length before) 128) before (over before 0 (completion_text c))
