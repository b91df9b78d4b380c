-- A line of bytes read into one request, or into its first fault that does not depend on the hub's state, in document 01's
-- order: "015, 001, 017 for the address, 002, 003, then by request: .. set_IR 023, 014, 017;
-- setstate 023, 017; stopir 017; getstate 017; get_IR 017. getdevices and getversion know only 017."
use Rattle.std.specs.Prelude.{ℕ, List, [], ◌∷◌, Bool, false, cond, not, Option, Some, None, Result, Ok, Err, length, ltb, leb, eqb}
use Rattle.laws.specs.Checks.{◌⇒◌, first}
use Rattle.laws.specs.Lists.{all}
use Rattle.text.specs.Field.{after_comma, field_within}
use Rattle.request.specs.declared.Place.{Place}
use Rattle.request.specs.declared.Ask.TheVariants.{SetMode, GetMode, GetContact, Send, Stop, SetLamp, GetLamp}
use Rattle.request.specs.declared.Turn.TheVariants.{Set, Get}
use Rattle.request.specs.declared.Request.{Request}
use Rattle.request.specs.declared.Request.TheVariants.{Fault, Fixed, Connector, Relay}
use Rattle.request.specs.declared.name.Name.{Name}
use Rattle.request.specs.declared.name.Name.TheVariants as name
use Rattle.request.specs.declared.name.Word.{Word}
use Rattle.request.specs.declared.name.Word.TheVariants.{Alone, Named}
use Rattle.request.specs.declared.mode.Mode.{Mode}
use Rattle.request.specs.Place.{nowhere}
use Rattle.request.specs.Name.{fixed_word, name_of, word_at}
use Rattle.request.specs.Address.{address_at, address_fault}
use Rattle.request.specs.Mode.{mode_at, may_have}

-- 001 "a byte outside 32 to 126"
abbrev pub is_printable : ℕ → Bool
is_printable b = cond (ltb b 32) false (leb b 126)

-- "For 001, 002, 003, 015 and 017 the address is 0:0; otherwise it is the one asked for."
abbrev pub fault : ℕ → Request
fault number = Fault number nowhere

-- 017 "anything after a complete request"
unfoldable pub alone : List ℕ → ℕ → Request → Request
alone s end request = cond (ltb end (length s)) (fault 17) request

-- set_IR: 023, 014, 017
abbrev pub mode_read : List ℕ → Place → Option (Mode × ℕ) → Request
mode_read s place None = Fault 23 place
mode_read s place (Some (m, end)) =
    cond (may_have place.port m) (alone s end (Connector place (SetMode m))) (Fault 14 place)

unfoldable pub set_ir_at : List ℕ → Place → ℕ → Request
set_ir_at s place at = mode_read s place (mode_at s at)

-- setstate: 023, 017
abbrev pub state_read : List ℕ → Place → Option (ℕ × ℕ) → Request
state_read s place None = Fault 23 place
state_read s place (Some (state, end)) = alone s end (Relay place (Set state))

unfoldable pub set_state_at : List ℕ → Place → ℕ → Request
set_state_at s place at = state_read s place (field_within 0 1 s at)

-- getstate: module 1 has the contacts, module 2 the relays
unfoldable pub get_state_at : List ℕ → Place → ℕ → Request
get_state_at s place end =
    cond (eqb place.m 1) (alone s end (Connector place GetContact)) (alone s end (Relay place Get))

-- set_LED_LIGHTING: 023 for its fields. Whether the connector is a lamp comes before 017, so that the request carries whether there is more.
abbrev pub ramp_read : List ℕ → Place → ℕ → Option (ℕ × ℕ) → Request
ramp_read s place target None = Fault 23 place
ramp_read s place target (Some (ramp, end)) = Connector place (SetLamp target ramp (ltb end (length s)))

unfoldable pub ramp_at : List ℕ → Place → ℕ → ℕ → Request
ramp_at s place target at = ramp_read s place target (field_within 0 10 s at)

abbrev pub target_read : List ℕ → Place → Option (ℕ × ℕ) → Request
target_read s place None = Fault 23 place
target_read s place (Some (target, end)) = ramp_at s place target (after_comma s end)

unfoldable pub set_lamp_at : List ℕ → Place → ℕ → Request
set_lamp_at s place at = target_read s place (field_within 1 100 s at)

-- behind an address that the request takes, which ends at a place; a sendir is read no further here
abbrev pub at_address : List ℕ → Name → Place → ℕ → Request
at_address s name.SetIr place end = set_ir_at s place (after_comma s end)
at_address s name.GetIr place end = alone s end (Connector place GetMode)
at_address s name.SetState place end = set_state_at s place (after_comma s end)
at_address s name.GetState place end = get_state_at s place end
at_address s name.SendIr place end = Connector place (Send (after_comma s end))
at_address s name.StopIr place end = alone s end (Connector place Stop)
at_address s name.SetLamp place end = set_lamp_at s place (after_comma s end)
at_address s name.GetLamp place end = Connector place (GetLamp (ltb end (length s)))

-- 017 for the address, 002, 003
abbrev pub fault_read : List ℕ → Name → Place → ℕ → Result Unit ℕ → Request
fault_read s n place end (Ok u) = at_address s n place end
fault_read s n place end (Err number) = fault number

abbrev pub address_read : List ℕ → Name → Option (Place × ℕ) → Request
address_read s n None = fault 17
address_read s n (Some (place, end)) = fault_read s n place end (address_fault n place)

unfoldable pub addressed : List ℕ → Name → Request
addressed s n = address_read s n (address_at s (after_comma s (length (name_of n))))

-- behind the word that the line begins with
abbrev pub worded : List ℕ → Word → Request
worded s (Alone fixed) = alone s (length (fixed_word fixed)) (Fixed fixed)
worded s (Named n) = addressed s n

abbrev pub asked : List ℕ → Option Word → Request
asked s None = fault 1
asked s (Some word) = worded s word

-- the request that a line is, for any bytes
unfoldable pub read_request : List ℕ → Request
read_request s = first
    ((ltb 4096 (length s) ⇒ fault 15)
    ∷ (not (all is_printable s) ⇒ fault 1)
    ∷ []) (asked s (word_at s))
