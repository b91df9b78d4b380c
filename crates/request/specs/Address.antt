-- Document 01: 017 "address missing or not digits, colon, digits", 002 "module not the one in the table for this request
-- (getstate takes 1 or 2)", 003 "port not 1 to 3". The address is the whole field.
use Rattle.std.specs.Prelude.{ℕ, ◌+◌, List, [], ◌∷◌, Bool, false, cond, not, ◌||◌, Option, Some, None, Result, Ok, Err, length, get_or, ltb, leb, eqb}
use Rattle.laws.specs.Checks.{◌⇒◌, first}
use Rattle.words.specs.Digits.{is_digit}
use Rattle.words.specs.Places.{ports_of}
use Rattle.text.specs.Number.{number_at}
use Rattle.text.specs.Field.{ends_field}
use Rattle.text.specs.declared.number.Number.{Number}
use Rattle.text.specs.declared.number.Number.TheVariants as number
use Rattle.request.specs.declared.Place.{Place}
use Rattle.request.specs.declared.name.Name.{Name}
use Rattle.request.specs.declared.name.Name.TheVariants.{SetIr, GetIr, SetState, GetState, SendIr, StopIr, SetLamp, GetLamp}
use Rattle.request.specs.Place.{place_of}

-- a module or port of over six digits is still digits, so never 017: it counts as one number above every module and port,
-- and the address is 002 or 003
abbrev pub beyond : ℕ
beyond = 1000000

abbrev pub part_of : Number → Option (ℕ × ℕ)
part_of number.Missing = None
part_of (number.TooLong end) = Some (beyond, end)
part_of (number.Value n end) = Some (n, end)

-- the number that a module or a port counts as, and the place behind it
unfoldable pub part_at : List ℕ → ℕ → Option (ℕ × ℕ)
part_at s at = part_of (number_at s at)

-- behind the colon
abbrev pub port_read : List ℕ → ℕ → Option (ℕ × ℕ) → Option (Place × ℕ)
port_read s m None = None
port_read s m (Some (port, end)) = cond (ends_field s end) (Some (place_of m port, end)) None

unfoldable pub port_at : List ℕ → ℕ → ℕ → Option (Place × ℕ)
port_at s m at = port_read s m (part_at s at)

-- 58 is the colon
abbrev pub module_read : List ℕ → Option (ℕ × ℕ) → Option (Place × ℕ)
module_read s None = None
module_read s (Some (m, end)) = first
    ((leb (length s) end ⇒ None)
    ∷ (not (eqb (get_or s end 0) 58) ⇒ None)
    ∷ []) (port_at s m (end + 1))

-- a place and where the address ends
unfoldable pub address_at : List ℕ → ℕ → Option (Place × ℕ)
address_at s at = module_read s (part_at s at)

-- a digit, a colon and a digit, which are the whole field
unfoldable pub is_short : List ℕ → ℕ → Bool
is_short s at = first
    ((ltb (length s) (at + 3) ⇒ false)
    ∷ (not (is_digit (get_or s at 0)) ⇒ false)
    ∷ (not (eqb (get_or s (at + 1) 0) 58) ⇒ false)
    ∷ (not (is_digit (get_or s (at + 2) 0)) ⇒ false)
    ∷ []) (ends_field s (at + 3))

abbrev pub has_module : Name → ℕ → Bool
has_module SetIr m = eqb m 1
has_module GetIr m = eqb m 1
has_module SetState m = eqb m 2
has_module GetState m = eqb m 1 || eqb m 2
has_module SendIr m = eqb m 1
has_module StopIr m = eqb m 1
has_module SetLamp m = eqb m 1
has_module GetLamp m = eqb m 1

-- no fault where the address is one that the request takes
unfoldable pub address_fault : Name → Place → Result Unit ℕ
address_fault name place = first
    ((not (has_module name place.m) ⇒ Err 2)
    ∷ (ltb place.port 1 ⇒ Err 3)
    ∷ (ltb (ports_of place.m) place.port ⇒ Err 3)
    ∷ []) (Ok tt)
