-- A first reading of a line, as of a reply that was well written: every module and port has one digit, so that all stands at its place. It
-- need not be believed: what it gives is written out and compared with the line.
use Rattle.std.specs.Prelude.{ℕ, ◌+◌, ◌-◌, ◌%◌, cond, ◌&&◌, Option, Some, None, List, [], ◌∷◌, eqb, length, take, get_or}
use Rattle.laws.specs.Checks.{◌⇒◌, first}
use Rattle.laws.specs.Lists.{same}
use Rattle.text.specs.Number.{number_at}
use Rattle.text.specs.Field.{after_comma}
use Rattle.text.specs.declared.number.Number.{Number}
use Rattle.text.specs.declared.number.Number.TheVariants as number
use Rattle.request.specs.declared.Place.{Place}
use Rattle.request.specs.declared.mode.Mode.{Mode as AMode}
use Rattle.request.specs.Place.{place_of}
use Rattle.request.specs.Mode.{mode_at}
use Rattle.logger.specs.declared.Device.{Device}
use Rattle.logger.specs.declared.Device.TheVariants.{Ethernet, Infrared, Relays, End}
use Rattle.logger.specs.declared.Heard.{Heard}
use Rattle.logger.specs.declared.Heard.TheVariants.{NotReply, State, Complete, Busy, Stop, Mode, Error, Version, Listed, Lamp}
use Rattle.logger.specs.Heard.{line_of, writable}

-- a digit is the lower half of its byte
abbrev pub digit_at : List ℕ → ℕ → ℕ
digit_at s at = get_or s at 0 % 16

abbrev pub place_at : List ℕ → ℕ → Place
place_at s at = place_of (digit_at s at) (digit_at s (at + 2))

abbrev pub value_of : Number → ℕ
value_of number.Missing = 0
value_of (number.TooLong end) = 0
value_of (number.Value v end) = v

unfoldable pub value_at : List ℕ → ℕ → ℕ
value_at s at = value_of (number_at s at)

abbrev pub mode_read : Place → Option (AMode × ℕ) → Heard
mode_read a None = NotReply
mode_read a (Some (m, end)) = Mode a m

unfoldable pub mode_guess : List ℕ → Heard
mode_guess s = mode_read (place_at s 3) (mode_at s 7)

-- 48 and 49 are 0 and 1
unfoldable pub device_guess : List ℕ → Device
device_guess s = first
    ((eqb (get_or s 7 0) 48 ⇒ Ethernet)
    ∷ (eqb (get_or s 7 0) 49 ⇒ Infrared)
    ∷ []) Relays

-- 97 is a
unfoldable pub state_or_stop : List ℕ → Heard
state_or_stop s = cond (eqb (get_or s 2 0) 97) (State (place_at s 6) (value_at s 10)) (Stop (place_at s 7))

-- the level and, behind its comma, the target
abbrev pub level_read : List ℕ → Place → Number → Heard
level_read s a number.Missing = NotReply
level_read s a (number.TooLong end) = NotReply
level_read s a (number.Value level end) = Lamp a level (value_at s (after_comma s end))

-- 69 is E
unfoldable pub lamp_or_version : List ℕ → Heard
lamp_or_version s = cond (eqb (get_or s 1 0) 69) (level_read s (place_at s 13) (number_at s 17)) Version

-- by the first byte: 115, 69, 99, 98, 73, 100 and 101 are s, E, c, b, I, d and e
unfoldable pub guessed : List ℕ → Heard
guessed s = first
    ((eqb (get_or s 0 0) 115 ⇒ state_or_stop s)
    ∷ (eqb (get_or s 0 0) 69 ⇒ Error (value_at s 8) (place_at s 4))
    ∷ (eqb (get_or s 0 0) 99 ⇒ Complete (place_at s 11) (value_at s 15))
    ∷ (eqb (get_or s 0 0) 98 ⇒ Busy (place_at s 7) (value_at s 11))
    ∷ (eqb (get_or s 0 0) 73 ⇒ mode_guess s)
    ∷ (eqb (get_or s 0 0) 100 ⇒ Listed (device_guess s))
    ∷ (eqb (get_or s 0 0) 101 ⇒ Listed End)
    ∷ []) (lamp_or_version s)

-- what is read: the guess, if a hub can write it and this is its line
unfoldable pub read_reply : List ℕ → Heard
read_reply s = cond (writable (guessed s) && same (line_of (guessed s)) s) (guessed s) NotReply

-- a text without its last byte
abbrev pub without_cr : List ℕ → List ℕ
without_cr text = take (length text - 1) text
