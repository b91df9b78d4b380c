-- The table counted, worked lines, and that only a state line tells a state.
use Prim.Native.Nat.{ℕ, ◌+◌}
use mathlib.Core.Path.{◌≡◌, refl}
use mathlib.Core.List.{List, map}
use lib.ListN.{take}
use Rattle.laws.specs.Bytes.{bytes}
use Rattle.words.specs.Decimal.{decimal}
use Rattle.text.specs.Number.{number_of, number_at}
use Rattle.text.specs.Field.{after_comma}
use Rattle.request.specs.declared.Place.{Place}
use Rattle.request.specs.declared.mode.Mode.TheVariants.{Ir, Sensor, IrBlaster, LedLighting}
use Rattle.request.specs.Place.{place_of}
use Rattle.request.specs.Mode.{mode_at}
use Rattle.logger.specs.declared.Heard.TheVariants.{State, Mode, Error, Lamp}
use Rattle.logger.specs.Heard.{line_of, writable, Hears, heard}
use Rattle.hearing.specs.Counts.{sum, places, one, rows}
use Rattle.hearing.specs.Guess.{value_at, mode_guess, device_guess, state_or_stop, lamp_or_version, guessed, read_reply}

pub errors_52 : places (λ a. sum 40 (λ n. one (Error n a))) ≡ 52
unfolding writable
errors_52 = refl

pub modes_10 : places (λ a. one (Mode a Ir) + one (Mode a Sensor) + one (Mode a IrBlaster) + one (Mode a LedLighting)) ≡ 10
unfolding writable
modes_10 = refl

pub states_12 : places (λ a. sum 5 (λ state. one (State a state))) ≡ 12
unfolding writable
states_12 = refl

-- of each connector 100 targets with 101 levels, and 0 with 0
pub lamps_3 : places (λ a. one (Lamp a 100 1)) ≡ 3
unfolding writable
lamps_3 = refl

pub lamps_10101 : sum 102 (λ level. sum 102 (λ target. one (Lamp (place_of 1 1) level target))) ≡ 10101
unfolding writable
lamps_10101 = refl

pub worked : map (λ row. read_reply row.line) rows ≡ map (λ row. row.is) rows
unfolding read_reply guessed state_or_stop mode_guess device_guess lamp_or_version value_at number_at number_of after_comma mode_at writable line_of decimal
worked = refl

-- only a state line tells a state
pub only_state_tells : {s : List ℕ} {a : Place} {v : ℕ} → Hears s (State a v) → take 6 s ≡ bytes "state,"
unfolding line_of
only_state_tells (heard i) = rw (← i.is)
