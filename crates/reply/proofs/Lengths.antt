-- How long replies are: each has room in 128 bytes.
use Prim.Native.Nat.{ℕ, ◌+◌, ◌≤◌}
use mathlib.Core.Path.{◌≡◌, refl}
use mathlib.Core.List.{List, ◌++◌}
use native.Mathlib.Omega.{arith}
use lib.ListN.{length, length-append}
use Rattle.laws.specs.Bytes.{bytes}
use Rattle.words.specs.Decimal.{decimal}
use Rattle.text.proofs.Decimals.{decimal_most}
use Rattle.request.specs.declared.Place.{Place}
use Rattle.request.specs.declared.Fixed.TheVariants.{Devices}
use Rattle.request.specs.Mode.{mode_word}
use Rattle.request.specs.declared.mode.Mode.{Mode as ModeKind}
use Rattle.request.specs.declared.mode.Mode.TheVariants.{Ir, Sensor, IrBlaster, LedLighting}
use Rattle.reply.specs.declared.Reply.{Reply}
use Rattle.reply.specs.declared.Reply.TheVariants.{Fixed, Error, Mode, State, Complete, Busy, Stopped, Lamp}
use Rattle.reply.specs.Reply.{address_text, reply_text}
use Rattle.reply.proofs.Fixed.{fixed_proper}

pub devices_66 : length (reply_text (Fixed Devices)) ≡ 66
unfolding reply_text
devices_66 = refl

-- a word and an address
address_fits : (w : List ℕ) (place : Place) → length (address_text w place) ≤ length w + 41
address_fits w place = simp length-append (omega (arith, decimal_most place.m, decimal_most place.port))

-- a comma, a number and the CR
last_fits : (n : ℕ) → length (bytes "," ++ decimal n ++ bytes "\r") ≤ 22
last_fits n = simp length-append (omega (arith, decimal_most n))

-- two numbers, each behind a comma, and the CR
two_fit : (n last : ℕ) → length (bytes "," ++ (decimal n ++ bytes "," ++ decimal last) ++ bytes "\r") ≤ 43
two_fit n last = simp length-append (omega (arith, decimal_most n, decimal_most last))

-- a comma, a mode and the CR
mode_fits : (mode : ModeKind) → length (bytes "," ++ mode_word mode ++ bytes "\r") ≤ 14
mode_fits Ir = omega arith
mode_fits Sensor = omega arith
mode_fits IrBlaster = omega arith
mode_fits LedLighting = omega arith

-- any reply
pub reply_fits : (r : Reply) → length (reply_text r) ≤ 128
unfolding reply_text
reply_fits (Fixed fixed) = omega (arith, (fixed_proper fixed).fits)
reply_fits (Error number place) = rw length-append (omega (arith, address_fits (bytes "ERR_") place))
reply_fits (Mode place mode) = rw length-append (omega (arith, address_fits (bytes "IR,") place, mode_fits mode))
reply_fits (State place state) = rw length-append (omega (arith, address_fits (bytes "state,") place, last_fits state))
reply_fits (Complete place id) = rw length-append (omega (arith, address_fits (bytes "completeir,") place, last_fits id))
reply_fits (Busy place id) = rw length-append (omega (arith, address_fits (bytes "busyIR,") place, last_fits id))
reply_fits (Stopped place) = rw length-append (omega (arith, address_fits (bytes "stopir,") place))
reply_fits (Lamp place level target) =
    rw length-append (omega (arith, address_fits (bytes "LED_LIGHTING,") place, two_fit level target))
