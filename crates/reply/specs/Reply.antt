-- The bytes of each reply. Document 01's table, and: "An error line is `ERR_m:p,nnn`." "A reply ends with CR; its address and id have no
-- leading zeros."
use Rattle.std.specs.Prelude.{ℕ, ◌≡◌, List, [], ◌∷◌, ◌++◌}
use Rattle.laws.specs.Bytes.{bytes}
use Rattle.words.specs.Decimal.{decimal, three_digits}
use Rattle.request.specs.declared.Place.{Place}
use Rattle.request.specs.declared.Fixed.{Fixed as FixedKind}
use Rattle.request.specs.declared.Fixed.TheVariants.{Devices, Version}
use Rattle.request.specs.Mode.{mode_word}
use Rattle.reply.specs.declared.Reply.{Reply}
use Rattle.reply.specs.declared.Reply.TheVariants.{Fixed, Error, Mode, State, Complete, Busy, Stopped, Lamp}

-- a word and m:p behind it
abbrev pub address_text : List ℕ → Place → List ℕ
address_text word place = word ++ decimal place.m ++ bytes ":" ++ decimal place.port

-- the reply of each request without an address
abbrev pub fixed_text : FixedKind → List ℕ
fixed_text Devices = bytes "device,0,0 ETHERNET\rdevice,1,3 IR\rdevice,2,3 RELAY\rendlistdevices\r"
fixed_text Version = bytes "LH-01\r"

unfoldable pub reply_text : Reply → List ℕ
reply_text (Fixed fixed) = fixed_text fixed
reply_text (Error number place) = address_text (bytes "ERR_") place ++ (bytes "," ++ three_digits number ++ bytes "\r")
reply_text (Mode place mode) = address_text (bytes "IR,") place ++ (bytes "," ++ mode_word mode ++ bytes "\r")
reply_text (State place state) = address_text (bytes "state,") place ++ (bytes "," ++ decimal state ++ bytes "\r")
reply_text (Complete place id) = address_text (bytes "completeir,") place ++ (bytes "," ++ decimal id ++ bytes "\r")
reply_text (Busy place id) = address_text (bytes "busyIR,") place ++ (bytes "," ++ decimal id ++ bytes "\r")
reply_text (Stopped place) = address_text (bytes "stopir,") place ++ bytes "\r"
reply_text (Lamp place level target) =
    address_text (bytes "LED_LIGHTING,") place ++ (bytes "," ++ (decimal level ++ bytes "," ++ decimal target) ++ bytes "\r")

-- some text and a CR behind it
pub record EndsWithCr (text : List ℕ) : Type 0 where
  pub front : List ℕ
  pub is : text ≡ front ++ (13 ∷ [])
