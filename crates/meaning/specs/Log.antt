-- The log book: what each call did, the latest first. Nothing else is kept, and all that a call asks is looked up here.
use Rattle.std.specs.Prelude.{ℕ, ◌+◌, Bool, cond, List, [], ◌∷◌, eqb}
use Rattle.std.proofs.Math.Option.{Option, none, some, map}
use Rattle.laws.specs.Bytes.{bytes}
use Rattle.laws.specs.Checks.{holds}
use Rattle.words.specs.declared.Pair.{Pair}
use Rattle.words.specs.declared.Fields.{Fields}
use Rattle.meaning.specs.Time.{Transmission, complete}
use Rattle.meaning.specs.Time as time
use Rattle.meaning.specs.Lamp.{Lamp, dark, turned}

-- connector p got another mode; its contact was read; its lamp got a target, and a ramp to it
pub data Setting : Type 0 where
  changed : List ℕ → Setting
  felt : ℕ → Setting
  lit : ℕ → ℕ → Setting

-- a transmission was started on connector p by a connection; that on connector p was renewed, or halted; a connection left
pub data Event : Type 0 where
  started : ℕ → ℕ → Fields → List Pair → Event
  renewed : ℕ → Event
  halted : ℕ → Event
  left : ℕ → Event

-- so many microseconds passed; a setting of connector p; relay p was switched to a state; an event
pub data Deed : Type 0 where
  passed : ℕ → Deed
  setting : ℕ → Setting → Deed
  switched : ℕ → ℕ → Deed
  event : Event → Deed

-- the present moment
abbrev pub now : List Deed → ℕ
now [] = 0
now (passed n ∷ log) = now log + n
now (setting q x ∷ log) = now log
now (switched q state ∷ log) = now log
now (event x ∷ log) = now log

-- "A fresh hub has every connector in mode IR", then in the last that it got
abbrev pub mode_of : ℕ → List Deed → List ℕ
mode_of p [] = bytes "IR"
mode_of p (passed n ∷ log) = mode_of p log
mode_of p (setting q (changed mode) ∷ log) = cond (eqb q p) mode (mode_of p log)
mode_of p (setting q (felt value) ∷ log) = mode_of p log
mode_of p (setting q (lit target ramp) ∷ log) = mode_of p log
mode_of p (switched q state ∷ log) = mode_of p log
mode_of p (event x ∷ log) = mode_of p log

-- "every contact unread", then its last reading; "a change of mode makes the contact unread"
abbrev pub contact_of : ℕ → List Deed → Option ℕ
contact_of p [] = none
contact_of p (passed n ∷ log) = contact_of p log
contact_of p (setting q (changed mode) ∷ log) = cond (eqb q p) none (contact_of p log)
contact_of p (setting q (felt value) ∷ log) = cond (eqb q p) (some value) (contact_of p log)
contact_of p (setting q (lit target ramp) ∷ log) = contact_of p log
contact_of p (switched q state ∷ log) = contact_of p log
contact_of p (event x ∷ log) = contact_of p log

-- its lamp, by its last target and the moment of it; "A connector entering this mode is at 0 with target 0", and one that leaves it has no lamp
abbrev pub lamp_of : ℕ → List Deed → Lamp
lamp_of p [] = dark
lamp_of p (passed n ∷ log) = lamp_of p log
lamp_of p (setting q (changed mode) ∷ log) = cond (eqb q p) dark (lamp_of p log)
lamp_of p (setting q (felt value) ∷ log) = lamp_of p log
lamp_of p (setting q (lit target ramp) ∷ log) = cond (eqb q p) (turned (lamp_of p log) target ramp (now log)) (lamp_of p log)
lamp_of p (switched q state ∷ log) = lamp_of p log
lamp_of p (event x ∷ log) = lamp_of p log

-- "every relay open (0)", then as it was last switched
abbrev pub relay_of : ℕ → List Deed → ℕ
relay_of p [] = 0
relay_of p (passed n ∷ log) = relay_of p log
relay_of p (setting q x ∷ log) = relay_of p log
relay_of p (switched q state ∷ log) = cond (eqb q p) state (relay_of p log)
relay_of p (event x ∷ log) = relay_of p log

-- "every connector .. idle", then what was last started and not halted since, with its renewals
abbrev pub last_of : ℕ → List Deed → Option Transmission
last_of p [] = none
last_of p (passed n ∷ log) = last_of p log
last_of p (setting q x ∷ log) = last_of p log
last_of p (switched q state ∷ log) = last_of p log
last_of p (event (started q connection f ps) ∷ log) = cond (eqb q p) (some (time.started f ps (now log))) (last_of p log)
last_of p (event (renewed q) ∷ log) = cond (eqb q p) (map (λ s. time.renewed s (now log)) (last_of p log)) (last_of p log)
last_of p (event (halted q) ∷ log) = cond (eqb q p) none (last_of p log)
last_of p (event (left connection) ∷ log) = last_of p log

-- its owner: "the sender", until that connection left: "its transmissions run on with no owner"
abbrev pub is_owner : ℕ → Option ℕ → Bool
is_owner connection owner = holds (λ number. eqb number connection) owner

abbrev pub owner_of : ℕ → List Deed → Option ℕ
owner_of p [] = none
owner_of p (passed n ∷ log) = owner_of p log
owner_of p (setting q x ∷ log) = owner_of p log
owner_of p (switched q state ∷ log) = owner_of p log
owner_of p (event (started q connection f ps) ∷ log) = cond (eqb q p) (some connection) (owner_of p log)
owner_of p (event (renewed q) ∷ log) = owner_of p log
owner_of p (event (halted q) ∷ log) = cond (eqb q p) none (owner_of p log)
owner_of p (event (left connection) ∷ log) = cond (is_owner connection (owner_of p log)) none (owner_of p log)

-- what connector p transmits now: the last, until it is complete
abbrev pub until : ℕ → Option Transmission → Option Transmission
until t none = none
until t (some s) = cond (complete s t) none (some s)

unfoldable pub on_air : ℕ → List Deed → Option Transmission
on_air p log = until (now log) (last_of p log)
