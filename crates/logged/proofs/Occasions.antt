-- An occasion for each reply that a hub can write: a history in which its line is all that is written to a connection.
use Prim.Native.Nat.{ℕ, zero, suc, ◌≤◌}
use Prim.Native.String.{String}
use mathlib.Core.Path.{◌≡◌, refl, sym, ap, ◌∙◌, subst}
use mathlib.Core.Bool.{Bool, true, false, cond, not, ◌&&◌, ◌||◌}
use mathlib.Core.List.{List, [], ◌∷◌, ◌++◌, flatten}
use native.Mathlib.Omega.{arith}
use borrow.Author.Tests.{eqb-true, eqb-false, leb-true, ltb-false}
use lib.Dec.{eqb, ltb, leb}
use Rattle.laws.specs.Bytes.{bytes}
use Rattle.laws.specs.Checks.{◌⇒◌, first, between, one_of}
use Rattle.laws.specs.Lists.{all, same, times}
use Rattle.laws.proofs.Choice.{by_test, not_both, and_left, and_right}
use Rattle.laws.proofs.Checks.{one_of_all}
use Rattle.laws.proofs.Lists.{same_is}
use Rattle.words.specs.Decimal.{decimal}
use Rattle.words.specs.Pairs.{same_pair}
use Rattle.words.specs.Places.{connectors, ports}
use Rattle.request.specs.declared.Place.{Place}
use Rattle.request.specs.declared.mode.Mode as mode
use Rattle.request.specs.declared.mode.Mode.TheVariants.{Ir, Sensor, IrBlaster, LedLighting}
use Rattle.request.specs.Place.{place_of, nowhere}
use Rattle.request.specs.Mode.{mode_word, may_have}
use Rattle.meaning.specs.Line.{is_number, within, is_address, is_count, code_in}
use Rattle.meaning.specs.Time.{total, done, complete, started}
use Rattle.meaning.specs.Log.{on_air}
use Rattle.meaning.specs.Table.{Call, line, overlong, reading, said, set_ir, get_ir, setstate, getstate, sendir, stopir, request}
use Rattle.theorems.specs.Occasion.{unaddressed, addressed}
use Rattle.lines.specs.Cut.{divided}
use Rattle.logger.specs.declared.Device.{Device}
use Rattle.logger.specs.declared.Device.TheVariants.{Ethernet, Infrared, Relays, End}
use Rattle.logger.specs.declared.Heard.{Heard}
use Rattle.logger.specs.declared.Heard.TheVariants.{NotReply, State, Complete, Busy, Stop, Mode, Error, Version, Listed, Lamp}
use Rattle.logger.specs.Heard.{device_line, line_of, is_nowhere, is_connector, is_relay, is_level, writable}
use Rattle.logged.specs.Written.{written_to, Writes}
use Rattle.logged.proofs.Texts.{alone_written}
use Rattle.logged.proofs.Levels.{lamp_written, dark_written}
use Rattle.logged.proofs.Ids.{each_port, busy_written, complete_written}

-- ---- occasions of all replies but those with an id and the devices

-- connection 1 asks with a port; connection 0 has a connector in SENSOR, or has it transmit
abbrev asks : String → ℕ → String → Call
asks front p rest = line 1 128 (bytes front ++ decimal p ++ bytes rest)

abbrev sensor : ℕ → Call
sensor p = line 0 128 (bytes "set_IR,1:" ++ decimal p ++ bytes ",SENSOR")

abbrev transmits : ℕ → Call
transmits p = line 0 128 (bytes "sendir,1:" ++ decimal p ++ bytes ",0,40000,1,1,4,4")

abbrev error_calls : ℕ → ℕ → List Call
error_calls n p = first
    ((eqb n 15 ⇒ overlong 1 128 ∷ [])
    ∷ (eqb n 1 ⇒ line 1 128 [] ∷ [])
    ∷ (eqb n 17 ⇒ line 1 128 (bytes "getversion,") ∷ [])
    ∷ (eqb n 2 ⇒ asks "get_IR,2:" p "" ∷ [])
    ∷ (eqb n 3 ⇒ asks "get_IR,1:" p "" ∷ [])
    ∷ (eqb n 13 ⇒ sensor p ∷ asks "stopir,1:" p "" ∷ [])
    ∷ (eqb n 14 ⇒ asks "set_IR,1:" p ",IR_BLASTER" ∷ [])
    ∷ (eqb n 18 ⇒ asks "getstate,1:" p "" ∷ [])
    ∷ (eqb n 23 ⇒ asks "set_IR,1:" p "," ∷ [])
    ∷ (eqb n 28 ⇒ sensor p ∷ asks "getstate,1:" p "" ∷ [])
    ∷ (eqb n 29 ⇒ transmits p ∷ asks "set_IR,1:" p ",IR" ∷ [])
    ∷ (eqb n 4 ⇒ asks "sendir,1:" p "," ∷ [])
    ∷ (eqb n 5 ⇒ asks "sendir,1:" p ",0," ∷ [])
    ∷ (eqb n 6 ⇒ asks "sendir,1:" p ",0,40000," ∷ [])
    ∷ (eqb n 7 ⇒ asks "sendir,1:" p ",0,40000,1,2" ∷ [])
    ∷ (eqb n 9 ⇒ asks "sendir,1:" p ",0,40000,1,1," ∷ [])
    ∷ (eqb n 10 ⇒ asks "sendir,1:" p ",0,40000,1,1,4" ∷ [])
    ∷ (eqb n 20 ⇒ line 1 128 (bytes "sendir,1:" ++ decimal p ++ bytes ",0,40000,1,1,4,4" ++ times 260 (bytes "A")) ∷ [])
    ∷ (eqb n 21 ⇒ asks "sendir,1:" p ",0,40000,1,1,4A" ∷ [])
    ∷ (eqb n 22 ⇒ asks "sendir,1:" p ",0,40000,1,1,A" ∷ [])
    ∷ []) []

abbrev occasion : Heard → List Call
occasion NotReply = []
occasion (State a state) = cond (eqb a.m 2)
    (line 1 128 (bytes "setstate,2:" ++ decimal a.port ++ bytes "," ++ decimal state) ∷ [])
    (sensor a.port ∷ reading a.port state ∷ asks "getstate,1:" a.port "" ∷ [])
occasion (Complete a id) = []
occasion (Busy a id) = []
occasion (Stop a) = asks "stopir,1:" a.port "" ∷ []
occasion (Mode a m) = line 1 128 (bytes "set_IR,1:" ++ decimal a.port ++ bytes "," ++ mode_word m) ∷ []
occasion (Error n a) = cond (eqb a.m 2) (asks "setstate,2:" a.port "" ∷ []) (error_calls n a.port)
occasion Version = line 1 128 (bytes "getversion") ∷ []
occasion (Listed d) = []
occasion (Lamp a level target) = []

-- the only one is this
abbrev is_only : List ℕ → List (List ℕ) → Bool
is_only s [] = false
is_only s (x ∷ []) = same s x
is_only s (x ∷ y ∷ l) = false

only_is : (s : List ℕ) (l : List (List ℕ)) → is_only s l ≡ true → l ≡ s ∷ []
only_is s [] e = not_both e refl
only_is s (x ∷ []) e = ap (λ (w : List ℕ). w ∷ []) (sym (same_is s x e))
only_is s (x ∷ y ∷ l) e = not_both e refl

-- where a reply is writable, its line is written to connection 1 on its occasion, and no other
unfoldable shown : Heard → Bool
shown r = not (writable r) || is_only (line_of r ++ (13 ∷ [])) (written_to 1 (occasion r) (said [] (occasion r)))

shown_written : (r : Heard) → writable r ≡ true → shown r ≡ true → Writes (said []) (line_of r)
unfolding shown
shown_written r may e = alone_written (occasion r) 1 r (only_is _ _ (rw may at e))

record Tables : Type 0 where
  errors : all (λ p. all (λ n. shown (Error n (place_of 1 p))) addressed) ports ≡ true
  unaddressed_errors : all (λ n. shown (Error n nowhere)) unaddressed ≡ true
  relay_errors : all (λ p. shown (Error 23 (place_of 2 p))) ports ≡ true
  contacts : all (λ p. shown (State (place_of 1 p) 0) && shown (State (place_of 1 p) 1)) ports ≡ true
  relays : all (λ p. shown (State (place_of 2 p) 0) && shown (State (place_of 2 p) 1)) ports ≡ true
  modes : (m : mode.Mode) → all (λ p. shown (Mode (place_of 1 p) m)) ports ≡ true
  stops : all (λ p. shown (Stop (place_of 1 p))) ports ≡ true
  version : shown Version ≡ true

tables : Tables
unfolding shown line_of writable decimal same_pair is_number within is_address is_count code_in total done complete started on_air set_ir get_ir setstate getstate sendir stopir request
tables =
    record {
      errors = refl;
      unaddressed_errors = refl;
      relay_errors = refl;
      contacts = refl;
      relays = refl;
      modes = λ m. elim m as (λ k. all (λ p. shown (Mode (place_of 1 p) k)) ports ≡ true) [ Ir ↦ refl | Sensor ↦ refl | IrBlaster ↦ refl | LedLighting ↦ refl ];
      stops = refl;
      version = refl;
    }

-- ---- so each reply that is writable is written

each_place : (m : ℕ) (test : Place → Bool) → all (λ p. test (place_of m p)) ports ≡ true → (a : Place)
    → eqb a.m m && between 1 connectors a.port ≡ true → test a ≡ true
each_place m test e a is =
    ap (λ (k : ℕ). test (place_of k a.port)) (eqb-true a.m m (and_left (eqb a.m m) _ is))
    ∙ one_of_all (λ p. test (place_of m p)) ports a.port e
    (each_port (λ p. one_of ports p ≡ true) refl refl refl a.port (and_right (eqb a.m m) _ is))

zero_or_one : (test : ℕ → Bool) → test 0 && test 1 ≡ true → (s : ℕ) → leb s 1 ≡ true → test s ≡ true
zero_or_one test e zero small = and_left (test 0) (test 1) e
zero_or_one test e (suc zero) small = and_right (test 0) (test 1) e
zero_or_one test e (suc (suc s)) small = absurd (omega (arith, leb-true (suc (suc s)) 1 small))

state_shown : (a : Place) (s : ℕ) → writable (State a s) ≡ true → shown (State a s) ≡ true
unfolding writable
state_shown a s e =
    let small = and_left (leb s 1) (is_relay a || is_connector a) e in
    let there = and_right (leb s 1) (is_relay a || is_connector a) e in
    zero_or_one (λ v. shown (State a v))
    (by_test (is_relay a)
    (λ t. each_place 2 (λ b. shown (State b 0) && shown (State b 1)) tables.relays a t)
    (λ t. each_place 1 (λ b. shown (State b 0) && shown (State b 1)) tables.contacts a (rw t at there)))
    s small

error_shown : (n : ℕ) (a : Place) → writable (Error n a) ≡ true → shown (Error n a) ≡ true
unfolding writable
error_shown n a e =
    by_test (is_nowhere a)
    (λ t.
    let m = eqb-true a.m 0 (and_left (eqb a.m 0) _ t) in
    let port = eqb-true a.port 0 (and_right (eqb a.m 0) _ t) in
    let is : a ≡ nowhere = λ i. record { m = m i; port = port i } in
    ap (λ (b : Place). shown (Error n b)) is ∙ one_of_all (λ k. shown (Error k nowhere)) unaddressed n tables.unaddressed_errors (rw t at e))
    λ t.
    by_test (is_relay a)
    (λ u.
    let f : eqb n 23 ≡ true = rw (t, u) at e in
    rw (eqb-true n 23 f) (each_place 2 (λ b. shown (Error 23 b)) tables.relay_errors a u))
    λ u.
    by_test (is_connector a)
    (λ v.
    let f : cond (eqb n 14) (not (eqb a.port 3)) (one_of addressed n) ≡ true = rw (t, u, v) at e in
    one_of_all (λ k. shown (Error k a)) addressed n (each_place 1 (λ b. all (λ k. shown (Error k b)) addressed) tables.errors a v)
    (by_test (eqb n 14) (λ w. rw (eqb-true n 14 w)) (λ w. rw w (rw w at f))))
    (λ v. not_both (rw (t, u, v) at e) refl)

-- the devices are written all four, one behind the other
devices_written : (before after : List (List ℕ)) (d : Device)
    → before ++ (device_line d ∷ after) ≡ device_line Ethernet ∷ device_line Infrared ∷ device_line Relays ∷ device_line End ∷ []
    → Writes (said []) (line_of (Listed d))
unfolding line_of flatten request
devices_written before after d e =
    let call = line 1 128 (bytes "getdevices") in
    let told : (divided [] (flatten (written_to 1 (call ∷ []) (said [] (call ∷ []))))).parts
    ≡ device_line Ethernet ∷ device_line Infrared ∷ device_line Relays ∷ device_line End ∷ [] = refl in
    record { calls = call ∷ []; connection = 1; before = before; after = after; among = told ∙ sym e }

device_written : (d : Device) → Writes (said []) (line_of (Listed d))
device_written Ethernet = devices_written [] (device_line Infrared ∷ device_line Relays ∷ device_line End ∷ []) Ethernet refl
device_written Infrared = devices_written (device_line Ethernet ∷ []) (device_line Relays ∷ device_line End ∷ []) Infrared refl
device_written Relays = devices_written (device_line Ethernet ∷ device_line Infrared ∷ []) (device_line End ∷ []) Relays refl
device_written End = devices_written (device_line Ethernet ∷ device_line Infrared ∷ device_line Relays ∷ []) [] End refl

-- a reply with an id names a connector
id_written : (f : Place → Heard) (a : Place) (id : ℕ) → leb id 65535 && is_connector a ≡ true
    → ((p : ℕ) → between 1 connectors p ≡ true → id ≤ 65535 → Writes (said []) (line_of (f (place_of 1 p)))) → Writes (said []) (line_of (f a))
id_written f a id e written =
    let there = and_right (leb id 65535) (is_connector a) e in
    let w = written a.port (and_right (eqb a.m 1) _ there) (leb-true id 65535 (and_left (leb id 65535) (is_connector a) e)) in
    subst (λ (m : ℕ). Writes (said []) (line_of (f (place_of m a.port)))) (sym (eqb-true a.m 1 (and_left (eqb a.m 1) _ there))) w

-- a lamp's level and target
lamp_there : (a : Place) (level target : ℕ) → is_connector a && is_level level target ≡ true → Writes (said []) (line_of (Lamp a level target))
lamp_there a level target e =
    let there = and_left (is_connector a) (is_level level target) e in
    let port = and_right (eqb a.m 1) _ there in
    subst (λ (m : ℕ). Writes (said []) (line_of (Lamp (place_of m a.port) level target))) (sym (eqb-true a.m 1 (and_left (eqb a.m 1) _ there)))
    (by_level (and_right (is_connector a) (is_level level target) e) port)
  where
    at_least_1 : (n : ℕ) → (n ≡ 0 → ⊥) → 1 ≤ n
    at_least_1 zero e = absurd (e refl)
    at_least_1 (suc n) e = omega arith

    by_level : is_level level target ≡ true → between 1 connectors a.port ≡ true → Writes (said []) (line_of (Lamp (place_of 1 a.port) level target))
    by_level is port =
        by_test (eqb target 0)
        (λ t.
        let none : level ≡ 0 = eqb-true level 0 (rw t at is) in
        rw (eqb-true target 0 t, none) (dark_written a.port port))
        λ t.
        by_test (ltb 100 target)
        (λ u. not_both (rw (t, u) at is) refl)
        (λ u.
        lamp_written a.port port level (leb-true level 100 (rw (t, u) at is)) target (at_least_1 target (eqb-false target 0 t)) (ltb-false 100 target u))

pub writable_written : (r : Heard) → writable r ≡ true → Writes (said []) (line_of r)
unfolding writable
writable_written NotReply e = not_both e refl
writable_written (State a s) e = shown_written (State a s) e (state_shown a s e)
writable_written (Complete a id) e = id_written (λ b. Complete b id) a id e (λ p port small. complete_written p port id small)
writable_written (Busy a id) e = id_written (λ b. Busy b id) a id e (λ p port small. busy_written p port id small)
writable_written (Stop a) e = shown_written (Stop a) e (each_place 1 (λ b. shown (Stop b)) tables.stops a e)
writable_written (Mode a m) e =
    shown_written (Mode a m) e (each_place 1 (λ b. shown (Mode b m)) (tables.modes m) a (and_left (is_connector a) (may_have a.port m) e))
writable_written (Error n a) e = shown_written (Error n a) e (error_shown n a e)
writable_written Version e = shown_written Version e tables.version
writable_written (Listed d) e = device_written d
writable_written (Lamp a level target) e = lamp_there a level target e
