-- The first reading of the line of a reply that a hub can write gives that reply back; so one reply has it, and the reader finds it.
use Prim.Native.Nat.{ℕ, ◌+◌, ◌/◌, ◌%◌, ◌<◌}
use mathlib.Core.Path.{◌≡◌, refl, sym, ap, ◌∙◌}
use mathlib.Core.Bool.{Bool, true, false, not, ◌&&◌, ◌||◌, cond}
use mathlib.Core.List.{List, [], ◌∷◌, ◌++◌, append-nil, append_assoc}
use native.Mathlib.Omega.{arith}
use borrow.Author.Tests.{eqb-true, ltb-true, ltb-false, leb-true, le-leb, le-ltb, not-false}
use lib.Dec.{eqb, ltb, leb}
use lib.ListN.{length, drop}
use Rattle.laws.specs.Checks.{between, one_of}
use Rattle.laws.specs.Lists.{all, same}
use Rattle.laws.proofs.Checks.{one_of_all}
use Rattle.laws.proofs.Choice.{cond_case, by_test, not_both, and_left, and_right, between_most}
use Rattle.laws.proofs.Lists.{same_is, same_self}
use Rattle.words.specs.Decimal.{decimal, three_digits}
use Rattle.words.specs.Digits.{is_digit}
use Rattle.words.specs.Places.{connectors, relays}
use Rattle.text.proofs.Decimals.{decimal_small}
use Rattle.text.specs.Number.{number_at}
use Rattle.text.proofs.Behind.{digits_read, number_behind, field_comma, field_behind}
use Rattle.theorems.specs.Occasion.{unaddressed}
use Rattle.theorems.specs.Occasion as occasion
use Rattle.theorems.proofs.Occasions.{three_worth}
use Rattle.request.specs.declared.Place.{Place}
use Rattle.request.specs.declared.mode.Mode as mode
use Rattle.request.specs.declared.mode.Mode.TheVariants.{Ir, Sensor, IrBlaster, LedLighting}
use Rattle.request.specs.Mode.{may_have, mode_at}
use Rattle.logger.specs.declared.Device as device
use Rattle.logger.specs.declared.Device.TheVariants.{Ethernet, Infrared, Relays, End}
use Rattle.logger.specs.declared.Heard.{Heard}
use Rattle.logger.specs.declared.Heard.TheVariants.{NotReply, State, Complete, Busy, Stop, Mode, Error, Version, Listed, Lamp}
use Rattle.logger.specs.Heard.{line_of, writable, is_connector, is_relay, is_nowhere, is_level, IsLine, Hears, heard, nothing}
use Rattle.hearing.specs.Guess.{value_at, mode_guess, device_guess, state_or_stop, level_read, lamp_or_version, guessed, read_reply}

-- ---- numbers at a place of a line
value_back : (s : List ℕ) (at n : ℕ) → drop at s ≡ decimal n → n < 1000000 → value_at s at ≡ n
unfolding value_at
value_back s at n e h = rw (number_behind s at n [] (e ∙ sym (append-nil (decimal n))) h refl)

digit : (n : ℕ) → is_digit (48 + n % 10) ≡ true
digit n = rw (le-ltb (48 + n % 10) 48 (omega arith), le-leb (48 + n % 10) 57 (omega arith))

three_back : (s : List ℕ) (at n : ℕ) → drop at s ≡ three_digits n → n < 1000 → value_at s at ≡ n
unfolding value_at
three_back s at n e h =
    let d : all is_digit (three_digits n) ≡ true = rw (digit (n / 100), digit (n / 10), digit n) in
    rw (digits_read s at (three_digits n) [] d (omega arith) e (omega arith) refl) (three_worth n h)

-- a line's level, and behind its comma the target
level_back : (s : List ℕ) (a : Place) (level target : ℕ) → drop 17 s ≡ decimal level ++ (44 ∷ decimal target) → level < 1000000
    → target < 1000000 → level_read s a (number_at s 17) ≡ Lamp a level target
level_back s a level target e h g =
    rw (number_behind s 17 level (44 ∷ decimal target) e h refl, field_comma s 17 level (decimal target) e)
    (ap (Lamp a level) (value_back s (17 + length (decimal level) + 1) target (field_behind s 17 level (decimal target) e) g))

-- ---- a place of one digit each
record OneDigit (n : ℕ) : Type 0 where
  written : decimal n ≡ (48 + n % 10) ∷ []
  read : (48 + n % 10) % 16 ≡ n

one_digit : (n : ℕ) → n < 10 → OneDigit n
one_digit n h = record { written = decimal_small n h; read = omega arith }

record Small (a : Place) : Type 0 where
  m : OneDigit a.m
  port : OneDigit a.port

small : (a : Place) (m most : ℕ) → m < 10 → most < 10 → eqb a.m m && between 1 most a.port ≡ true → Small a
small a m most hm hp e =
    let is = eqb-true a.m m (and_left (eqb a.m m) (between 1 most a.port) e) in
    let few = between_most 1 most a.port (and_right (eqb a.m m) (between 1 most a.port) e) in
    record { m = one_digit a.m (omega arith); port = one_digit a.port (omega arith) }

connector_small : (a : Place) → is_connector a ≡ true → Small a
connector_small a e = small a 1 connectors (omega arith) (omega arith) e

relay_small : (a : Place) → is_relay a ≡ true → Small a
relay_small a e = small a 2 relays (omega arith) (omega arith) e

nowhere_small : (a : Place) → is_nowhere a ≡ true → Small a
nowhere_small a e =
    let m = eqb-true a.m 0 (and_left (eqb a.m 0) (eqb a.port 0) e) in
    let port = eqb-true a.port 0 (and_right (eqb a.m 0) (eqb a.port 0) e) in
    record { m = one_digit a.m (omega arith); port = one_digit a.port (omega arith) }

-- ---- each line read back
module _ (a : Place) (t : Small a) where
  state_back : (v : ℕ) → v < 1000000 → guessed (line_of (State a v)) ≡ State a v
  unfolding line_of guessed state_or_stop
  state_back v h =
      rw (t.m.written, t.port.written, t.m.read, t.port.read) (ap (State a) (value_back _ 10 v refl h))

  complete_back : (v : ℕ) → v < 1000000 → guessed (line_of (Complete a v)) ≡ Complete a v
  unfolding line_of guessed
  complete_back v h =
      rw (t.m.written, t.port.written, t.m.read, t.port.read) (ap (Complete a) (value_back _ 15 v refl h))

  busy_back : (v : ℕ) → v < 1000000 → guessed (line_of (Busy a v)) ≡ Busy a v
  unfolding line_of guessed
  busy_back v h =
      rw (t.m.written, t.port.written, t.m.read, t.port.read) (ap (Busy a) (value_back _ 11 v refl h))

  stop_back : guessed (line_of (Stop a)) ≡ Stop a
  unfolding line_of guessed state_or_stop
  stop_back = rw (t.m.written, t.port.written, t.m.read, t.port.read)

  mode_back : (m : mode.Mode) → guessed (line_of (Mode a m)) ≡ Mode a m
  unfolding line_of guessed mode_guess mode_at
  mode_back Ir = rw (t.m.written, t.port.written, t.m.read, t.port.read)
  mode_back Sensor = rw (t.m.written, t.port.written, t.m.read, t.port.read)
  mode_back IrBlaster = rw (t.m.written, t.port.written, t.m.read, t.port.read)
  mode_back LedLighting = rw (t.m.written, t.port.written, t.m.read, t.port.read)

  lamp_back : (level target : ℕ) → level < 1000000 → target < 1000000 → guessed (line_of (Lamp a level target)) ≡ Lamp a level target
  unfolding line_of guessed lamp_or_version
  lamp_back level target h g =
      rw (t.m.written, t.port.written, t.m.read, t.port.read) (level_back _ a level target (append_assoc (decimal level) (44 ∷ []) (decimal target)) h g)

  error_back : (n : ℕ) → n < 1000 → guessed (line_of (Error n a)) ≡ Error n a
  unfolding line_of guessed
  error_back n h =
      rw (t.m.written, t.port.written, t.m.read, t.port.read) (ap (λ (k : ℕ). Error k a) (three_back _ 8 n refl h))

version_back : guessed (line_of Version) ≡ Version
unfolding line_of guessed lamp_or_version
version_back = refl

listed_back : (d : device.Device) → guessed (line_of (Listed d)) ≡ Listed d
unfolding line_of guessed device_guess
listed_back Ethernet = refl
listed_back Infrared = refl
listed_back Relays = refl
listed_back End = refl

-- the numbers of errors are below 1000
number_small : (l : List ℕ) (n : ℕ) → all (λ x. ltb x 1000) l ≡ true → one_of l n ≡ true → n < 1000
number_small l n small e = ltb-true n 1000 (one_of_all (λ x. ltb x 1000) l n small e)

error_read : (n : ℕ) (a : Place) → writable (Error n a) ≡ true → guessed (line_of (Error n a)) ≡ Error n a
unfolding writable
error_read n a =
    cond_case Back (is_nowhere a) _ _
    (λ nowhere e. error_back a (nowhere_small a nowhere) n (number_small unaddressed n refl e))
    (λ _. cond_case Back (is_relay a) _ _
    (λ relay e. error_back a (relay_small a relay) n (omega (arith, eqb-true n 23 e)))
    (λ _. cond_case Back (not (is_connector a)) _ _
    (λ _ e. not_both e refl)
    (λ connector. cond_case Back (eqb n 14) _ _
    (λ is _. error_back a (connector_small a (not-false (is_connector a) connector)) n (omega (arith, eqb-true n 14 is)))
    (λ _ e. error_back a (connector_small a (not-false (is_connector a) connector)) n (number_small occasion.addressed n refl e)))))
  where
    Back : Bool → Type 0
    Back may = may ≡ true → guessed (line_of (Error n a)) ≡ Error n a

-- and so are a lamp's
level_few : (level target : ℕ) → is_level level target ≡ true → (level < 1000000) × (target < 1000000)
level_few level target =
    cond_case Few (eqb target 0) _ _
    (λ none e. (omega (arith, eqb-true level 0 e), omega (arith, eqb-true target 0 none)))
    (λ _. cond_case Few (ltb 100 target) _ _ (λ _ e. not_both e refl)
    (λ most e. (omega (arith, leb-true level 100 e), omega (arith, ltb-false 100 target most))))
  where
    Few : Bool → Type 0
    Few may = may ≡ true → (level < 1000000) × (target < 1000000)

pub guessed_back : (r : Heard) → writable r ≡ true → guessed (line_of r) ≡ r
unfolding writable
guessed_back NotReply e = not_both e refl
guessed_back (State a state) e =
    let few = leb-true state 1 (and_left (leb state 1) (is_relay a || is_connector a) e) in
    let some = and_right (leb state 1) (is_relay a || is_connector a) e in
    state_back a (by_test (is_relay a) (relay_small a) (λ f. connector_small a (rw f at some))) state (omega arith)
guessed_back (Complete a id) e =
    let few = leb-true id 65535 (and_left (leb id 65535) (is_connector a) e) in
    complete_back a (connector_small a (and_right (leb id 65535) (is_connector a) e)) id (omega arith)
guessed_back (Busy a id) e =
    let few = leb-true id 65535 (and_left (leb id 65535) (is_connector a) e) in
    busy_back a (connector_small a (and_right (leb id 65535) (is_connector a) e)) id (omega arith)
guessed_back (Stop a) e = stop_back a (connector_small a e)
guessed_back (Mode a m) e = mode_back a (connector_small a (and_left (is_connector a) (may_have a.port m) e)) m
guessed_back (Error n a) e = error_read n a e
guessed_back Version e = version_back
guessed_back (Listed d) e = listed_back d
guessed_back (Lamp a level target) e =
    let few = level_few level target (and_right (is_connector a) (is_level level target) e) in
    lamp_back a (connector_small a (and_left (is_connector a) (is_level level target) e)) level target few.0 few.1

-- ---- what is heard
is_guessed : {s : List ℕ} {r : Heard} → IsLine s r → guessed s ≡ r
is_guessed {r = r} i = ap guessed (sym i.is) ∙ guessed_back r i.may

-- a line is heard as one thing only
pub one_heard : {s : List ℕ} {a b : Heard} → Hears s a → Hears s b → a ≡ b
one_heard (heard i) (heard j) = sym (is_guessed i) ∙ is_guessed j
one_heard {a = a} (heard i) (nothing none) = absurd (none a i)
one_heard {b = b} (nothing none) (heard j) = absurd (none b j)
one_heard (nothing none) (nothing none') = refl

-- the reader hears every line
pub reply_heard : (s : List ℕ) → Hears s (read_reply s)
unfolding read_reply
reply_heard s =
    by_test (writable (guessed s))
    (λ e. rw e (compared e))
    (λ e. rw e (nothing (λ r i. not_both (ap writable (is_guessed i) ∙ i.may) e)))
  where
    other : same (line_of (guessed s)) s ≡ false → (r : Heard) → IsLine s r → ⊥
    other f r i =
        not_both (ap (λ (q : Heard). same (line_of q) s) (is_guessed i) ∙ ap (λ (l : List ℕ). same l s) i.is ∙ same_self s) f

    compared : writable (guessed s) ≡ true → Hears s (cond (same (line_of (guessed s)) s) (guessed s) NotReply)
    compared e =
        by_test (same (line_of (guessed s)) s)
        (λ f. rw f (heard (record { may = e; is = same_is (line_of (guessed s)) s f })))
        (λ f. rw f (nothing (other f)))

-- a line that a hub can write is heard as its reply
pub heard_line : (r : Heard) → writable r ≡ true → Hears (line_of r) r
heard_line r may = heard (record { may = may; is = refl })
