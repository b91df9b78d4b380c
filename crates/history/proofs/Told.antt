-- What the log answers to each call is what is answered by what it shows at each port, in the same words.
use Prim.Native.Nat.{ℕ, ◌+◌}
use mathlib.Core.Path.{◌≡◌, refl, sym, ap, ◌∙◌}
use mathlib.Core.Bool.{Bool, true, false, cond, not, ◌&&◌}
use mathlib.Core.List.{List, [], ◌∷◌, ◌++◌, map, map-append}
use mathlib.Core.Option.{Option, none, some, get_or}
use native.Mathlib.Omega.{arith}
use borrow.Author.Tests.{le-ltb, lt-ltb, ltb-true, ltb-false}
use lib.Dec.{ltb}
use Rattle.laws.specs.Bytes.{bytes}
use Rattle.laws.specs.Checks.{between, holds, is_some}
use Rattle.laws.specs.Lists.{gathered}
use Rattle.laws.proofs.Choice.{by_test, between_checks}
use Rattle.words.specs.Decimal.{decimal}
use Rattle.words.specs.Places.{connectors, ports}
use Rattle.words.specs.declared.Pair.{Pair}
use Rattle.words.specs.declared.Fields.{Fields}
use Rattle.meaning.specs.Line as text
use Rattle.meaning.specs.Line.{addressed}
use Rattle.meaning.specs.Time.{Transmission, complete, carrier}
use Rattle.meaning.specs.Lamp.{Lamp, level, turned}
use Rattle.meaning.specs.Log as log
use Rattle.meaning.specs.Log.{Deed, setting, lit, now, mode_of, contact_of, lamp_of, relay_of, last_of, owner_of, is_owner, until}
use Rattle.meaning.specs.Table as table
use Rattle.meaning.specs.Table.{Answer, replied, answer_of, error, is_same, reading, judge}
use Rattle.request.specs.declared.mode.Mode.{Mode}
use Rattle.request.specs.declared.Place.{Place}
use Rattle.request.specs.declared.Fixed.{Fixed}
use Rattle.request.specs.declared.Ask.{Ask}
use Rattle.request.specs.declared.Ask.TheVariants as ask
use Rattle.request.specs.declared.Turn.{Turn}
use Rattle.request.specs.declared.Turn.TheVariants as turn
use Rattle.request.specs.declared.Request.{Request}
use Rattle.request.specs.declared.Request.TheVariants as request
use Rattle.request.specs.Accepted.{Within}
use Rattle.request.specs.Mode.{mode_word, is_sensor, is_lighting, is_silent}
use Rattle.request.specs.Place.{place_of, nowhere}
use Rattle.command.specs.Read.{CommandReading, sent, faulty, command_at}
use Rattle.reply.specs.declared.Reply.TheVariants as reply
use Rattle.reply.specs.Reply.{reply_text}
use Rattle.connector.specs.declared.Owner.{Owner}
use Rattle.connector.specs.declared.Completion as hub
use Rattle.connector.specs.declared.Answer as hubs
use Rattle.connector.specs.declared.Answer.TheVariants as answer
use Rattle.connector.specs.Change.{owns}
use Rattle.steps.specs.Step.{also_told}
use Rattle.hub.specs.Completions.{inserted, ordered}
use Rattle.theorems.specs.Deeds.{in_lighting}
use Rattle.theorems.specs.Spelled.{lamp_line}
use Rattle.reads.specs.Meant.{meant_command, meant_read, meant_fixed, meant_ask, meant_turn, meant}
use Rattle.reads.proofs.Cursor.{mode_in, sensor_is, lighting_is, silent_is}
use Rattle.history.specs.Heard.{owner_out, completion_out, answer_out}
use Rattle.shown.proofs.Known as known
use Rattle.shown.proofs.Known.{contact_said, command_said, sendir_said, told, lamp_said, ask_said, request_said}
use Rattle.history.proofs.Joining.{due, completions}
use Rattle.history.proofs.Calling.{reading_call_said}
use Rattle.shown.proofs.View.{owner_in, contact_in, view, Worded, owner_is, bit_is}

-- an owner told and heard is the same
owner_back : (o : Option ℕ) → owner_out (owner_in o) ≡ o
owner_back none = refl
owner_back (some connection) = refl

-- an answer without completions
abbrev out : hubs.Answer → Answer
out a = answer_out a []

-- ---- the text of each reply

-- an error line
error_out : (n : ℕ) (place : Place) → answer_of (error n place.m place.port) ≡ out (known.error_line n place)
unfolding reply_text
error_out n place = refl

-- busyIR
busy_out : (p id : ℕ) → replied (text.line "busyIR," 1 p (decimal id)) none ≡ out (known.reply_alone (reply.Busy (place_of 1 p) id))
unfolding reply_text
busy_out p id = refl

-- a mode
mode_out : (p : ℕ) (mode : Mode) → replied (text.line "IR," 1 p (mode_word mode)) none ≡ out (known.reply_alone (reply.Mode (place_of 1 p) mode))
unfolding reply_text
mode_out p mode = refl

-- a state
state_out : (m p state : ℕ) → replied (text.line "state," m p (decimal state)) none ≡ out (known.reply_alone (reply.State (place_of m p) state))
unfolding reply_text
state_out m p state = refl

-- a lamp
lamp_out : (p shown target : ℕ)
    → replied (text.line "LED_LIGHTING," 1 p (decimal shown ++ bytes "," ++ decimal target)) none
    ≡ out (known.reply_alone (reply.Lamp (place_of 1 p) shown target))
unfolding reply_text
lamp_out p shown target = refl

-- stopir
stopped_out : (p : ℕ) (o : Owner)
    → replied (addressed "stopir," 1 p ++ bytes "\r") (owner_out o) ≡ out (answer.Reply (reply.Stopped (place_of 1 p)) o)
unfolding reply_text
stopped_out p o = refl

-- a reply that is always the same
fixed_out : (fixed : Fixed) → answer_of (meant_fixed fixed) ≡ out (known.reply_alone (reply.Fixed fixed))
unfolding reply_text
fixed_out fixed = refl

-- ---- what is asked of a connector

module _ (l : List Deed) (connection : ℕ) (s : List ℕ) (p : ℕ) where
  -- the place of connector p
  abbrev at_port : Place
  at_port = place_of 1 p

  -- a command without a fault, by what is on air
  command_said_law : (f : Fields) (ps : List Pair) (o : Option Transmission) → until (now l) (last_of p l) ≡ o
      → answer_of (meant_command l connection p f ps) ≡ out (command_said connection at_port (view l p) f o)
  unfolding log.on_air
  command_said_law f ps none e = rw e
  command_said_law f ps (some tr) e =
      rw (e, owner_is connection (owner_of p l))
      (by_test (owns (owner_in (owner_of p l)) connection) (λ o. rw o
      (by_test (is_same f ps tr) (λ q. rw q) (λ q. rw q))) (λ o. rw o (busy_out p f.id)))

  -- a sendir as it was read
  read_said : (r : CommandReading) → answer_of (meant_read l connection p r) ≡ out (sendir_said (now l) connection at_port (view l p) r)
  read_said (faulty n found) = error_out n at_port
  read_said (sent f ps) = command_said_law f ps (until (now l) (last_of p l)) refl

  -- who is told of a halt
  told_said : (o : Option Transmission)
      → cond (is_some o && not (is_owner connection (owner_of p l))) (owner_of p l) none ≡ owner_out (told connection (view l p) o)
  unfolding also_told
  told_said none = refl
  told_said (some tr) = rw (owner_is connection (owner_of p l))
      (by_test (owns (owner_in (owner_of p l)) connection) (λ e. rw e) (λ e. rw e (sym (owner_back (owner_of p l)))))

  -- a contact as it is
  contact_said_law : (o : Option ℕ)
      → answer_of (cond (not (is_some o)) (error 28 1 p) (table.reply (text.line "state," 1 p (decimal (get_or o 0))) []))
      ≡ out (contact_said at_port (contact_in o))
  contact_said_law none = error_out 28 at_port
  contact_said_law (some value) = state_out 1 p value

  -- what a lamp is told as, where the connector is one and nothing stands behind the request
  lamp_said_law : (more : Bool) (x : Lamp) (ds : List Deed)
      → answer_of (cond (not (in_lighting p l)) (error 23 1 p) (cond more (error 17 0 0) (table.reply (lamp_line l p x) ds)))
      ≡ out (known.of_lamp at_port (view l p) more (lamp_said (now l) at_port x))
  lamp_said_law more x ds =
      rw (lighting_is (mode_of p l))
      (by_test (is_lighting (mode_in (mode_of p l)))
      (λ e. rw e (by_test more (λ f. rw f (error_out 17 nowhere)) (λ f. rw f (lamp_out p (level x (now l)) x.target))))
      (λ e. rw e (error_out 23 at_port)))

  -- whatever is asked of it
  ask_said_law : Worded l → (a : Ask) → answer_of (meant_ask l connection s p a) ≡ out (ask_said (now l) connection s at_port (view l p) a)
  unfolding log.on_air
  ask_said_law words (ask.SetMode mode) =
      by_test (is_some (until (now l) (last_of p l))) (λ e. rw e (error_out 29 at_port)) (λ e. rw e (mode_out p mode))
  ask_said_law words ask.GetMode =
      ap (λ (w : List ℕ). replied (text.line "IR," 1 p w) none) (sym (words p)) ∙ mode_out p (mode_in (mode_of p l))
  ask_said_law words ask.GetContact =
      rw (sensor_is (mode_of p l))
      (by_test (is_sensor (mode_in (mode_of p l))) (λ e. rw e (contact_said_law (contact_of p l))) (λ e. rw e (error_out 18 at_port)))
  ask_said_law words (ask.Send at) =
      rw (silent_is (mode_of p l))
      (by_test (is_silent (mode_in (mode_of p l))) (λ e. rw e (error_out 13 at_port)) (λ e. rw e (read_said (command_at s at))))
  ask_said_law words ask.Stop =
      rw (silent_is (mode_of p l))
      (by_test (is_silent (mode_in (mode_of p l))) (λ e. rw e (error_out 13 at_port))
      (λ e. rw (e, told_said (until (now l) (last_of p l))) (stopped_out p (told connection (view l p) (until (now l) (last_of p l))))))
  ask_said_law words (ask.SetLamp target ramp more) = lamp_said_law more (turned (lamp_of p l) target ramp (now l)) (setting p (lit target ramp) ∷ [])
  ask_said_law words (ask.GetLamp more) = lamp_said_law more (lamp_of p l) []

-- ---- a request
-- what is asked of a relay
turn_said : (l : List Deed) (p : ℕ) (turn : Turn)
    → answer_of (meant_turn l p turn) ≡ out (known.reply_alone (reply.State (place_of 2 p) (known.state_after turn (relay_of p l))))
turn_said l p (turn.Set state) = state_out 2 p state
turn_said l p turn.Get = state_out 2 p (relay_of p l)

module _ (l : List Deed) (connection : ℕ) (s : List ℕ) where
  -- a request is answered alike
  pub request_said_law : Worded l → (r : Request) → Within r
      → answer_of (meant l connection s r) ≡ answer_out (request_said (now l) (view l) (λ p. relay_of p l) connection s r) []
  request_said_law words (request.Fault n place) w = error_out n place
  request_said_law words (request.Fixed fixed) w = fixed_out fixed
  request_said_law words (request.Connector place ask) w =
      let named : place ≡ place_of 1 place.port = λ i. record { m = w.0.infrared i; port = place.port } in
      ask_said_law l connection s place.port words ask
      ∙ ap (λ (q : Place). out (ask_said (now l) connection s q (view l place.port) ask)) (sym named)
  request_said_law words (request.Relay place turn) w =
      let named : place ≡ place_of 2 place.port = λ i. record { m = w.0.relay i; port = place.port } in
      turn_said l place.port turn
      ∙ ap (λ (q : Place). out (known.reply_alone (reply.State q (known.state_after turn (relay_of place.port l))))) (sym named)

-- ---- a reading
-- a reading is answered alike
pub reading_said_law : (l : List Deed) (port value : ℕ)
    → answer_of (judge l (reading port value)) ≡ answer_out (reading_call_said (view l) port value) []
reading_said_law l port value =
    rw (between_checks 1 connectors port, sensor_is (mode_of port l), bit_is value)
    (by_test (between 1 connectors port) (λ e. rw e
    (by_test (is_sensor (mode_in (mode_of port l))) (λ f. rw f
    (by_test (ltb 1 value) (λ g. rw g) (λ g. rw g))) (λ f. rw f))) (λ e. rw e))

-- ---- carriers and levels
-- the carriers are told alike
pub carriers_are : (l : List Deed) → table.carriers l ≡ map (λ p. holds (λ s. carrier s (now l)) (until (now l) (view l p).sending)) ports
unfolding log.on_air
carriers_are l = refl

-- so are the levels
pub levels_are : (l : List Deed) → table.levels l ≡ map (λ p. level (view l p).lamp (now l)) ports
levels_are l = refl

-- ---- the completions of a wait
-- what is due of a connector is told alike
due_is : (n t p : ℕ) (l : List Deed) (o : Option Transmission)
    → table.due_of n t p (owner_of p l) (until t o) ≡ map completion_out (known.due_of t n (place_of 1 p) (view l p) (until t o))
unfolding reply_text
due_is n t p l none = refl
due_is n t p l (some s) =
    by_test (complete s t) (λ f. rw f) λ f. rw f
    (by_test (complete s (t + n)) (λ g. rw (g, owner_back (owner_of p l))) (λ g. rw g))

-- all of them in the meaning's words
gathered_out : (f : ℕ → List hub.Completion) (l : List ℕ) → gathered (λ p. map completion_out (f p)) l ≡ map completion_out (gathered f l)
gathered_out f [] = refl
gathered_out f (p ∷ l) =
    ap (λ (k : List table.Completion). map completion_out (f p) ++ k) (gathered_out f l) ∙ sym (map-append completion_out (f p) (gathered f l))

-- The meaning puts each before those that are not earlier, the last one first; the hub puts each behind those that are not later, the first
-- one first. Both order by moment, then by port.
abbrev placed_before : hub.Completion → List hub.Completion → List hub.Completion
placed_before x [] = x ∷ []
placed_before x (y ∷ l) = cond (ltb y.moment.0 x.moment.0) (y ∷ placed_before x l) (x ∷ y ∷ l)

-- so the meaning puts it
before_out : (x : hub.Completion) (l : List hub.Completion)
    → table.inserted (completion_out x) (map completion_out l) ≡ map completion_out (placed_before x l)
before_out x [] = refl
before_out x (y ∷ l) = by (ltb y.moment.0 x.moment.0) (before_out x l)
  where
    by : (v : Bool) → table.inserted (completion_out x) (map completion_out l) ≡ map completion_out (placed_before x l)
        → cond v (completion_out y ∷ table.inserted (completion_out x) (map completion_out l)) (map completion_out (x ∷ y ∷ l))
        ≡ map completion_out (cond v (y ∷ placed_before x l) (x ∷ y ∷ l))
    by true e = ap (λ (k : List table.Completion). completion_out y ∷ k) e
    by false e = refl

-- one put before and one put behind do not meet
both_ways : (x y : hub.Completion) (l : List hub.Completion) → inserted y (placed_before x l) ≡ placed_before x (inserted y l)
both_ways x y [] =
    by_test (ltb y.moment.0 x.moment.0) (λ e. rw e) (λ e. rw e)
both_ways x y (z ∷ l) =
    by_test (ltb z.moment.0 x.moment.0)
    (λ a. by_test (ltb y.moment.0 z.moment.0)
    (λ b. simp (a, b, lt-ltb y.moment.0 x.moment.0 (omega (arith, ltb-true z.moment.0 x.moment.0 a, ltb-true y.moment.0 z.moment.0 b))))
    (λ b. simp (a, b) (ap (λ (k : List hub.Completion). z ∷ k) (both_ways x y l))))
    (λ a. by_test (ltb y.moment.0 z.moment.0)
    (λ b. by_test (ltb y.moment.0 x.moment.0) (λ c. simp (a, b, c)) (λ c. simp (a, b, c)))
    (λ b. simp (a, b, le-ltb y.moment.0 x.moment.0 (omega (arith, ltb-false z.moment.0 x.moment.0 a, ltb-false y.moment.0 z.moment.0 b)))))

-- one put before all that are put behind one another
ordered_before : (x : hub.Completion) (done l : List hub.Completion) → ordered (placed_before x done) l ≡ placed_before x (ordered done l)
ordered_before x done [] = refl
ordered_before x done (y ∷ l) =
    ap (λ (k : List hub.Completion). ordered k l) (both_ways x y done) ∙ ordered_before x (inserted y done) l

-- the two orders are one
order_is : (l : List hub.Completion) → table.ordered (map completion_out l) ≡ map completion_out (ordered [] l)
order_is [] = refl
order_is (x ∷ l) =
    ap (table.inserted (completion_out x)) (order_is l) ∙ before_out x (ordered [] l)
    ∙ ap (map completion_out) (sym (ordered_before x [] l))

-- the completions of a wait are told alike
pub completions_are : (l : List Deed) (n : ℕ) → table.completions n l ≡ map completion_out (completions (now l) (view l) n)
unfolding log.on_air
completions_are l n =
    ap table.ordered
    ((λ i. gathered (λ p. due_is n (now l) p l (last_of p l) i) ports) ∙ gathered_out (due (now l) (view l) n) ports)
    ∙ order_is (gathered (due (now l) (view l) n) ports)
