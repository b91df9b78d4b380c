-- What the log book shows at each port, as a record; and what a call makes of that is what the call makes of the record.
use Prim.Native.Nat.{ℕ, ◌≤◌}
use mathlib.Core.Path.{◌≡◌, refl, sym, ap, ◌∙◌}
use mathlib.Core.Bool.{true, false, cond, not, ◌&&◌}
use mathlib.Core.List.{List, [], ◌∷◌, ◌++◌}
use mathlib.Core.Option.{Option, none, some}
use native.Mathlib.Omega.{arith}
use borrow.Author.Tests.{eqb-true, eq-eqb, ltb-true, ltb-false, lt-leb, le-leb}
use lib.Dec.{eqb, ltb}
use Rattle.std.proofs.Common as std
use Rattle.laws.specs.Checks.{between, holds, is_some}
use Rattle.laws.specs.Lists.{same}
use Rattle.laws.proofs.Choice.{by_test, cond_case, between_true}
use Rattle.words.specs.Places.{connectors}
use Rattle.words.specs.declared.Pair.{Pair}
use Rattle.words.specs.declared.Fields.{Fields}
use Rattle.meaning.specs.Line.{is}
use Rattle.words.specs.Pairs.{counts_of}
use Rattle.meaning.specs.Time.{Transmission, complete}
use Rattle.meaning.specs.Log as log
use Rattle.meaning.specs.Log.{Deed, setting, event, changed, lit, started, renewed, halted, left, now, mode_of, contact_of, lamp_of, relay_of, last_of, owner_of, is_owner, until}
use Rattle.meaning.specs.Table.{Judged, deeds_of, is_same, Call, line, overlong, reading, closing, waiting, judge, logged, log_of}
use Rattle.request.specs.declared.mode.Mode.{Mode}
use Rattle.request.specs.declared.mode.Mode.TheVariants.{Ir, Sensor, IrBlaster, LedLighting}
use Rattle.request.specs.declared.Ask.{Ask}
use Rattle.request.specs.declared.Ask.TheVariants as ask
use Rattle.request.specs.declared.Turn.{Turn}
use Rattle.request.specs.declared.Turn.TheVariants as turn
use Rattle.request.specs.declared.Request.{Request}
use Rattle.request.specs.declared.Request.TheVariants as request
use Rattle.request.specs.Mode.{mode_word, is_sensor, is_lighting, is_silent}
use Rattle.request.specs.Request.{read_request}
use Rattle.command.specs.Read.{CommandReading, sent, faulty, command_at}
use Rattle.store.specs.Store.{alike}
use Rattle.connector.specs.declared.Owner.{Owner}
use Rattle.connector.specs.declared.Owner.TheVariants.{Nobody, Connection}
use Rattle.connector.specs.Change.{same_mode, owns, owner_left}
use Rattle.steps.specs.Send.{same_fields}
use Rattle.theorems.specs.Deeds.{in_sensor, in_lighting, silent}
use Rattle.reads.specs.Meant.{meant_command, meant_read, meant_ask, meant_turn, meant}
use Rattle.reads.proofs.Cursor.{mode_in, sensor_is, lighting_is, silent_is}
use Rattle.reads.proofs.Rows.{line_is}
use Rattle.shown.proofs.Known as known
use Rattle.shown.proofs.Known.{Known, with_sending, same_command, commanded, sent_to, asked, known_after, relays_after, read_as}

-- ---- the look-ups as a record

-- an owner by its connection
abbrev pub owner_in : Option ℕ → Owner
owner_in none = Nobody
owner_in (some connection) = Connection connection

-- a contact by its last reading
abbrev pub contact_in : Option ℕ → std.Option ℕ
contact_in none = std.None
contact_in (some value) = std.Some value

-- what the log shows at a port
abbrev pub view : List Deed → ℕ → Known
view l p =
    record { owner = owner_in (owner_of p l); mode = mode_in (mode_of p l); contact = contact_in (contact_of p l); sending = last_of p l; lamp = lamp_of p l }

-- every logged mode is a mode word
abbrev pub Worded : List Deed → Type 0
Worded l = (p : ℕ) → mode_word (mode_in (mode_of p l)) ≡ mode_of p l

-- ---- the same in both words

-- a mode from its own word
mode_back : (mode : Mode) → mode_in (mode_word mode) ≡ mode
unfolding mode_in
mode_back Ir = refl
mode_back Sensor = refl
mode_back IrBlaster = refl
mode_back LedLighting = refl

-- modes are the same where their words are
mode_same : (w : List ℕ) (mode : Mode) → mode_word (mode_in w) ≡ w → same w (mode_word mode) ≡ same_mode (mode_in w) mode
mode_same w mode e = ap (λ (v : List ℕ). same v (mode_word mode)) (sym e) ∙ go (mode_in w) mode
  where
    go : (a b : Mode) → same (mode_word a) (mode_word b) ≡ same_mode a b
    go Ir Ir = refl
    go Ir Sensor = refl
    go Ir IrBlaster = refl
    go Ir LedLighting = refl
    go Sensor Ir = refl
    go Sensor Sensor = refl
    go Sensor IrBlaster = refl
    go Sensor LedLighting = refl
    go IrBlaster Ir = refl
    go IrBlaster Sensor = refl
    go IrBlaster IrBlaster = refl
    go IrBlaster LedLighting = refl
    go LedLighting Ir = refl
    go LedLighting Sensor = refl
    go LedLighting IrBlaster = refl
    go LedLighting LedLighting = refl

-- who owns is told alike
pub owner_is : (connection : ℕ) (o : Option ℕ) → is_owner connection o ≡ owns (owner_in o) connection
owner_is connection none = refl
owner_is connection (some number) = refl

-- counts are compared alike
alike_is : (xs ys : List ℕ) → same ys xs ≡ alike xs ys
alike_is [] [] = refl
alike_is [] (y ∷ ys) = refl
alike_is (x ∷ xs) [] = refl
alike_is (x ∷ xs) (y ∷ ys) = by_test (eqb x y) (λ e. rw e (alike_is xs ys)) (λ e. rw e)

-- commands are compared alike
command_is : (f : Fields) (ps : List Pair) (s : Transmission) → is_same f ps s ≡ same_command s f ps
unfolding same_command same_fields
command_is f ps s =
    rw (alike_is (counts_of s.pairs) (counts_of ps))
    (by_test (eqb s.fields.id f.id) (λ a. rw a
    (by_test (eqb s.fields.freq f.freq) (λ b. rw b
    (by_test (eqb s.fields.repeat f.repeat) (λ c. rw c) (λ c. rw c))) (λ b. rw b))) (λ a. rw a))

-- what is on air was started last
pub until_some : (t : ℕ) (o : Option Transmission) {s : Transmission} → until t o ≡ some s → o ≡ some s
until_some t none e = e
until_some t (some r) e = by_test (complete r t) (λ f. absurd (none_some (sym (rw f) ∙ e))) (λ f. sym (rw f) ∙ e)
  where
    none_some : {s : Transmission} → none ≡ some s → ⊥
    none_some e = let z : ◌≡◌ {A = ℕ} 0 1 = cc in omega arith

-- ---- a request, at the connector that it names

module _ (l : List Deed) (connection : ℕ) (s : List ℕ) (p : ℕ) where
  -- what the log shows there after a judgement
  abbrev after : Judged → Known
  after j = view (deeds_of j ++ l) p

  -- it is the connector that is named
  here : eqb p p ≡ true
  here = eq-eqb p p refl

  -- a command without a fault, by what is on air
  command_here : (f : Fields) (ps : List Pair) (o : Option Transmission) → until (now l) (last_of p l) ≡ o
      → after (meant_command l connection p f ps) ≡ commanded (now l) connection (view l p) f ps o
  unfolding log.on_air
  command_here f ps none e = rw (e, here)
  command_here f ps (some tr) e =
      rw (e, owner_is connection (owner_of p l), command_is f ps tr)
      (by_test (owns (owner_in (owner_of p l)) connection) (λ o. rw o
      (by_test (same_command tr f ps) (λ q. rw (q, here, until_some (now l) (last_of p l) e)) (λ q. rw (q, here))))
      (λ o. rw o))

  -- a sendir as it was read
  read_here : (r : CommandReading) → after (meant_read l connection p r) ≡ sent_to (now l) connection (view l p) r
  read_here (faulty n found) = refl
  read_here (sent f ps) = command_here f ps (until (now l) (last_of p l)) refl

  -- what is asked of it
  ask_here : Worded l → (a : Ask) → after (meant_ask l connection s p a) ≡ asked (now l) connection s (view l p) a
  unfolding log.on_air
  ask_here words (ask.SetMode mode) =
      rw (mode_same (mode_of p l) mode (words p))
      (by_test (is_some (until (now l) (last_of p l))) (λ e. rw e) λ e. rw e
      (by_test (same_mode (mode_in (mode_of p l)) mode) (λ f. rw f) (λ f. rw (f, here, mode_back mode))))
  ask_here words ask.GetMode = refl
  ask_here words ask.GetContact =
      by_test (in_sensor p l) (λ e. rw e (by_test (is_some (contact_of p l)) (λ f. rw f) (λ f. rw f))) (λ e. rw e)
  ask_here words (ask.Send at) =
      rw (silent_is (mode_of p l))
      (by_test (is_silent (mode_in (mode_of p l))) (λ f. rw f) (λ f. rw f (read_here (command_at s at))))
  ask_here words ask.Stop =
      rw (silent_is (mode_of p l)) (by_test (is_silent (mode_in (mode_of p l))) (λ e. rw e) (λ e. rw (e, here)))
  ask_here words (ask.SetLamp target ramp more) =
      rw (lighting_is (mode_of p l))
      (by_test (is_lighting (mode_in (mode_of p l))) (λ e. rw e (by_test more (λ f. rw f) (λ f. rw (f, here)))) (λ e. rw e))
  ask_here words (ask.GetLamp more) =
      by_test (in_lighting p l) (λ e. rw e (by_test more (λ f. rw f) (λ f. rw f))) (λ e. rw e)

-- ---- a request, at any other

-- no deed, or one on connector q
data On (q : ℕ) : List Deed → Type 0 where
  nothing : On q []
  turns : (mode : Mode) → On q (setting q (changed (mode_word mode)) ∷ [])
  lights : {target ramp : ℕ} → On q (setting q (lit target ramp) ∷ [])
  starts : {c : ℕ} {f : Fields} {ps : List Pair} → On q (event (started q c f ps) ∷ [])
  renews : On q (event (renewed q) ∷ [])
  halts : On q (event (halted q) ∷ [])

-- it leaves what the log shows at any other
on_other : {q : ℕ} {ds : List Deed} (l : List Deed) (p : ℕ) → On q ds → eqb q p ≡ false → view (ds ++ l) p ≡ view l p
on_other l p nothing e = refl
on_other l p (turns mode) e = rw e
on_other l p lights e = rw e
on_other l p starts e = rw e
on_other l p renews e = rw e
on_other l p halts e = rw e

-- it takes no time
on_now : {q : ℕ} {ds : List Deed} (l : List Deed) → On q ds → now (ds ++ l) ≡ now l
on_now l nothing = refl
on_now l (turns mode) = refl
on_now l lights = refl
on_now l starts = refl
on_now l renews = refl
on_now l halts = refl

-- it switches no relay
on_relay : {q : ℕ} {ds : List Deed} (l : List Deed) (p : ℕ) → On q ds → relay_of p (ds ++ l) ≡ relay_of p l
on_relay l p nothing = refl
on_relay l p (turns mode) = refl
on_relay l p lights = refl
on_relay l p starts = refl
on_relay l p renews = refl
on_relay l p halts = refl

-- it leaves the modes mode words
on_mode : {q : ℕ} {ds : List Deed} (l : List Deed) → On q ds → Worded l → Worded (ds ++ l)
on_mode l nothing words p = words p
on_mode {q} l (turns mode) words p =
    cond_case (λ (w : List ℕ). mode_word (mode_in w) ≡ w) (eqb q p) _ _ (λ _. ap mode_word (mode_back mode)) (λ _. words p)
on_mode l lights words p = words p
on_mode l starts words p = words p
on_mode l renews words p = words p
on_mode l halts words p = words p

module _ (l : List Deed) (connection : ℕ) (s : List ℕ) (q : ℕ) where
  -- what a judgement does is on connector q
  abbrev OnIt : Judged → Type 0
  OnIt j = On q (deeds_of j)

  -- so of a sendir as it was read
  read_on_law : (r : CommandReading) → OnIt (meant_read l connection q r)
  read_on_law (faulty n found) = nothing
  read_on_law (sent f ps) =
      cond_case OnIt (not (is_some (log.on_air q l))) _ _ (λ _. starts) λ _.
      cond_case OnIt (not (is_owner connection (owner_of q l))) _ _ (λ _. nothing) λ _.
      cond_case OnIt (holds (is_same f ps) (log.on_air q l)) _ _ (λ _. renews) (λ _. starts)

  -- so of whatever is asked of it
  ask_on : (a : Ask) → OnIt (meant_ask l connection s q a)
  ask_on (ask.SetMode mode) =
      cond_case OnIt (is_some (log.on_air q l)) _ _ (λ _. nothing)
      (λ _. cond_case (On q) (same (mode_of q l) (mode_word mode)) _ _ (λ _. nothing) (λ _. turns mode))
  ask_on ask.GetMode = nothing
  ask_on ask.GetContact =
      cond_case OnIt (not (in_sensor q l)) _ _ (λ _. nothing) λ _.
      cond_case OnIt (not (is_some (contact_of q l))) _ _ (λ _. nothing) (λ _. nothing)
  ask_on (ask.Send at) = cond_case OnIt (silent q l) _ _ (λ _. nothing) (λ _. read_on_law (command_at s at))
  ask_on ask.Stop = cond_case OnIt (silent q l) _ _ (λ _. nothing) (λ _. halts)
  ask_on (ask.SetLamp target ramp more) =
      cond_case OnIt (not (in_lighting q l)) _ _ (λ _. nothing) λ _. cond_case OnIt more _ _ (λ _. nothing) (λ _. lights)
  ask_on (ask.GetLamp more) =
      cond_case OnIt (not (in_lighting q l)) _ _ (λ _. nothing) λ _. cond_case OnIt more _ _ (λ _. nothing) (λ _. nothing)

-- ---- what a request makes of what the log shows

-- what holds of no deed, and of a relay switched, holds of what is asked of a relay
turn_case : (P : List Deed → Type 0) (l : List Deed) (q : ℕ) (turn : Turn) → P [] → ((state : ℕ) → P (log.switched q state ∷ []))
    → P (deeds_of (meant_turn l q turn))
turn_case P l q (turn.Set state) quiet switches = switches state
turn_case P l q turn.Get quiet switches = quiet

module _ (l : List Deed) (connection : ℕ) (s : List ℕ) where
  -- a request makes of each connector what it makes of the record
  pub request_step : (p : ℕ) → Worded l → (r : Request)
      → view (deeds_of (meant l connection s r) ++ l) p ≡ known_after (now l) connection s (view l) r p
  request_step p words (request.Fault n place) = refl
  request_step p words (request.Fixed fixed) = refl
  request_step p words (request.Connector place ask) =
      by_test (eqb place.port p)
      (λ e. rw (e, eqb-true place.port p e) (ask_here l connection s p words ask))
      (λ e. rw e (on_other l p (ask_on l connection s place.port ask) e))
  request_step p words (request.Relay place turn) =
      turn_case (λ (ds : List Deed). view (ds ++ l) p ≡ view l p) l place.port turn refl (λ state. refl)

  -- a request takes no time
  pub now_step : (r : Request) → now (deeds_of (meant l connection s r) ++ l) ≡ now l
  now_step (request.Fault n place) = refl
  now_step (request.Fixed fixed) = refl
  now_step (request.Connector place ask) = on_now l (ask_on l connection s place.port ask)
  now_step (request.Relay place turn) =
      turn_case (λ (ds : List Deed). now (ds ++ l) ≡ now l) l place.port turn refl (λ state. refl)

  -- what is asked of a relay
  turn_step : (p q : ℕ) (turn : Turn)
      → relay_of p (deeds_of (meant_turn l q turn) ++ l) ≡ known.changed_at q (known.state_after turn) (λ r. relay_of r l) p
  turn_step p q (turn.Set state) = refl
  turn_step p q turn.Get = by_test (eqb q p) (λ e. rw e) (λ e. rw e)

  -- a request makes of each relay what it makes of its state
  pub relay_step_law : (p : ℕ) (r : Request) → relay_of p (deeds_of (meant l connection s r) ++ l) ≡ relays_after (λ q. relay_of q l) r p
  relay_step_law p (request.Fault n place) = refl
  relay_step_law p (request.Fixed fixed) = refl
  relay_step_law p (request.Connector place ask) = on_relay l p (ask_on l connection s place.port ask)
  relay_step_law p (request.Relay place turn) = turn_step p place.port turn

  -- the logged modes stay mode words
  pub mode_step : Worded l → (r : Request) → Worded (deeds_of (meant l connection s r) ++ l)
  mode_step words (request.Fault n place) = words
  mode_step words (request.Fixed fixed) = words
  mode_step words (request.Connector place ask) = on_mode l (ask_on l connection s place.port ask) words
  mode_step words (request.Relay place turn) =
      turn_case (λ (ds : List Deed). Worded (ds ++ l)) l place.port turn words (λ state. words)

-- ---- a reading, and a connection that left

-- a value is a contact's in both words
pub bit_is : (value : ℕ) → between 0 1 value ≡ not (ltb 1 value)
bit_is value =
    by_test (ltb 1 value)
    (λ e. rw (e, le-leb 0 value (omega arith), lt-leb value 1 (ltb-true 1 value e)))
    (λ e. rw (e, le-leb 0 value (omega arith), le-leb value 1 (ltb-false 1 value e)))

module _ (l : List Deed) where
  -- a reading makes of each connector what it makes of the record
  pub reading_step : (port value p : ℕ) → 1 ≤ p → p ≤ connectors
      → view (logged l (reading port value)) p ≡ cond (eqb port p) (read_as (view l p) value) (view l p)
  reading_step port value p least most =
      by_test (eqb port p)
      (λ e. rw (e, eqb-true port p e, between_true 1 connectors p least most, sensor_is (mode_of p l), bit_is value)
      (by_test (is_sensor (mode_in (mode_of p l))) (λ f. rw f
      (by_test (ltb 1 value) (λ g. rw g) (λ g. rw (g, eq-eqb p p refl)))) (λ f. rw f)))
      (λ e. rw e
      (by_test (between 1 connectors port && is "SENSOR" (mode_of port l) && between 0 1 value) (λ f. rw (f, e)) (λ f. rw f)))

  -- an owner who left is told alike
  left_owner : (connection : ℕ) (o : Option ℕ) → owner_in (cond (is_owner connection o) none o) ≡ owner_left (owner_in o) connection
  unfolding owner_left
  left_owner connection none = refl
  left_owner connection (some number) = by_test (eqb number connection) (λ e. rw e) (λ e. rw e)

  -- a closing makes of each connector what it makes of the record
  pub closing_step : (connection p : ℕ)
      → view (event (left connection) ∷ l) p ≡ with_sending (view l p) (owner_left (view l p).owner connection) (view l p).sending
  closing_step connection p = rw (← left_owner connection (owner_of p l))

-- ---- after any calls the logged modes are mode words

module _ (l : List Deed) (words : Worded l) where
  -- after a judgement they are
  abbrev WordedBy : Judged → Type 0
  WordedBy j = Worded (deeds_of j ++ l)

  -- so after any call
  call_worded : (call : Call) → WordedBy (judge l call)
  call_worded (line connection room s) =
      cond_case WordedBy (ltb 7 connection) _ _ (λ _. words) λ _.
      cond_case WordedBy (ltb room 128) _ _ (λ _. words) λ _.
      rw (line_is l connection s) (mode_step l connection s words (read_request s))
  call_worded (overlong connection room) =
      cond_case WordedBy (ltb 7 connection) _ _ (λ _. words) λ _. cond_case WordedBy (ltb room 128) _ _ (λ _. words) (λ _. words)
  call_worded (reading port value) =
      cond_case WordedBy (not (between 1 connectors port && is "SENSOR" (mode_of port l) && between 0 1 value)) _ _ (λ _. words) (λ _. words)
  call_worded (closing connection) = cond_case WordedBy (ltb 7 connection) _ _ (λ _. words) (λ _. words)
  call_worded (waiting n) = cond_case WordedBy (ltb 1000000000 n) _ _ (λ _. words) (λ _. words)

-- so after any history
pub worded : (h : List Call) → Worded (log_of h)
worded [] p = ap mode_word (mode_back Ir)
worded (call ∷ h) p = call_worded (log_of h) (worded h) call p
