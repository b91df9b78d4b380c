-- Every text that a call's answer writes consists of lines of replies that a hub can write.
use Prim.Native.Nat.{ℕ, ◌≤◌}
use Prim.Native.String.{String}
use mathlib.Core.Path.{◌≡◌, refl, sym, ap}
use mathlib.Core.Bool.{Bool, true, false, cond, not, ◌&&◌, ◌||◌}
use mathlib.Core.List.{List, [], ◌∷◌, ◌++◌, append_assoc}
use mathlib.Core.Option.{Option, some, get_or}
use mathlib.Core.Option as option
use native.Mathlib.Omega.{arith}
use borrow.Author.Tests.{le-leb, le-ltb, eq-eqb, eqb-true, not-true, not-false}
use lib.Dec.{eqb, ltb}
use Rattle.laws.specs.Bytes.{bytes}
use Rattle.laws.specs.Checks.{between, is_some}
use Rattle.laws.specs.Lists.{all, part, behind, gathered}
use Rattle.laws.proofs.Choice.{by_test, cond_case, and_left, and_right}
use Rattle.laws.proofs.Checks.{Through, through, past, some_of, one_of_all}
use Rattle.words.specs.Decimal.{decimal, three_digits}
use Rattle.words.specs.Places.{connectors, relays, ports_of, ports}
use Rattle.request.specs.declared.Place.{Place}
use Rattle.request.specs.declared.mode.Mode as mode
use Rattle.request.specs.declared.mode.Mode.TheVariants.{Ir, Sensor, IrBlaster, LedLighting}
use Rattle.request.specs.Place.{place_of}
use Rattle.request.specs.Mode.{mode_word, may_have}
use Rattle.meaning.specs.Line as text
use Rattle.meaning.specs.Line.{is, number, within, addressed, code_in}
use Rattle.meaning.specs.Time.{Transmission, complete}
use Rattle.meaning.specs.Lamp.{Lamp, dark, level}
use Rattle.meaning.specs.Log.{Deed, now, contact_of, lamp_of, relay_of, owner_of, on_air}
use Rattle.meaning.specs.Table as table
use Rattle.meaning.specs.Table.{Completion, Answer, refused, taken, replied, Judged, refusal, error, does, answer_of, Row, Call, line, overlong, reading, closing, waiting, row_of, judge, log_of, due_of, due, inserted, ordered, completions}
use Rattle.theorems.specs.Deeds.{ModeWord, ir, sensor, blaster, lighting, Did, nothing, changes, reads, lights, switches, starts, renews, halts, leaves, passes}
use Rattle.theorems.specs.Occasion as occasion
use Rattle.theorems.specs.Lamps.{LampWithin}
use Rattle.theorems.proofs.Deeds.{within_is, mode_of_law, did}
use Rattle.theorems.proofs.Words.{mode_word_law}
use Rattle.theorems.proofs.Contacts.{reading_is_from_a_call}
use Rattle.theorems.proofs.Times.{BegunBy, last_begun, on_air_is}
use Rattle.theorems.proofs.Ramps.{level_most}
use Rattle.theorems.proofs.Lamps.{turned_within, lamp_within, dark_level}
use Rattle.theorems.proofs.Occasions.{code_faults, within_between, listed}
use Rattle.logger.specs.declared.Heard.{Heard}
use Rattle.logger.specs.declared.Heard.TheVariants.{State, Complete, Busy, Stop, Mode, Error, Version}
use Rattle.logger.specs.declared.Heard.TheVariants as heard
use Rattle.logger.specs.Heard.{at, line_of, is_connector, is_relay, is_level, writable}

-- ---- what is shown

-- a line of its own, with its CR; or the lines of getdevices
pub data Speaks : List ℕ → Type 0 where
  alone : (r : Heard) → writable r ≡ true → Speaks (line_of r ++ (13 ∷ []))
  devices : Speaks (bytes "device,0,0 ETHERNET\rdevice,1,3 IR\rdevice,2,3 RELAY\rendlistdevices\r")

-- each is a completeir of a connector with an id that a hub can write
pub data Notices : List Completion → Type 0 where
  none : Notices []
  more : {x : Completion} {l : List Completion} (p id : ℕ) → writable (Complete (place_of 1 p) id) ≡ true
      → x.notice ≡ line_of (Complete (place_of 1 p) id) ++ (13 ∷ []) → Notices l → Notices (x ∷ l)

abbrev pub AnswerSpeaks : Answer → Type 0
AnswerSpeaks (refused n) = Unit
AnswerSpeaks (taken l) = Notices l
AnswerSpeaks (replied words told) = Speaks words

-- ---- the text of each reply

spoken : (r : Heard) {words : List ℕ} → writable r ≡ true → words ≡ line_of r ++ (13 ∷ []) → Speaks words
spoken r e f = rw f (alone r e)

pub with_last : (word : String) (a : Place) (last : List ℕ) → text.line word a.m a.port last ≡ at word a last ++ (13 ∷ [])
with_last word a last = sym (append_assoc (addressed word a.m a.port) (bytes "," ++ last) (13 ∷ []))

error_speaks : {call : Call} {n m p : ℕ} → occasion.Listed call n m p → eqb n 14 && eqb p 3 ≡ false → Speaks (text.line "ERR_" m p (three_digits n))
unfolding line_of writable
error_speaks {n = n} {m = m} {p = p} l f = spoken (Error n (place_of m p)) (may l f) (with_last "ERR_" (place_of m p) (three_digits n))
  where
    may : {call : Call} {n m p : ℕ} → occasion.Listed call n m p → eqb n 14 && eqb p 3 ≡ false → writable (Error n (place_of m p)) ≡ true
    may (occasion.nowhere e) f = e
    may {n = n} {p = p} (occasion.connector e _ port) f =
        rw port (cond_case (λ (b : Bool). b ≡ true) (eqb n 14) _ _ (λ t. let k : eqb p 3 ≡ false = rw t at f in rw k) (λ _. e))
    may (occasion.relay _ port) f = rw port

-- a lamp's level and target are such as a hub shows: a target of 0 stands with a level of 0 alone
level_shown : (x : Lamp) (t : ℕ) → LampWithin x t → is_level (level x t) x.target ≡ true
level_shown x t w =
    by_test (eqb x.target 0)
    (λ e. rw (e, w.unlit (eqb-true x.target 0 e)) (eq-eqb (level dark t) 0 (dark_level t)))
    (λ e. rw (e, le-ltb 100 x.target w.target_most) (le-leb (level x t) 100 (level_most w t)))

module _ (p : ℕ) (port : between 1 connectors p ≡ true) where
  mode_spoken : (m : mode.Mode) → may_have p m ≡ true → Speaks (text.line "IR," 1 p (mode_word m))
  unfolding line_of writable
  mode_spoken m e = spoken (Mode (place_of 1 p) m) (rw (port, e)) (with_last "IR," (place_of 1 p) (mode_word m))

  mode_speaks : {word : List ℕ} → ModeWord p word → Speaks (text.line "IR," 1 p word)
  mode_speaks (ir w) = rw w (mode_spoken Ir refl)
  mode_speaks (sensor w) = rw w (mode_spoken Sensor refl)
  mode_speaks (blaster w e) = rw w (mode_spoken IrBlaster (rw e))
  mode_speaks (lighting w) = rw w (mode_spoken LedLighting refl)

  lamp_speaks : (x : Lamp) (t : ℕ) → LampWithin x t → Speaks (text.line "LED_LIGHTING," 1 p (decimal (level x t) ++ bytes "," ++ decimal x.target))
  unfolding line_of writable
  lamp_speaks x t w =
      spoken (heard.Lamp (place_of 1 p) (level x t) x.target) (rw port (level_shown x t w))
      (with_last "LED_LIGHTING," (place_of 1 p) (decimal (level x t) ++ bytes "," ++ decimal x.target))

  state_speaks : (m v : ℕ) → (is_relay (place_of m p) || is_connector (place_of m p)) ≡ true → v ≤ 1 → Speaks (text.line "state," m p (decimal v))
  unfolding line_of writable
  state_speaks m v e most = spoken (State (place_of m p) v) (rw (le-leb v 1 most, e)) (with_last "state," (place_of m p) (decimal v))

  busy_speaks : (id : ℕ) → id ≤ 65535 → Speaks (text.line "busyIR," 1 p (decimal id))
  unfolding line_of writable
  busy_speaks id most = spoken (Busy (place_of 1 p) id) (rw (le-leb id 65535 most, port)) (with_last "busyIR," (place_of 1 p) (decimal id))

  stop_speaks : Speaks (addressed "stopir," 1 p ++ bytes "\r")
  unfolding line_of writable
  stop_speaks = spoken (Stop (place_of 1 p)) port refl

version_speaks : Speaks (bytes "LH-01\r")
unfolding line_of writable
version_speaks = spoken Version refl refl

-- ---- what a history leaves

did_relay : (p : ℕ) (log : List Deed) (call : Call) (ds : List Deed) → Did log call ds → relay_of p log ≤ 1 → relay_of p (ds ++ log) ≤ 1
did_relay p log call ds nothing m = m
did_relay p log call ds (changes r c word _ _ _ _ _) m = m
did_relay p log call ds (reads r v _ _ _ _) m = m
did_relay p log call ds (lights r c target ramp _ _ _ _ _ _) m = m
did_relay p log call ds (switches r c v _ _ small) m = cond_case (λ (n : ℕ). n ≤ 1) (eqb r p) v (relay_of p log) (λ _. small) (λ _. m)
did_relay p log call ds (starts r c f ps _ _ _ _ _) m = m
did_relay p log call ds (renews r c s _ _ _ _ _) m = m
did_relay p log call ds (halts r c _ _ _) m = m
did_relay p log call ds (leaves c _ _) m = m
did_relay p log call ds (passes n _ _) m = m

-- a relay is 0 or 1
relay_small : (h : List Call) (p : ℕ) → relay_of p (log_of h) ≤ 1
relay_small [] p = omega arith
relay_small (call ∷ h) p = did_relay p (log_of h) call _ (did (log_of h) call) (relay_small h p)

-- what is on air has an id of at most 65535
air_id : (h : List Call) (p : ℕ) (s : Transmission) → on_air p (log_of h) ≡ some s → s.fields.id ≤ 65535
air_id h p s e =
    let b : BegunBy (now (log_of h)) (some s) = rw (on_air_is p (log_of h) s e).0 at (last_begun h p) in
    b.limits.id_most

-- ---- completions

notices_append : {k l : List Completion} → Notices k → Notices l → Notices (k ++ l)
notices_append none n = n
notices_append (more p id e f m) n = more p id e f (notices_append m n)

notices_inserted : {l : List Completion} (x : Completion) → Notices (x ∷ []) → Notices l → Notices (inserted x l)
notices_inserted x a none = a
notices_inserted x a (more {x = y} p id e f n) =
    cond_case Notices (ltb y.moment x.moment) _ _
    (λ _. more p id e f (notices_inserted x a n)) (λ _. notices_append a (more p id e f n))

notices_ordered : {l : List Completion} → Notices l → Notices (ordered l)
notices_ordered none = none
notices_ordered (more {x = x} p id e f n) = notices_inserted x (more p id e f none) (notices_ordered n)

module _ (n : ℕ) (h : List Call) where
  due_notices : (p : ℕ) → between 1 connectors p ≡ true → Notices (due n (log_of h) p)
  unfolding line_of writable
  due_notices p port = go (on_air p (log_of h)) refl
    where
      go : (o : Option Transmission) → on_air p (log_of h) ≡ o → Notices (due_of n (now (log_of h)) p (owner_of p (log_of h)) o)
      go option.none e = none
      go (some s) e =
          cond_case Notices (complete s _) _ _
          (λ _.
          let id = s.fields.id in
          more p id (rw (le-leb id 65535 (air_id h p s e), port)) (with_last "completeir," (place_of 1 p) (decimal id)) none)
          (λ _. none)

  all_due : (l : List ℕ) → all (between 1 connectors) l ≡ true → Notices (gathered (due n (log_of h)) l)
  all_due [] e = none
  all_due (p ∷ l) e =
      notices_append (due_notices p (and_left (between 1 connectors p) _ e)) (all_due l (and_right (between 1 connectors p) _ e))

  completions_notices : Notices (completions n (log_of h))
  completions_notices = notices_ordered (all_due ports refl)

-- ---- every row: 014 stands with no connector 3, and what is said is spoken

abbrev Fits : Judged → Type 0
Fits (refusal n) = Unit
Fits (error n m p) = eqb n 14 && eqb p 3 ≡ false
Fits (does answer deeds) = AnswerSpeaks answer

record Fitting (r : Row) : Type 0 where
  each : Through Fits r.checks r.otherwise

module _ (h : List Call) (connection : ℕ) (s : List ℕ) where
  abbrev log : List Deed
  log = log_of h

  abbrev field : ℕ → List ℕ
  field k = part 44 k s

  abbrev m : ℕ
  m = number (part 58 0 (field 1))

  abbrev p : ℕ
  p = number (part 58 1 (field 1))

  port : not (within 1 (ports_of m) (part 58 1 (field 1))) ≡ false → between 1 connectors p ≡ true
  port e =
      cond_case (λ (most : ℕ). between 1 most p ≡ true → between 1 connectors p ≡ true) (eqb m 1) connectors relays (λ _ x. x) (λ _ x. x)
      (within_between 1 (ports_of m) (part 58 1 (field 1)) (not-false _ e))

  set_ir_fits : Fitting (table.set_ir log connection s)
  unfolding table.set_ir
  set_ir_fits =
      record {
        each = past refl (λ _. past refl (λ _. past refl (λ e. past refl (λ word. (
          λ third. not-true (eqb p 3) (and_right (is "IR_BLASTER" (field 2)) _ third),
          λ third. past refl (λ _. past refl (λ _. mode_speaks p (port e) (mode_of_law p (field 2) word third))),
        )))));
      }

  get_ir_fits : Fitting (table.get_ir log connection s)
  unfolding table.get_ir
  get_ir_fits =
      record {
        each = past refl (λ _. past refl (λ _. past refl (λ e. past refl (λ _. mode_speaks p (port e) (mode_word_law h p)))));
      }

  setstate_fits : Fitting (table.setstate log connection s)
  unfolding table.setstate
  setstate_fits =
      record {
        each = past refl (λ _. past refl (λ _. past refl (λ e. past refl (λ state. past refl (λ _.
            state_speaks p (port e) 2 _ (rw (port e)) (within_is 0 1 (field 2) state).1)))));
      }

  getstate_fits : Fitting (table.getstate log connection s)
  unfolding table.getstate
  getstate_fits =
      record {
        each = past refl (λ _. past refl (λ _. past refl (λ e. past refl (λ _.
            past (state_speaks p (port e) 2 _ (rw (port e)) (relay_small h p)) (λ _. past refl (λ _. past refl (λ known.
            let v = some_of (contact_of p log) (not-false _ known) in
            rw v.1 (state_speaks p (port e) 1 v.0 (rw (port e)) (reading_is_from_a_call p v.0 h v.1).small))))))));
      }

  abbrev fault : Option ℕ
  fault = (code_in (number (field 3)) (behind 44 6 s)).fault

  fault_other : is_some fault ≡ true → eqb (get_or fault 0) 14 && eqb p 3 ≡ false
  fault_other e =
      let x = some_of fault e in
      let other : eqb x.0 14 ≡ false =
      not-true _ (one_of_all (λ n. not (eqb n 14)) occasion.faults_of_code x.0 refl (code_faults (number (field 3)) (behind 44 6 s) x.0 x.1)) in
      rw (x.1, other)

  sendir_fits : Fitting (table.sendir log connection s)
  unfolding table.sendir
  sendir_fits =
      record {
        each = past refl (λ _. past refl (λ _. past refl (λ e. past refl (λ _. past refl (λ id. past refl (λ _. past refl (λ _. past refl (λ _. (
          fault_other,
          λ _. past refl (λ _. past none (λ _. past (busy_speaks p (port e) _ (within_is 0 65535 (field 2) id).1) (λ _. past none (λ _. none)))),
        )))))))));
      }

  stopir_fits : Fitting (table.stopir log connection s)
  unfolding table.stopir
  stopir_fits =
      record {
        each = past refl (λ _. past refl (λ _. past refl (λ e. past refl (λ _. past refl (λ _. stop_speaks p (port e))))));
      }

  set_led_lighting_fits : Fitting (table.set_led_lighting log connection s)
  unfolding table.set_led_lighting
  set_led_lighting_fits =
      let target = field 2 in
      let ramp = field 3 in
      record {
        each = past refl (λ _. past refl (λ _. past refl (λ e. past refl (λ bad. past refl (λ _.
            let both = and_left (within 1 100 target && within 0 10 ramp) _ (not-false _ bad) in
            let t = within_is 1 100 target (ap not (and_left (within 1 100 target) (within 0 10 ramp) both)) in
            let r = within_is 0 10 ramp (ap not (and_right (within 1 100 target) (within 0 10 ramp) both)) in
            lamp_speaks p (port e) _ (now log) (turned_within (number target) (number ramp) (lamp_within h p) t.0 t.1 r.1))))));
      }

  get_led_lighting_fits : Fitting (table.get_led_lighting log connection s)
  unfolding table.get_led_lighting
  get_led_lighting_fits =
      record {
        each = past refl (λ _. past refl (λ _. past refl (λ e. past refl (λ _. past refl (λ _.
            lamp_speaks p (port e) (lamp_of p log) (now log) (lamp_within h p))))));
      }

  request_fits : Fitting (table.request log connection s)
  unfolding table.request
  request_fits =
      named "getdevices" (record { each = past refl (λ _. devices) })
      (named "getversion" (record { each = past refl (λ _. version_speaks) })
      (named "set_IR" set_ir_fits
      (named "get_IR" get_ir_fits
      (named "setstate" setstate_fits
      (named "getstate" getstate_fits
      (named "sendir" sendir_fits
      (named "stopir" stopir_fits
      (named "set_LED_LIGHTING" set_led_lighting_fits
      (named "get_LED_LIGHTING" get_led_lighting_fits (record { each = refl }))))))))))
    where
      named : (word : String) {r other : Row} → Fitting r → Fitting other → Fitting (cond (is word (field 0)) r other)
      named word {r} {other} here rest = cond_case Fitting (is word (field 0)) r other (λ _. here) (λ _. rest)

row_fits : (h : List Call) (call : Call) → Through Fits (row_of (log_of h) call).checks (row_of (log_of h) call).otherwise
row_fits h (line connection room s) = past tt (λ _. past tt (λ _. past refl (λ _. past refl (λ _. (request_fits h connection s).each))))
row_fits h (overlong connection room) = past tt (λ _. past tt (λ _. refl))
row_fits h (reading p value) = past tt (λ _. none)
row_fits h (closing connection) = past tt (λ _. none)
row_fits h (waiting n) = past tt (λ _. completions_notices n h)

-- ---- the theorem

-- after any history, the latest call first, whatever is asked
pub answer_speaks : (h : List Call) (call : Call) → AnswerSpeaks (answer_of (judge (log_of h) call))
answer_speaks h call =
    go (judge (log_of h) call) refl (through Fits (row_of (log_of h) call).checks (row_of (log_of h) call).otherwise (row_fits h call))
  where
    go : (j : Judged) → judge (log_of h) call ≡ j → Fits j → AnswerSpeaks (answer_of j)
    go (refusal n) e f = tt
    go (error n m p) e f = error_speaks (listed (log_of h) call n m p e) f
    go (does answer deeds) e f = f
