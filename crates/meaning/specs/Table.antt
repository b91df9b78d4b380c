-- Document 01's table and the calls, each a row: its checks in document 01's order, each with what it gives, and what happens otherwise.
use Rattle.std.specs.Prelude.{ℕ, ◌+◌, ◌-◌, ◌*◌, ◌%◌, Bool, cond, not, ◌&&◌, ◌||◌, List, [], ◌∷◌, ◌++◌, map, ltb, eqb, length}
use Rattle.std.proofs.Math.Option.{Option, none, some, get_or}
use Rattle.laws.specs.Bytes.{bytes}
use Rattle.laws.specs.Checks.{Check, ◌⇒◌, first, between, holds, is_some}
use Rattle.laws.specs.Lists.{all, same, cut, part, behind, gathered}
use Rattle.words.specs.Places.{connectors, ports_of, ports}
use Rattle.words.specs.Decimal.{decimal, three_digits}
use Rattle.words.specs.declared.Pair.{Pair}
use Rattle.words.specs.declared.Fields.{Fields}
use Rattle.meaning.specs.Line as text
use Rattle.meaning.specs.Line.{is, number, within, is_address, addressed, code_in}
use Rattle.words.specs.Pairs.{counts_of}
use Rattle.meaning.specs.Time.{Transmission, complete, finish, carrier}
use Rattle.meaning.specs.Lamp.{Lamp, level, turned}
use Rattle.meaning.specs.Log.{Deed, passed, setting, switched, event, changed, felt, lit, started, renewed, halted, left, now, mode_of, contact_of, lamp_of, relay_of, owner_of, is_owner, on_air}

-- `completeir,1:p,id` at a moment from the wait's start, to its owner
pub record Completion : Type 0 where
  pub moment : ℕ
  pub owner : Option ℕ
  pub notice : List ℕ

-- what is heard: a refusal; nothing, or of a wait its completions; a reply, told also to an owner
pub data Answer : Type 0 where
  refused : ℕ → Answer
  taken : List Completion → Answer
  replied : List ℕ → Option ℕ → Answer

-- how a call is judged: a refusal with a number; an error with a number, for m:p; or an answer, and what the call did
pub data Judged : Type 0 where
  refusal : ℕ → Judged
  error : ℕ → ℕ → ℕ → Judged
  does : Answer → List Deed → Judged

-- "An error line is `ERR_m:p,nnn`. It is the whole written reply"
abbrev pub answer_of : Judged → Answer
answer_of (refusal n) = refused n
answer_of (error n m p) = replied (text.line "ERR_" m p (three_digits n)) none
answer_of (does answer deeds) = answer

-- "and the hub stays unchanged"; a refusal: "nothing written and nothing changed"
abbrev pub deeds_of : Judged → List Deed
deeds_of (refusal n) = []
deeds_of (error n m p) = []
deeds_of (does answer deeds) = deeds

-- "For 001, 002, 003, 015 and 017 the address is 0:0"
abbrev pub no : ℕ → Judged
no n = error n 0 0

abbrev pub reply : List ℕ → List Deed → Judged
reply words deeds = does (replied words none) deeds

pub record Row : Type 0 where
  pub checks : List (Check Judged)
  pub otherwise : Judged

abbrev pub row : List (Check Judged) → Judged → Row
row checks otherwise = record { checks = checks; otherwise = otherwise }

-- "equal id, freq, capped repeat, offset and pairs (plain or lettered alike)"
abbrev pub is_same : Fields → List Pair → Transmission → Bool
is_same f ps s =
    eqb s.fields.id f.id && eqb s.fields.freq f.freq && eqb s.fields.repeat f.repeat
    && eqb s.fields.offset f.offset && same (counts_of ps) (counts_of s.pairs)

-- ---- the requests, by the log, the connection that asks and its line

module _ (log : List Deed) (connection : ℕ) (line : List ℕ) where
  -- the line is cut at its commas; its address is field 1
  abbrev pub field : ℕ → List ℕ
  field k = part 44 k line

  abbrev pub m : ℕ
  m = number (part 58 0 (field 1))

  abbrev pub p : ℕ
  p = number (part 58 1 (field 1))

  -- "otherwise it is the one asked for"
  abbrev pub wrong : ℕ → Judged
  wrong n = error n m p

  -- "017 for the address, 002, 003, then by request", whose module is from least to most
  abbrev pub address : ℕ → ℕ → List (Check Judged) → List (Check Judged)
  address least most checks =
      (not (is_address (field 1)) ⇒ no 17)
      ∷ (not (within least most (part 58 0 (field 1))) ⇒ no 2)
      ∷ (not (within 1 (ports_of m) (part 58 1 (field 1))) ⇒ no 3)
      ∷ checks

  -- 017 "anything after a complete request", which has so many fields
  abbrev pub more : ℕ → Check Judged
  more fields = ltb fields (length (cut 44 line)) ⇒ no 17

  abbrev pub in_sensor : Bool
  in_sensor = is "SENSOR" (mode_of p log)

  abbrev pub in_lighting : Bool
  in_lighting = is "LED_LIGHTING" (mode_of p log)

  -- 013 "sendir or stopir to a connector in SENSOR", and by request 3 to one in LED_LIGHTING: "sendir and stopir there get 013"
  abbrev pub silent : Bool
  silent = in_sensor || in_lighting

  -- a request without an address: its name is all of it, and its reply is always the same
  abbrev pub fixed : List ℕ → Row
  fixed words = row (more 1 ∷ []) (reply words [])

  abbrev pub getdevices : Row
  getdevices = fixed (bytes "device,0,0 ETHERNET\rdevice,1,3 IR\rdevice,2,3 RELAY\rendlistdevices\r")

  abbrev pub getversion : Row
  getversion = fixed (bytes "LH-01\r")

  -- "the present mode again changes nothing"
  unfoldable pub set_ir : Row
  set_ir =
      let mode = field 2 in
      row (address 1 1
      ((not (is "IR" mode || is "SENSOR" mode || is "IR_BLASTER" mode || is "LED_LIGHTING" mode) ⇒ wrong 23)
      ∷ ((is "IR_BLASTER" mode && not (eqb p 3)) ⇒ wrong 14)
      ∷ more 3
      ∷ (is_some (on_air p log) ⇒ wrong 29)
      ∷ [])) (reply (text.line "IR," 1 p mode) (cond (same (mode_of p log) mode) [] (setting p (changed mode) ∷ [])))

  unfoldable pub get_ir : Row
  get_ir = row (address 1 1 (more 2 ∷ [])) (reply (text.line "IR," 1 p (mode_of p log)) [])

  unfoldable pub setstate : Row
  setstate = row (address 2 2 ((not (within 0 1 (field 2)) ⇒ wrong 23) ∷ more 3 ∷ []))
      (reply (text.line "state," 2 p (decimal (number (field 2)))) (switched p (number (field 2)) ∷ []))

  -- module 2 has the relays, module 1 the contacts
  unfoldable pub getstate : Row
  getstate = row (address 1 2
      (more 2
      ∷ (eqb m 2 ⇒ reply (text.line "state," 2 p (decimal (relay_of p log))) [])
      ∷ (not in_sensor ⇒ wrong 18)
      ∷ (not (is_some (contact_of p log)) ⇒ wrong 28)
      ∷ [])) (reply (text.line "state," 1 p (decimal (get_or (contact_of p log) 0))) [])

  -- the code is all that stands behind the sixth comma. "sendir to an idle connector starts"; "From another connection, or if there is no
  -- owner: busyIR"; from the owner an equal one is renewed, "with any other field: the old one is dropped .. and the new one starts"
  unfoldable pub sendir : Row
  sendir =
      let freq = number (field 3) in
      let repeat = number (field 4) in
      let offset = number (field 5) in
      let code = code_in freq (behind 44 6 line) in
      let f : Fields = record { id = number (field 2); freq = freq; repeat = cond (ltb 20 repeat) 20 repeat; offset = offset } in
      let starts = does (taken []) (event (started p connection f code.pairs) ∷ []) in
      row (address 1 1
      ((silent ⇒ wrong 13)
      ∷ (not (within 0 65535 (field 2)) ⇒ wrong 4)
      ∷ (not (within 15000 500000 (field 3)) ⇒ wrong 5)
      ∷ (not (within 1 999999 (field 4)) ⇒ wrong 6)
      ∷ ((not (within 1 383 (field 5)) || eqb (offset % 2) 0) ⇒ wrong 7)
      ∷ (is_some code.fault ⇒ wrong (get_or code.fault 0))
      ∷ (not (ltb offset (2 * length code.pairs)) ⇒ wrong 7)
      ∷ (not (is_some (on_air p log)) ⇒ starts)
      ∷ (not (is_owner connection (owner_of p log)) ⇒ reply (text.line "busyIR," 1 p (decimal f.id)) [])
      ∷ (holds (is_same f code.pairs) (on_air p log) ⇒ does (taken []) (event (renewed p) ∷ []))
      ∷ [])) starts

  -- "the same to the owner of a halted transmission, if another connection"
  unfoldable pub stopir : Row
  stopir =
      let another = is_some (on_air p log) && not (is_owner connection (owner_of p log)) in
      row (address 1 1 (more 2 ∷ (silent ⇒ wrong 13) ∷ []))
      (does (replied (addressed "stopir," 1 p ++ bytes "\r") (cond another (owner_of p log) none)) (event (halted p) ∷ []))

  -- `LED_LIGHTING`, address, "present level, target, with no comma at the end": those of a lamp
  abbrev pub lamp_line : Lamp → List ℕ
  lamp_line x = text.line "LED_LIGHTING," 1 p (decimal (level x (now log)) ++ bytes "," ++ decimal x.target)

  -- "a target of 1 to 100 and a ramp of 0 to 10"; "023 for a bad target, bad ramp or a connector not in this mode, then 017 for a surplus"
  unfoldable pub set_led_lighting : Row
  set_led_lighting =
      let target = number (field 2) in
      let ramp = number (field 3) in
      row (address 1 1 ((not (within 1 100 (field 2) && within 0 10 (field 3) && in_lighting) ⇒ wrong 23) ∷ more 4 ∷ []))
      (reply (lamp_line (turned (lamp_of p log) target ramp (now log))) (setting p (lit target ramp) ∷ []))

  unfoldable pub get_led_lighting : Row
  get_led_lighting = row (address 1 1 ((not in_lighting ⇒ wrong 23) ∷ more 2 ∷ [])) (reply (lamp_line (lamp_of p log)) [])

  -- 001 "the name up to the first comma is unknown (an empty line too)"
  unfoldable pub request : Row
  request = first
      ((is "getdevices" (field 0) ⇒ getdevices)
      ∷ (is "getversion" (field 0) ⇒ getversion)
      ∷ (is "set_IR" (field 0) ⇒ set_ir)
      ∷ (is "get_IR" (field 0) ⇒ get_ir)
      ∷ (is "setstate" (field 0) ⇒ setstate)
      ∷ (is "getstate" (field 0) ⇒ getstate)
      ∷ (is "sendir" (field 0) ⇒ sendir)
      ∷ (is "stopir" (field 0) ⇒ stopir)
      ∷ (is "set_LED_LIGHTING" (field 0) ⇒ set_led_lighting)
      ∷ (is "get_LED_LIGHTING" (field 0) ⇒ get_led_lighting)
      ∷ []) (row [] (no 1))

-- ---- completions: what is due on connector p in the next n microseconds, and all "ordered by moment from the wait's start, then by port"
abbrev pub due_of : ℕ → ℕ → ℕ → Option ℕ → Option Transmission → List Completion
due_of n t p owner none = []
due_of n t p owner (some s) = cond (complete s (t + n))
    (record { moment = finish s - t; owner = owner; notice = text.line "completeir," 1 p (decimal s.fields.id) } ∷ []) []

abbrev pub due : ℕ → List Deed → ℕ → List Completion
due n log p = due_of n (now log) p (owner_of p log) (on_air p log)

abbrev pub inserted : Completion → List Completion → List Completion
inserted x [] = x ∷ []
inserted x (y ∷ l) = cond (ltb y.moment x.moment) (y ∷ inserted x l) (x ∷ y ∷ l)

abbrev pub ordered : List Completion → List Completion
ordered [] = []
ordered (x ∷ l) = inserted x (ordered l)

abbrev pub completions : ℕ → List Deed → List Completion
completions n log = ordered (gathered (due n log) ports)

-- "Beside request lines there are three calls: a contact reading (connector, 0 or 1), a closed connection, and a wait of some
-- microseconds." A line comes with its connection and the size of the lent reply buffer, an overlong one as a mark.
pub data Call : Type 0 where
  line : ℕ → ℕ → List ℕ → Call
  overlong : ℕ → ℕ → Call
  reading : ℕ → ℕ → Call
  closing : ℕ → Call
  waiting : ℕ → Call

-- "Order for a line: 102, 101, 015, 001, .."
abbrev pub heard : ℕ → ℕ → List (Check Judged) → List (Check Judged)
heard connection room checks = (ltb 7 connection ⇒ refusal 102) ∷ (ltb room 128 ⇒ refusal 101) ∷ checks

abbrev pub row_of : List Deed → Call → Row
row_of log (line connection room s) =
    let asked = request log connection s in
    row (heard connection room ((ltb 4096 (length s) ⇒ no 15) ∷ (not (all (between 32 126) s) ⇒ no 1) ∷ asked.checks)) asked.otherwise
row_of log (overlong connection room) = row (heard connection room []) (no 15)
row_of log (reading p value) =
    row ((not (between 1 connectors p && is "SENSOR" (mode_of p log) && between 0 1 value) ⇒ refusal 104) ∷ [])
    (does (taken []) (setting p (felt value) ∷ []))
row_of log (closing connection) = row ((ltb 7 connection ⇒ refusal 102) ∷ []) (does (taken []) (event (left connection) ∷ []))
row_of log (waiting n) = row ((ltb 1000000000 n ⇒ refusal 103) ∷ []) (does (taken (completions n log)) (passed n ∷ []))

abbrev pub judge : List Deed → Call → Judged
judge log call = first (row_of log call).checks (row_of log call).otherwise

-- the log after one call more, and after a history: the list of calls, the latest first
abbrev pub logged : List Deed → Call → List Deed
logged log call = deeds_of (judge log call) ++ log

abbrev pub log_of : List Call → List Deed
log_of [] = []
log_of (call ∷ h) = logged (log_of h) call

-- "for each connector whether its carrier is on now, off where nothing is transmitted"
abbrev pub carriers : List Deed → List Bool
carriers log = map (λ p. holds (λ s. carrier s (now log)) (on_air p log)) ports

-- for each connector its lamp's level now, in percent: 0 where there is no lamp
abbrev pub levels : List Deed → List ℕ
levels log = map (λ p. level (lamp_of p log) (now log)) ports

-- what a call is told, and each connector's carrier and level after it; so for a list of calls, the first of them first
pub record Said : Type 0 where
  pub answer : Answer
  pub carriers : List Bool
  pub levels : List ℕ

abbrev pub said : List Deed → List Call → List Said
said log [] = []
said log (call ∷ l) =
    record { answer = answer_of (judge log call); carriers = carriers (logged log call); levels = levels (logged log call) } ∷ said (logged log call) l
