-- The requests to a lamp, with anything behind their address: "Refusals: 017, 002 and 003 as before, then 023 for a bad target, bad ramp or a
-- connector not in this mode, then 017 for a surplus."
use Prim.Native.Nat.{ℕ, ◌<◌, ◌≤◌}
use Prim.Native.String.{String}
use mathlib.Core.Path.{◌≡◌, refl, ◌∙◌}
use mathlib.Core.Bool.{Bool, true, false, cond, not, ◌&&◌}
use mathlib.Core.List.{List, [], ◌∷◌, ◌++◌}
use mathlib.Core.Option.{Option}
use borrow.Author.Tests.{le-ltb, lt-ltb, eq-eqb, not-false}
use lib.Dec.{ltb}
use lib.ListN.{length, take}
use Rattle.laws.specs.Bytes.{bytes}
use Rattle.laws.specs.Checks.{first, between}
use Rattle.laws.specs.Lists.{same, cut, part}
use Rattle.laws.proofs.Choice.{and_right, and_false}
use Rattle.laws.proofs.Checks.{through, past, first_all}
use Rattle.words.specs.Places.{connectors}
use Rattle.meaning.specs.Line.{number, within}
use Rattle.meaning.specs.Lamp.{Lamp, turned}
use Rattle.meaning.specs.Log.{Deed, setting, lit, now, lamp_of}
use Rattle.meaning.specs.Table as table
use Rattle.meaning.specs.Table.{replied, Judged, refusal, error, Row, row, no, reply, Call, line, overlong, reading, closing, waiting, answer_of, deeds_of, row_of, judge, logged, field, fixed, set_ir, get_ir, setstate, getstate, sendir, stopir, set_led_lighting, get_led_lighting, request}
use Rattle.theorems.specs.Deeds.{in_lighting}
use Rattle.theorems.specs.Spelled.{lamp_line, lamp_told}
use Rattle.theorems.specs.Contacts.{AsksState}
use Rattle.theorems.specs.Lamps.{AsksLamp, LampShown}
use Rattle.theorems.proofs.Rows.{by_rows, by_line}
use Rattle.theorems.proofs.Occasions.{within_between, only}
use Rattle.theorems.proofs.Asked.{other, others, other_row}
use Rattle.theorems.proofs.Deeds.{port_of}
use Rattle.theorems.proofs.Words.{lamp_no_sensor}
use Rattle.theorems.proofs.Contacts.{no_sensor_018}

module _ (log : List Deed) (p connection room : ℕ) (s : List ℕ) where
  abbrev call : Call
  call = line connection room s

  abbrev judged : Judged
  judged = judge log call

  module_one : {name : String} → AsksLamp name p connection room s → number (part 58 0 (part 44 1 s)) ≡ 1
  module_one a = only 1 _ (within_between 1 1 (part 58 0 (part 44 1 s)) a.infrared)

  module _ (a : AsksLamp "get_LED_LIGHTING" p connection room s) where
    get_judged : judged ≡ lamp_told log p (ltb 2 (length (cut 44 s)))
    unfolding request get_led_lighting
    get_judged =
        rw (
          le-ltb 7 connection a.connection_most,
          le-ltb room 128 a.room_least,
          le-ltb 4096 (length s) a.size_most,
          a.printed,
          a.named,
          a.address,
          a.infrared,
          module_one a,
          a.port,
          a.asked,
        )

    -- "023 for .. a connector not in this mode", whatever stands behind
    pub get_no_lamp_023 : in_lighting p log ≡ false → judged ≡ error 23 1 p
    get_no_lamp_023 e =
        let c : lamp_told log p (ltb 2 (length (cut 44 s))) ≡ error 23 1 p = rw e in
        get_judged ∙ c

    -- "then 017 for a surplus"
    pub get_surplus_017 : in_lighting p log ≡ true → 2 < length (cut 44 s) → judged ≡ no 17
    get_surplus_017 e h =
        let c : lamp_told log p (ltb 2 (length (cut 44 s))) ≡ no 17 = rw (e, lt-ltb 2 (length (cut 44 s)) h) in
        get_judged ∙ c

    -- "get_LED_LIGHTING asks": nothing is done
    pub get_answered : in_lighting p log ≡ true → length (cut 44 s) ≤ 2 → judged ≡ reply (lamp_line log p (lamp_of p log)) []
    get_answered e h =
        let c : lamp_told log p (ltb 2 (length (cut 44 s))) ≡ reply (lamp_line log p (lamp_of p log)) [] = rw (e, le-ltb 2 (length (cut 44 s)) h) in
        get_judged ∙ c

  module _ (a : AsksLamp "set_LED_LIGHTING" p connection room s) where
    abbrev target : ℕ
    target = number (part 44 2 s)

    abbrev ramp : ℕ
    ramp = number (part 44 3 s)

    -- "a target of 1 to 100 and a ramp of 0 to 10"
    abbrev good : Bool
    good = within 1 100 (part 44 2 s) && within 0 10 (part 44 3 s)

    abbrev lamp : Lamp
    lamp = turned (lamp_of p log) target ramp (now log)

    set_judged : judged ≡ cond (not (good && in_lighting p log)) (error 23 1 p)
        (cond (ltb 4 (length (cut 44 s))) (no 17) (reply (lamp_line log p lamp) (setting p (lit target ramp) ∷ [])))
    unfolding request set_led_lighting
    set_judged =
        rw (
          le-ltb 7 connection a.connection_most,
          le-ltb room 128 a.room_least,
          le-ltb 4096 (length s) a.size_most,
          a.printed,
          a.named,
          a.address,
          a.infrared,
          module_one a,
          a.port,
          a.asked,
        )

    -- "023 for a bad target, bad ramp", whatever stands behind
    pub set_bad_023 : good ≡ false → judged ≡ error 23 1 p
    set_bad_023 e = set_judged ∙ rw e

    -- "or a connector not in this mode"
    pub set_no_lamp_023 : in_lighting p log ≡ false → judged ≡ error 23 1 p
    set_no_lamp_023 e = set_judged ∙ rw (e, and_false good)

    -- "then 017 for a surplus"
    pub set_surplus_017 : good ≡ true → in_lighting p log ≡ true → 4 < length (cut 44 s) → judged ≡ no 17
    set_surplus_017 g e h = set_judged ∙ rw (g, e, lt-ltb 4 (length (cut 44 s)) h)

    -- otherwise the lamp gets its target and its ramp
    pub set_answered : good ≡ true → in_lighting p log ≡ true → length (cut 44 s) ≤ 4
        → judged ≡ reply (lamp_line log p lamp) (setting p (lit target ramp) ∷ [])
    set_answered g e h = set_judged ∙ rw (g, e, le-ltb 4 (length (cut 44 s)) h)

-- ---- a lamp has no contact: 104 "contact reading for a port .. not in SENSOR", 018 "getstate on a connector not in SENSOR"
module _ (log : List Deed) (p : ℕ) (e : in_lighting p log ≡ true) where
  pub lamp_no_reading : (value : ℕ) → judge log (reading p value) ≡ refusal 104
  lamp_no_reading value = rw (lamp_no_sensor p log e, and_false (between 1 connectors p))

  pub lamp_no_state : (connection room : ℕ) (s : List ℕ) → AsksState 1 p connection room s → judge log (line connection room s) ≡ error 18 1 p
  lamp_no_state connection room s a = no_sensor_018 log p connection room s a (lamp_no_sensor p log e)

-- ---- "Both reply `LED_LIGHTING`, address, present level, target", and nothing else does
module _ (log : List Deed) (words : List ℕ) (told : Option ℕ) (begins : same (bytes "LED_LIGHTING,") (take 13 words) ≡ true) where
  record FromLamp (j : Judged) : Type 0 where
    tells : answer_of j ≡ replied words told → LampShown log (deeds_of j ++ log) words told

  not_lamp : (j : Judged) → other (bytes "LED_LIGHTING,") j ≡ true → FromLamp j
  not_lamp j o = record { tells = λ e. others (bytes "LED_LIGHTING,") words told j begins o e }

  abbrev RowLamp : Row → Type 0
  RowLamp r = FromLamp (first r.checks r.otherwise)

  no_lamp_row : (r : Row) → other_row (bytes "LED_LIGHTING,") r ≡ true → RowLamp r
  no_lamp_row r o = not_lamp (first r.checks r.otherwise) (first_all (other (bytes "LED_LIGHTING,")) r.checks r.otherwise o)

  module _ (connection room : ℕ) (s : List ℕ) (c : connection ≤ 7) where
    abbrev q : ℕ
    q = table.p log connection s

    get_lamp_law : RowLamp (get_led_lighting log connection s)
    unfolding get_led_lighting
    get_lamp_law =
        through FromLamp (get_led_lighting log connection s).checks (get_led_lighting log connection s).otherwise
        (past (not_lamp _ refl) (λ _. past (not_lamp _ refl) (λ only. past (not_lamp _ refl) (λ port. past (not_lamp _ refl) (λ mode.
        past (not_lamp _ refl) (λ _.
        record {
          tells = λ e. record {
            p = q;
            port = port_of log connection room s c 1 only port;
            lighting = not-false _ mode;
            shows = cc;
            alone = cc;
          };
        }))))))

    set_lamp_law : RowLamp (set_led_lighting log connection s)
    unfolding set_led_lighting
    set_lamp_law =
        through FromLamp (set_led_lighting log connection s).checks (set_led_lighting log connection s).otherwise
        (past (not_lamp _ refl) (λ _. past (not_lamp _ refl) (λ only. past (not_lamp _ refl) (λ port. past (not_lamp _ refl) (λ mode.
        past (not_lamp _ refl) (λ _.
        record {
          tells = λ e. record {
            p = q;
            port = port_of log connection room s c 1 only port;
            lighting = and_right (within 1 100 (field log connection s 2) && within 0 10 (field log connection s 3)) _ (not-false _ mode);
            shows = rw (eq-eqb q q refl) (cc);
            alone = cc;
          };
        }))))))

    request_lamp : RowLamp (request log connection s)
    unfolding set_ir get_ir setstate getstate sendir stopir
    request_lamp =
        by_rows log connection s RowLamp
        (λ words apart. no_lamp_row (fixed log connection s words) (rw apart.lamp))
        (no_lamp_row (set_ir log connection s) refl)
        (no_lamp_row (get_ir log connection s) refl)
        (no_lamp_row (setstate log connection s) refl)
        (no_lamp_row (getstate log connection s) refl)
        (no_lamp_row (sendir log connection s) refl)
        (no_lamp_row (stopir log connection s) refl)
        set_lamp_law
        get_lamp_law
        (no_lamp_row (row [] (no 1)) refl)

  call_lamp : (call : Call) → FromLamp (judge log call)
  call_lamp (line connection room s) =
      by_line log connection s FromLamp room (not_lamp _ refl) (not_lamp _ refl) (not_lamp _ refl) (not_lamp _ refl)
      (λ c. request_lamp connection room s c)
  call_lamp (overlong connection room) = no_lamp_row (row_of log (overlong connection room)) refl
  call_lamp (reading r value) = no_lamp_row (row_of log (reading r value)) refl
  call_lamp (closing connection) = no_lamp_row (row_of log (closing connection)) refl
  call_lamp (waiting n) = no_lamp_row (row_of log (waiting n)) refl

  -- a reply that begins so shows a lamp as it is after the call
  pub lamp_reply_is_present : (call : Call) → answer_of (judge log call) ≡ replied words told → LampShown log (logged log call) words told
  lamp_reply_is_present call e = (call_lamp call).tells e
