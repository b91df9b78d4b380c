-- A contact is answered with its last reading, and 028 where there is none; a relay with its last switching.
use Prim.Native.Nat.{ℕ, ◌≤◌, ◌<◌}
use mathlib.Core.Path.{◌≡◌, refl, sym, ap, ◌∙◌}
use mathlib.Core.Bool.{Bool, true, false, cond, not}
use mathlib.Core.List.{List, [], ◌∷◌, ◌++◌, append-nil, append_assoc}
use mathlib.Core.Option.{Option, none, some, get_or}
use native.Mathlib.Omega.{arith}
use borrow.Author.Tests.{le-ltb, eq-eqb, eqb-true, not-true}
use lib.Dec.{eqb}
use lib.ListN.{length}
use Rattle.laws.specs.Bytes.{bytes}
use Rattle.laws.specs.Checks.{first, is_some}
use Rattle.laws.specs.Lists.{all, cut}
use Rattle.laws.proofs.Choice.{clash, by_test, and_left, and_right}
use Rattle.laws.proofs.Checks.{through, past, first_all}
use Rattle.laws.proofs.Lists.{all_append}
use Rattle.words.specs.Decimal.{decimal}
use Rattle.words.specs.Places.{connectors, relays}
use Rattle.meaning.specs.Line as text
use Rattle.meaning.specs.Log.{Deed, passed, setting, switched, event, changed, felt, lit, mode_of, contact_of, relay_of}
use Rattle.meaning.specs.Table as table
use Rattle.meaning.specs.Table.{taken, replied, Judged, error, Row, row, no, reply, Call, line, overlong, reading, closing, waiting, answer_of, deeds_of, row_of, judge, logged, log_of, field, fixed, set_ir, get_ir, setstate, getstate, sendir, stopir, set_led_lighting, get_led_lighting, request}
use Rattle.theorems.specs.Deeds.{Port, in_sensor, Did, nothing, changes, reads, lights, switches, starts, renews, halts, leaves, passes}
use Rattle.theorems.specs.Contacts.{AsksState, is_setting, LastFelt, LastReading, is_switching, LastSwitched, never, last}
use Rattle.theorems.proofs.Rows.{by_rows, by_line}
use Rattle.theorems.proofs.Asked.{state_text, other, others, other_row, port_digit, state_is_asked_for}
use Rattle.theorems.proofs.Deeds.{did}

-- ---- what is answered
module _ (log : List Deed) (p connection room : ℕ) (s : List ℕ) where
  asked : (m : ℕ) → AsksState m p connection room s
      → judge log (line connection room s)
      ≡ cond (eqb m 2) (reply (text.line "state," 2 p (decimal (relay_of p log))) [])
      (cond (not (in_sensor p log)) (error 18 m p)
      (cond (not (is_some (contact_of p log))) (error 28 m p) (reply (text.line "state," 1 p (decimal (get_or (contact_of p log) 0))) [])))
  unfolding request getstate
  asked m a =
      rw (
        le-ltb 7 connection a.connection_most,
        le-ltb room 128 a.room_least,
        le-ltb 4096 (length s) a.size_most,
        a.printed,
        a.name,
        a.address,
        a.module_within,
        a.module_is_law,
        a.port_within,
        le-ltb 2 (length (cut 44 s)) a.ends,
        a.port_is_law,
      )

  -- 028 "getstate on an unread contact"
  pub no_reading_028 : AsksState 1 p connection room s → in_sensor p log ≡ true → contact_of p log ≡ none
      → judge log (line connection room s) ≡ error 28 1 p
  no_reading_028 a mode e = asked 1 a ∙ rw (mode, e)

  -- 018 "getstate on a connector not in SENSOR"
  pub no_sensor_018 : AsksState 1 p connection room s → in_sensor p log ≡ false → judge log (line connection room s) ≡ error 18 1 p
  no_sensor_018 a mode = asked 1 a ∙ rw mode

  -- "`state,1:p,s` with the last reading"
  pub last_reading_answered : (v : ℕ) → AsksState 1 p connection room s → in_sensor p log ≡ true → contact_of p log ≡ some v
      → judge log (line connection room s) ≡ reply (text.line "state," 1 p (decimal v)) []
  last_reading_answered v a mode e = asked 1 a ∙ rw (mode, e)

  pub last_setting_answered : AsksState 2 p connection room s
      → judge log (line connection room s) ≡ reply (text.line "state," 2 p (decimal (relay_of p log))) []
  last_setting_answered a = asked 2 a

-- ---- of a contact
module _ (log : List Deed) (p v : ℕ) (told : Option ℕ) (port : Port connectors p) (small : v ≤ 1) where
  record Known : Type 0 where
    sensor : in_sensor p log ≡ true
    read : contact_of p log ≡ some v
    alone : told ≡ none

  -- a row that has no such reply
  known_by_none : (r : Row) → other_row (bytes "state,1") r ≡ true
      → answer_of (first r.checks r.otherwise) ≡ replied (text.line "state," 1 p (decimal v)) told → Known
  unfolding decimal
  known_by_none r o e =
      others (bytes "state,1") _ told (first r.checks r.otherwise) refl
      (first_all (other (bytes "state,1")) r.checks r.otherwise o) e

  -- a getstate of p that is answered so
  line_known : (connection room : ℕ) (s : List ℕ)
      → answer_of (judge log (line connection room s)) ≡ replied (text.line "state," 1 p (decimal v)) told → Known
  unfolding decimal
  line_known connection room s e =
      let a = state_is_asked_for log p v told port small connection room s e in
      go (in_sensor p log) refl (contact_of p log) refl (ap answer_of (sym (asked log p connection room s 1 a)) ∙ e)
    where
      go : (t : Bool) → in_sensor p log ≡ t → (o : Option ℕ) → contact_of p log ≡ o
          → answer_of (cond (not t) (error 18 1 p) (cond (not (is_some o)) (error 28 1 p) (reply (text.line "state," 1 p (decimal (get_or o 0))) [])))
          ≡ replied (text.line "state," 1 p (decimal v)) told → Known
      go false m o c f = others (bytes "state,1") _ told (error 18 1 p) refl refl f
      go true m none c f = others (bytes "state,1") _ told (error 28 1 p) refl refl f
      go true m (some u) c f =
          let w : text.line "state," 1 p (decimal u) ≡ text.line "state," 1 p (decimal v) = cc in
          let t = state_text 1 p u p v (omega arith) (omega (arith, port.most)) (omega (arith, port.most)) (omega arith) w in
          let alone : told ≡ none = cc in
          record { sensor = m; read = c ∙ ap some t.1; alone = alone }

  call_known : (call : Call) → answer_of (judge log call) ≡ replied (text.line "state," 1 p (decimal v)) told → Known
  call_known (line connection room s) e = line_known connection room s e
  call_known (overlong connection room) e = known_by_none (row_of log (overlong connection room)) refl e
  call_known (reading q value) e = known_by_none (row_of log (reading q value)) refl e
  call_known (closing connection) e = known_by_none (row_of log (closing connection)) refl e
  call_known (waiting n) e = known_by_none (row_of log (waiting n)) refl e

  -- 0 or 1 is answered for a contact only in SENSOR and only with what its last reading was
  pub state_is_last_reading : (call : Call) → answer_of (judge log call) ≡ replied (text.line "state," 1 p (decimal v)) told
      → (in_sensor p log ≡ true) × (contact_of p log ≡ some v)
  state_is_last_reading call e =
      let k = call_known call e in
      (k.sensor, k.read)

  -- and nobody but the asker is told
  pub state_told_to_asker : (call : Call) → answer_of (judge log call) ≡ replied (text.line "state," 1 p (decimal v)) told → told ≡ none
  state_told_to_asker call e = (call_known call e).alone

-- ---- the same of a relay
module _ (log : List Deed) (p v : ℕ) (told : Option ℕ) (port : Port relays p) (small : v ≤ 1) where
  record FromRelay (j : Judged) : Type 0 where
    tells : answer_of j ≡ replied (text.line "state," 2 p (decimal v)) told → relay_of p (deeds_of j ++ log) ≡ v

  not_relay : (j : Judged) → other (bytes "state,2") j ≡ true → FromRelay j
  unfolding decimal
  not_relay j o = record { tells = λ e. others (bytes "state,2") _ told j refl o e }

  abbrev RowRelay : Row → Type 0
  RowRelay r = FromRelay (first r.checks r.otherwise)

  no_relay_row : (r : Row) → other_row (bytes "state,2") r ≡ true → RowRelay r
  no_relay_row r o = not_relay (first r.checks r.otherwise) (first_all (other (bytes "state,2")) r.checks r.otherwise o)

  relay_said : (q u : ℕ) → q < 10 → replied (text.line "state," 2 q (decimal u)) none ≡ replied (text.line "state," 2 p (decimal v)) told
      → (q ≡ p) × (u ≡ v)
  relay_said q u h e =
      let w : text.line "state," 2 q (decimal u) ≡ text.line "state," 2 p (decimal v) = cc in
      state_text 2 q u p v (omega arith) h (omega (arith, port.most)) (omega arith) w

  module _ (connection : ℕ) (s : List ℕ) where
    abbrev q : ℕ
    q = table.p log connection s

    getstate_relay : RowRelay (getstate log connection s)
    unfolding getstate decimal
    getstate_relay =
        through FromRelay (getstate log connection s).checks (getstate log connection s).otherwise
        (past (not_relay _ refl) (λ _. past (not_relay _ refl) (λ _. past (not_relay _ refl) (λ port. past (not_relay _ refl) (λ _.
        past (record { tells = λ e. let t = relay_said q (relay_of q log) (port_digit (table.m log connection s) _ port) e in rw t.0 at t.1 })
        (λ _. past (not_relay _ refl) (λ _. past (not_relay _ refl) (λ _. not_relay _ refl))))))))

    setstate_relay : RowRelay (setstate log connection s)
    unfolding setstate decimal
    setstate_relay =
        through FromRelay (setstate log connection s).checks (setstate log connection s).otherwise
        (past (not_relay _ refl) (λ _. past (not_relay _ refl) (λ _. past (not_relay _ refl) (λ port.
        past (not_relay _ refl) (λ _. past (not_relay _ refl) (λ _.
        record {
          tells =
              λ e. let t = relay_said q (text.number (field log connection s 2)) (port_digit (table.m log connection s) _ port) e in rw (eq-eqb q p t.0) t.1;
        }))))))

    request_relay : RowRelay (request log connection s)
    unfolding set_ir get_ir sendir stopir set_led_lighting get_led_lighting decimal
    request_relay =
        by_rows log connection s RowRelay
        (λ words apart. no_relay_row (fixed log connection s words) (rw apart.relay))
        (no_relay_row (set_ir log connection s) refl)
        (no_relay_row (get_ir log connection s) refl)
        setstate_relay
        getstate_relay
        (no_relay_row (sendir log connection s) refl)
        (no_relay_row (stopir log connection s) refl)
        (no_relay_row (set_led_lighting log connection s) refl)
        (no_relay_row (get_led_lighting log connection s) refl)
        (no_relay_row (row [] (no 1)) refl)

  call_relay : (call : Call) → FromRelay (judge log call)
  call_relay (line connection room s) =
      by_line log connection s FromRelay room (not_relay _ refl) (not_relay _ refl) (not_relay _ refl) (not_relay _ refl)
      (λ _. request_relay connection s)
  call_relay (overlong connection room) = no_relay_row (row_of log (overlong connection room)) refl
  call_relay (reading r value) = no_relay_row (row_of log (reading r value)) refl
  call_relay (closing connection) = no_relay_row (row_of log (closing connection)) refl
  call_relay (waiting n) = no_relay_row (row_of log (waiting n)) refl

  -- 0 or 1 is answered for a relay only with its last setting, that of the line itself or an earlier one
  pub relay_is_last_setting : (call : Call) → answer_of (judge log call) ≡ replied (text.line "state," 2 p (decimal v)) told
      → relay_of p (logged log call) ≡ v
  relay_is_last_setting call e = (call_relay call).tells e

-- ---- where the state of a contact comes from
module _ (p v : ℕ) where
  felt_later : (d : Deed) {log : List Deed} → is_setting p d ≡ false → LastFelt log p v → LastFelt (d ∷ log) p v
  felt_later d e l =
      record { later = d ∷ l.later; earlier = l.earlier; splits = ap (λ (k : List Deed). d ∷ k) l.splits; quiet = rw (e, l.quiet) }

  -- what is known of a contact was its last reading
  pub contact_is_last_felt : (log : List Deed) → contact_of p log ≡ some v → LastFelt log p v
  contact_is_last_felt [] e = clash (cc)
  contact_is_last_felt (passed n ∷ log) e = felt_later _ refl (contact_is_last_felt log e)
  contact_is_last_felt (setting q (changed word) ∷ log) e =
      by_test (eqb q p) (λ t. let f : none ≡ some v = rw t at e in clash (cc)) (λ t. felt_later _ t (contact_is_last_felt log (rw t at e)))
  contact_is_last_felt (setting q (felt u) ∷ log) e =
      by_test (eqb q p)
      (λ t.
      let f : some u ≡ some v = rw t at e in
      let g : q ≡ p = eqb-true q p t in
      let k : u ≡ v = cc in
      record { later = []; earlier = log; splits = rw (g, k); quiet = refl })
      (λ t. felt_later _ t (contact_is_last_felt log (rw t at e)))
  contact_is_last_felt (setting q (lit target ramp) ∷ log) e = felt_later _ refl (contact_is_last_felt log e)
  contact_is_last_felt (switched q state ∷ log) e = felt_later _ refl (contact_is_last_felt log e)
  contact_is_last_felt (event x ∷ log) e = felt_later _ refl (contact_is_last_felt log e)

  quiet_keeps : (ds log : List Deed) → all (λ d. not (is_setting p d)) ds ≡ true → contact_of p (ds ++ log) ≡ contact_of p log
  quiet_keeps [] log a = refl
  quiet_keeps (passed n ∷ ds) log a = quiet_keeps ds log a
  quiet_keeps (setting q (changed word) ∷ ds) log a =
      rw (not-true (eqb q p) (and_left _ _ a)) (quiet_keeps ds log (and_right (not (eqb q p)) _ a))
  quiet_keeps (setting q (felt u) ∷ ds) log a =
      rw (not-true (eqb q p) (and_left _ _ a)) (quiet_keeps ds log (and_right (not (eqb q p)) _ a))
  quiet_keeps (setting q (lit target ramp) ∷ ds) log a = quiet_keeps ds log a
  quiet_keeps (switched q state ∷ ds) log a = quiet_keeps ds log a
  quiet_keeps (event x ∷ ds) log a = quiet_keeps ds log a

  -- and the last reading is known
  pub last_felt_is_contact : (log : List Deed) → LastFelt log p v → contact_of p log ≡ some v
  last_felt_is_contact log l = rw l.splits (quiet_keeps l.later (setting p (felt v) ∷ l.earlier) l.quiet ∙ rw (eq-eqb p p refl))

  -- ---- over a history
  read_later : (call : Call) {h : List Call} (ds : List Deed) → log_of (call ∷ h) ≡ ds ++ log_of h → all (λ d. not (is_setting p d)) ds ≡ true
      → LastReading h p v → LastReading (call ∷ h) p v
  read_later call {h} ds e a l =
      record {
        later = call ∷ l.later;
        earlier = l.earlier;
        splits = ap (λ (k : List Call). call ∷ k) l.splits;
        taken = l.taken;
        small = l.small;
        since = ds ++ l.since;
        logs = e ∙ ap (λ (k : List Deed). ds ++ k) l.logs ∙ sym (append_assoc ds l.since _);
        quiet = all_append (λ d. not (is_setting p d)) ds l.since a l.quiet;
      }

  -- a contact is known only by a call that read it 0 or 1, and since then neither was it read again nor its mode changed
  pub reading_is_from_a_call : (h : List Call) → contact_of p (log_of h) ≡ some v → LastReading h p v
  reading_is_from_a_call [] e = clash (cc)
  reading_is_from_a_call (call ∷ h) e = go _ refl (did (log_of h) call) e (reading_is_from_a_call h)
    where
      go : (ds : List Deed) → deeds_of (judge (log_of h) call) ≡ ds → Did (log_of h) call ds → contact_of p (ds ++ log_of h) ≡ some v
          → (contact_of p (log_of h) ≡ some v → LastReading h p v) → LastReading (call ∷ h) p v
      go ds q nothing e ih = read_later call ds (rw q) refl (ih e)
      go ds q (changes r c word _ _ _ _ _) e ih =
          by_test (eqb r p)
          (λ t. let f : none ≡ some v = rw t at e in clash (cc)) (λ t. read_later call ds (rw q) (rw t) (ih (rw t at e)))
      go ds q (reads r u is _ _ small) e ih =
          by_test (eqb r p)
          (λ t.
          let f : some u ≡ some v = rw t at e in
          let g : r ≡ p = eqb-true r p t in
          let k : u ≡ v = cc in
          let l : call ≡ reading p v = cc in
          let d : deeds_of (judge (log_of h) call) ≡ setting p (felt v) ∷ [] = q ∙ rw (g, k) in
          record {
            later = [];
            earlier = h;
            splits = rw l;
            taken = ap (λ (k : Call). deeds_of (judge (log_of h) k)) (sym l) ∙ d;
            small = rw (← k) small;
            since = [];
            logs = ap (λ (k : List Deed). k ++ log_of h) d;
            quiet = refl;
          })
          (λ t. read_later call ds (rw q) (rw t) (ih (rw t at e)))
      go ds q (lights r c target ramp _ _ _ _ _ _) e ih = read_later call ds (rw q) refl (ih e)
      go ds q (switches r c u _ _ _) e ih = read_later call ds (rw q) refl (ih e)
      go ds q (starts r c f ps _ _ _ _ _) e ih = read_later call ds (rw q) refl (ih e)
      go ds q (renews r c s _ _ _ _ _) e ih = read_later call ds (rw q) refl (ih e)
      go ds q (halts r c _ _ _) e ih = read_later call ds (rw q) refl (ih e)
      go ds q (leaves c _ _) e ih = read_later call ds (rw q) refl (ih e)
      go ds q (passes n _ _) e ih = read_later call ds (rw q) refl (ih e)

  pub last_reading_is_known : (h : List Call) → LastReading h p v → contact_of p (log_of h) ≡ some v
  last_reading_is_known h l =
      last_felt_is_contact (log_of h) (record { later = l.since; earlier = log_of l.earlier; splits = l.logs; quiet = l.quiet })

-- ---- relays
relay_later : (p state : ℕ) (d : Deed) {log : List Deed} → is_switching p d ≡ false → LastSwitched log p state → LastSwitched (d ∷ log) p state
relay_later p state d e (never z a) = never z (rw (e, a))
relay_later p state d e (last later earlier splits a) = last (d ∷ later) earlier (ap (λ (k : List Deed). d ∷ k) splits) (rw (e, a))

-- a relay is as it was switched last, and 0 if it never was
pub relay_is_last_switched : (log : List Deed) (p : ℕ) → LastSwitched log p (relay_of p log)
relay_is_last_switched [] p = never refl refl
relay_is_last_switched (passed n ∷ log) p = relay_later p _ _ refl (relay_is_last_switched log p)
relay_is_last_switched (setting q x ∷ log) p = relay_later p _ _ refl (relay_is_last_switched log p)
relay_is_last_switched (switched q state ∷ log) p =
    by_test (eqb q p)
    (λ t. let g : q ≡ p = eqb-true q p t in rw t (last [] log (rw g) refl))
    (λ t. rw t (relay_later p _ _ t (relay_is_last_switched log p)))
relay_is_last_switched (event x ∷ log) p = relay_later p _ _ refl (relay_is_last_switched log p)

unswitched : (p : ℕ) (ds log : List Deed) → all (λ d. not (is_switching p d)) ds ≡ true → relay_of p (ds ++ log) ≡ relay_of p log
unswitched p [] log a = refl
unswitched p (passed n ∷ ds) log a = unswitched p ds log a
unswitched p (setting q x ∷ ds) log a = unswitched p ds log a
unswitched p (switched q state ∷ ds) log a =
    rw (not-true (eqb q p) (and_left _ _ a)) (unswitched p ds log (and_right (not (eqb q p)) _ a))
unswitched p (event x ∷ ds) log a = unswitched p ds log a

pub last_switched_is_relay : (log : List Deed) (p state : ℕ) → LastSwitched log p state → relay_of p log ≡ state
last_switched_is_relay log p state (never z a) = ap (relay_of p) (sym (append-nil log)) ∙ unswitched p log [] a ∙ sym z
last_switched_is_relay log p state (last later earlier splits a) =
    rw splits (unswitched p later (switched p state ∷ earlier) a ∙ rw (eq-eqb p p refl))

-- "a change of mode makes the contact unread", whatever call changed it
pub change_unread : (log : List Deed) (call : Call) (p : ℕ) → (mode_of p (logged log call) ≡ mode_of p log → ⊥)
    → contact_of p (logged log call) ≡ none
change_unread log call p differs = go (deeds_of (judge log call)) (did log call) differs
  where
    go : (ds : List Deed) → Did log call ds → (mode_of p (ds ++ log) ≡ mode_of p log → ⊥) → contact_of p (ds ++ log) ≡ none
    go ds nothing d = absurd (d refl)
    go ds (changes q _ word _ _ _ _ _) d = by_test (eqb q p) (λ t. rw t) (λ t. absurd (d (rw t)))
    go ds (reads q v _ _ _ _) d = absurd (d refl)
    go ds (lights q _ target ramp _ _ _ _ _ _) d = absurd (d refl)
    go ds (switches q _ state _ _ _) d = absurd (d refl)
    go ds (starts q _ f ps _ _ _ _ _) d = absurd (d refl)
    go ds (renews q _ s _ _ _ _ _) d = absurd (d refl)
    go ds (halts q _ _ _ _) d = absurd (d refl)
    go ds (leaves c _ _) d = absurd (d refl)
    go ds (passes n _ _) d = absurd (d refl)
