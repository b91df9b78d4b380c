-- What each call may have done, read off its row.
use Prim.Native.Nat.{ℕ, ◌%◌, ◌≤◌}
use mathlib.Core.Path.{◌≡◌, refl, sym, ap}
use mathlib.Core.Bool.{Bool, true, false, cond, not, ◌&&◌, ◌||◌}
use mathlib.Core.List.{List, []}
use mathlib.Core.Logic.{inl, inr}
use mathlib.Core.Option.{Option, none, some}
use native.Mathlib.Omega.{arith}
use borrow.Author.Tests.{ltb-true, ltb-false, leb-true, eqb-true, eqb-false, not-true, not-false}
use lib.Dec.{ltb, leb, eqb}
use Rattle.laws.specs.Checks.{first, between}
use Rattle.laws.specs.Lists.{same, part, behind}
use Rattle.laws.proofs.Choice.{cond_case, not_both, and_left, and_right}
use Rattle.laws.proofs.Checks.{Through, through, past, none_of, some_of}
use Rattle.laws.proofs.Lists.{same_is, same_self}
use Rattle.words.specs.Places.{connectors, ports_of}
use Rattle.meaning.specs.Line.{is, number, within, code_in}
use Rattle.meaning.specs.Log.{Deed, is_owner, owner_of, on_air, mode_of}
use Rattle.meaning.specs.Table.{Judged, Row, Call, line, overlong, reading, closing, waiting, deeds_of, judge, set_ir, get_ir, setstate, getstate, sendir, stopir, set_led_lighting, get_led_lighting, request, field, row_of}
use Rattle.meaning.specs.Table as table
use Rattle.theorems.proofs.Codes.{code_pairs}
use Rattle.theorems.proofs.Rows.{by_rows, by_line}
use Rattle.theorems.proofs.Occasions.{within_between}
use Rattle.theorems.specs.Deeds.{Port, LineOf, ModeWord, ir, sensor, blaster, lighting, Limits, in_lighting, Did, nothing, changes, reads, lights, switches, starts, renews, halts, leaves, passes}

-- ---- what a test tells

pub between_is : (least most n : ℕ) → between least most n ≡ true → (least ≤ n) × (n ≤ most)
between_is least most n e =
    (leb-true least n (and_left (leb least n) (leb n most) e), leb-true n most (and_right (leb least n) (leb n most) e))

pub within_is : (least most : ℕ) (f : List ℕ) → not (within least most f) ≡ false → (least ≤ number f) × (number f ≤ most)
within_is least most f e = between_is least most (number f) (within_between least most f (not-false (within least most f) e))

pub owner_is : (connection : ℕ) (owner : Option ℕ) → is_owner connection owner ≡ true → owner ≡ some connection
owner_is connection none e = not_both e refl
owner_is connection (some c) e = ap some (eqb-true c connection e)

or_cases : {A : Type 0} (a b : Bool) → a || b ≡ true → (a ≡ true → A) → (b ≡ true → A) → A
or_cases true b e f g = f refl
or_cases false b e f g = g e

or_left : (a b : Bool) → a || b ≡ false → a ≡ false
or_left true b e = not_both refl e
or_left false b e = refl

or_right : (a b : Bool) → a || b ≡ false → b ≡ false
or_right true b e = not_both refl e
or_right false b e = e

is_odd : (n : ℕ) → eqb (n % 2) 0 ≡ false → n % 2 ≡ 1
is_odd n e = let h = eqb-false (n % 2) 0 e in omega arith

pub mode_of_law : (p : ℕ) (word : List ℕ) → not (is "IR" word || is "SENSOR" word || is "IR_BLASTER" word || is "LED_LIGHTING" word) ≡ false
    → (is "IR_BLASTER" word && not (eqb p 3)) ≡ false → ModeWord p word
mode_of_law p word e f =
    or_cases (is "IR" word || is "SENSOR" word || is "IR_BLASTER" word) (is "LED_LIGHTING" word) (not-false _ e)
    (λ a. or_cases (is "IR" word || is "SENSOR" word) (is "IR_BLASTER" word) a
    (λ b. or_cases (is "IR" word) (is "SENSOR" word) b (λ c. ir (sym (same_is _ word c))) (λ c. sensor (sym (same_is _ word c))))
    (λ b. blaster (sym (same_is _ word b)) (eqb-true p 3 (not-false (eqb p 3) (rw b at f)))))
    (λ a. lighting (sym (same_is _ word a)))

-- ---- the rows

module _ (log : List Deed) (call : Call) where
  abbrev Fits : Judged → Type 0
  Fits j = Did log call (deeds_of j)

  abbrev Meets : Row → Type 0
  Meets r = Through Fits r.checks r.otherwise

  by_row : (r : Row) → Meets r → Fits (first r.checks r.otherwise)
  by_row r m = through Fits r.checks r.otherwise m

module _ (log : List Deed) (connection room : ℕ) (text : List ℕ) (c : connection ≤ 7) where
  abbrev asks : Call
  asks = line connection room text

  abbrev p : ℕ
  p = table.p log connection text

  asked : LineOf connection asks
  asked = record { room = room; text = text; is = refl; most = c }

  abbrev m : ℕ
  m = table.m log connection text

  -- an address that the table lets pass has a port of its module
  pub port_of : (k : ℕ) → not (within k k (part 58 0 (field log connection text 1))) ≡ false
      → not (within 1 (ports_of m) (part 58 1 (field log connection text 1))) ≡ false → Port (ports_of k) p
  port_of k only port =
      let r = within_is k k (part 58 0 (field log connection text 1)) only in
      let is : m ≡ k = omega arith in
      let w = within_is 1 (ports_of m) (part 58 1 (field log connection text 1)) port in
      record { least = w.0; most = rw is at w.1 }

  set_ir_did : Meets log asks (set_ir log connection text)
  unfolding set_ir
  set_ir_did =
      past nothing (λ _. past nothing (λ only. past nothing (λ port. past nothing (λ mode.
      past nothing (λ third. past nothing (λ _. past nothing (λ air.
      let word = field log connection text 2 in
      cond_case (Did log asks) (same (mode_of p log) word) [] _
      (λ _. nothing)
      (λ other. changes p connection word asked (port_of 1 only port) (mode_of_law p word mode third)
      (λ e. not_both (rw e (same_self word)) other) (none_of (on_air p log) air)))))))))

  setstate_did : Meets log asks (setstate log connection text)
  unfolding setstate
  setstate_did =
      past nothing (λ _. past nothing (λ only. past nothing (λ port. past nothing (λ state. past nothing (λ _.
      switches p connection _ asked (port_of 2 only port) (within_is 0 1 (field log connection text 2) state).1)))))

  getstate_did : Meets log asks (getstate log connection text)
  unfolding getstate
  getstate_did =
      past nothing (λ _. past nothing (λ _. past nothing (λ _. past nothing (λ _.
      past nothing (λ _. past nothing (λ _. past nothing (λ _. nothing)))))))

  stopir_did : Meets log asks (stopir log connection text)
  unfolding stopir
  stopir_did =
      past nothing (λ _. past nothing (λ only. past nothing (λ port. past nothing (λ _. past nothing (λ mode.
      halts p connection asked (port_of 1 only port) mode)))))

  sendir_did : Meets log asks (sendir log connection text)
  unfolding sendir
  sendir_did =
      past nothing (λ _. past nothing (λ only. past nothing (λ port. past nothing (λ mode.
      past nothing (λ id. past nothing (λ freq. past nothing (λ repeat. past nothing (λ odd. past nothing (λ _. past nothing (λ offset.
      let limits : Limits _ (code_in _ _).pairs =
      record {
        id_most = (within_is 0 65535 (field log connection text 2) id).1;
        freq_least = (within_is 15000 500000 (field log connection text 3) freq).0;
        freq_most = (within_is 15000 500000 (field log connection text 3) freq).1;
        repeat_least = capped_least _ (within_is 1 999999 (field log connection text 4) repeat).0;
        repeat_most = capped_most (number (field log connection text 4));
        offset_least = (within_is 1 383 (field log connection text 5) (or_left _ _ odd)).0;
        offset_most = (within_is 1 383 (field log connection text 5) (or_left _ _ odd)).1;
        offset_odd = is_odd (number (field log connection text 5)) (or_right (not (within 1 383 (field log connection text 5))) _ odd);
        offset_within_law = ltb-true _ _ (not-false _ offset);
        pairs_most = (code_pairs (number (field log connection text 3)) (behind 44 6 text)).few;
        pairs_fit = (code_pairs (number (field log connection text 3)) (behind 44 6 text)).fit;
      } in (
        λ air. starts p connection _ _ asked (port_of 1 only port) mode limits (inl (none_of (on_air p log) (not-true _ air))),
        λ air.
            past nothing (λ own.
            let mine = owner_is connection (owner_of p log) (not-false _ own) in
            let running = some_of (on_air p log) (not-false _ air) in (
              λ _. renews p connection running.0 asked (port_of 1 only port) mode running.1 mine,
              λ _.
                  starts p connection _ _ asked (port_of 1 only port) mode limits (inr mine),
            )),
      )))))))))))
    where
      capped_least : (n : ℕ) → 1 ≤ n → 1 ≤ cond (ltb 20 n) 20 n
      capped_least n h = cond_case (λ (k : ℕ). 1 ≤ k) (ltb 20 n) 20 n (λ _. omega arith) (λ _. h)

      capped_most : (n : ℕ) → cond (ltb 20 n) 20 n ≤ 20
      capped_most n = cond_case (λ (k : ℕ). k ≤ 20) (ltb 20 n) 20 n (λ _. omega arith) (λ e. ltb-false 20 n e)

  set_led_lighting_did : Meets log asks (set_led_lighting log connection text)
  unfolding set_led_lighting
  set_led_lighting_did =
      past nothing (λ _. past nothing (λ only. past nothing (λ port. past nothing (λ e. past nothing (λ _.
      let target = within 1 100 (field log connection text 2) in
      let ramp = within 0 10 (field log connection text 3) in
      let both = not-false _ e in
      let front = and_left (target && ramp) (in_lighting p log) both in
      let range = between_is 1 100 _ (within_between 1 100 (field log connection text 2) (and_left target ramp front)) in
      lights p connection _ _ asked (port_of 1 only port) (and_right (target && ramp) (in_lighting p log) both) range.0 range.1
      (between_is 0 10 _ (within_between 0 10 (field log connection text 3) (and_right target ramp front))).1)))))

  request_did : Meets log asks (request log connection text)
  unfolding get_ir get_led_lighting
  request_did =
      by_rows log connection text (Meets log asks)
      (λ _ _. past nothing (λ _. nothing))
      set_ir_did
      (past nothing (λ _. past nothing (λ _. past nothing (λ _. past nothing (λ _. nothing)))))
      setstate_did
      getstate_did
      sendir_did
      stopir_did
      set_led_lighting_did
      (past nothing (λ _. past nothing (λ _. past nothing (λ _. past nothing (λ _. past nothing (λ _. nothing))))))
      nothing

-- a call over any log did nothing, or one of the deeds that `Did` lists
pub did : (log : List Deed) (call : Call) → Did log call (deeds_of (judge log call))
did log (line connection room text) =
    by_line log connection text (Fits log (line connection room text)) room nothing nothing nothing nothing
    (λ c. by_row log (line connection room text) (request log connection text) (request_did log connection room text c))
did log (overlong connection room) =
    let call = overlong connection room in
    by_row log call (row_of log call) (past nothing (λ _. past nothing (λ _. nothing)))
did log (reading q value) =
    let call = reading q value in
    by_row log call (row_of log call)
    (past nothing (λ e.
    let all = not-false _ e in
    let front = and_left (between 1 connectors q && is "SENSOR" (mode_of q log)) (between 0 1 value) all in
    let port = between_is 1 connectors q (and_left (between 1 connectors q) (is "SENSOR" (mode_of q log)) front) in
    let mode = and_right (between 1 connectors q) (is "SENSOR" (mode_of q log)) front in
    let small = (between_is 0 1 value (and_right (between 1 connectors q && is "SENSOR" (mode_of q log)) (between 0 1 value) all)).1 in
    reads q value refl (record { least = port.0; most = port.1 }) mode small))
did log (closing connection) =
    let call = closing connection in
    by_row log call (row_of log call) (past nothing (λ e. leaves connection refl (ltb-false 7 connection e)))
did log (waiting n) =
    let call = waiting n in
    by_row log call (row_of log call) (past nothing (λ e. passes n refl (ltb-false 1000000000 n e)))
