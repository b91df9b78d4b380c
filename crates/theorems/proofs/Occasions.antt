-- Each number has its one occasion: an error is given where the first check that holds says so, with a number and an address of the table.
use Prim.Native.Nat.{ℕ, ◌+◌, ◌-◌, ◌%◌, ◌<◌}
use mathlib.Core.Path.{◌≡◌, refl, sym, ap, ◌∙◌}
use mathlib.Core.Bool.{Bool, true, false, cond, not, ◌&&◌}
use mathlib.Core.List.{List, [], ◌∷◌, ◌++◌}
use mathlib.Core.Option.{Option, some, get_or}
use native.Mathlib.Omega.{arith}
use lib.Dec.{ltb, leb, eqb}
use lib.ListN.{length}
use borrow.Author.Tests.{leb-true, eqb-false, not-true, not-false, ltb-true}
use Rattle.laws.specs.Checks.{FirstThat, between, one_of, is_some}
use Rattle.laws.specs.Lists.{part, behind}
use Rattle.laws.proofs.Choice.{and_left, and_right, cond_case, not_both, between_most}
use Rattle.laws.proofs.Checks.{Through, through, some_of, first_that, that_first, one_of_all}
use Rattle.words.specs.Digits.{is_digit, worth}
use Rattle.words.specs.Decimal.{three_digits}
use Rattle.words.specs.Pairs.{pair}
use Rattle.words.specs.Places.{connectors, relays, ports_of}
use Rattle.words.specs.declared.Pair.{Pair}
use Rattle.text.proofs.Decimals.{decimal_small}
use Rattle.meaning.specs.Line.{number, is_number, within, is_address, is_count, is_letter, lettered, Reach, opening, on, off_due, off, spelling, Stride, stop, go, lettering, beginning, stride, Reading, faulty, sound, ended, after, reads, code_in}
use Rattle.meaning.specs.Log.{Deed}
use Rattle.meaning.specs.Table as table
use Rattle.meaning.specs.Table.{Answer, Judged, refusal, error, does, no, answer_of, Row, Call, line, overlong, reading, closing, waiting, row_of, judge}
use Rattle.theorems.specs.Occasion.{unaddressed, faults_of_code, addressed, unused, Listed, nowhere, connector, relay, says_error}
use Rattle.theorems.proofs.Rows.{by_rows}

-- ---- an error is judged exactly where the first check that holds gives it
pub occasion : (log : List Deed) (call : Call) (n m p : ℕ) → judge log call ≡ error n m p
    → FirstThat (row_of log call).checks (row_of log call).otherwise (error n m p)
occasion log call n m p e = rw e at (first_that (row_of log call).checks (row_of log call).otherwise)

pub occasion_judged : (log : List Deed) (call : Call) (n m p : ℕ)
    → FirstThat (row_of log call).checks (row_of log call).otherwise (error n m p) → judge log call ≡ error n m p
occasion_judged log call n m p t = that_first t

-- ---- the faults of a code
data Fine : Reading → Type 0 where
  has : {n : ℕ} → one_of faults_of_code n ≡ true → Fine (faulty n)
  has_none : {ps : List Pair} → Fine (sound ps)

data FineStride : Stride → Type 0 where
  stops : {n : ℕ} → one_of faults_of_code n ≡ true → FineStride (stop n)
  goes : {ps : List Pair} {reach : Reach} → FineStride (go ps reach)

after_fine : {x : Stride} (reads : List Pair → Reach → Reading) → FineStride x → ((ps : List Pair) (reach : Reach) → Fine (reads ps reach))
    → Fine (after x reads)
after_fine reads (stops e) g = has e
after_fine reads (goes {ps} {reach}) g = g ps reach

-- a choice of two strides, or of two readings
strides : (t : Bool) {x y : Stride} → FineStride x → FineStride y → FineStride (cond t x y)
strides t {x} {y} f g = cond_case FineStride t x y (λ e. f) (λ e. g)

fines : (t : Bool) {x y : Reading} → Fine x → Fine y → Fine (cond t x y)
fines t {x} {y} f g = cond_case Fine t x y (λ e. f) (λ e. g)

lettering_fine : (ps : List Pair) (b : ℕ) → FineStride (lettering ps b)
lettering_fine ps b =
    strides (leb 260 (length ps)) (stops refl) (strides (not (ltb (b - 65) (length (lettered ps)))) (stops refl) goes)

beginning_fine : (ps : List Pair) (b : ℕ) → FineStride (beginning ps b)
beginning_fine ps b = strides (not (is_digit b)) (stops refl) (strides (leb 260 (length ps)) (stops refl) goes)

stride_fine : (freq : ℕ) (ps : List Pair) (reach : Reach) (b : ℕ) → FineStride (stride freq ps reach b)
stride_fine freq ps opening b = strides (is_letter b) (lettering_fine ps b) (beginning_fine ps b)
stride_fine freq ps (on ds) b =
    strides (is_digit b) goes
    (strides (not (is_count freq ds)) (stops refl) (strides (is_letter b) (stops refl) (strides (eqb b 44) goes (stops refl))))
stride_fine freq ps (off_due n) b = strides (is_letter b) (stops refl) (strides (is_digit b) goes (stops refl))
stride_fine freq ps (off n ds) b =
    strides (is_digit b) goes
    (strides (not (is_count freq ds)) (stops refl)
    (strides (is_letter b) (lettering_fine (ps ++ (pair n (number ds) ∷ [])) b) (strides (eqb b 44) goes (stops refl))))
stride_fine freq ps spelling b = beginning_fine ps b

ended_fine : (freq : ℕ) (ps : List Pair) (reach : Reach) → Fine (ended freq ps reach)
ended_fine freq ps opening = fines (eqb (length ps) 0) (has refl) has_none
ended_fine freq ps (on ds) = fines (is_count freq ds) (has refl) (has refl)
ended_fine freq ps (off_due n) = has refl
ended_fine freq ps (off n ds) = fines (is_count freq ds) has_none (has refl)
ended_fine freq ps spelling = has refl

reads_fine : (freq : ℕ) (ps : List Pair) (reach : Reach) (text : List ℕ) → Fine (reads freq ps reach text)
reads_fine freq ps reach [] = ended_fine freq ps reach
reads_fine freq ps reach (b ∷ text) =
    after_fine (λ qs q. reads freq qs q text) (stride_fine freq ps reach b) (λ qs q. reads_fine freq qs q text)

fault_of : {r : Reading} → Fine r → (n : ℕ) → r.fault ≡ some n → one_of faults_of_code n ≡ true
fault_of (has {n = k} f) n e = let g : k ≡ n = cc in rw g at f
fault_of has_none n e = let z : ◌≡◌ {A = ℕ} 0 1 = cc in absurd (omega arith)

-- the fault of a code is one of its five
pub code_faults : (freq : ℕ) (text : List ℕ) (n : ℕ) → (code_in freq text).fault ≡ some n → one_of faults_of_code n ≡ true
unfolding code_in
code_faults freq text n e = fault_of (reads_fine freq [] opening text) n e

-- ---- every row: its errors are listed, its other replies do not begin with `E`
data Fits (call : Call) : Judged → Type 0 where
  refuses : {n : ℕ} → Fits call (refusal n)
  errs : {n m p : ℕ} → Listed call n m p → Fits call (error n m p)
  answers : {a : Answer} {deeds : List Deed} → says_error a ≡ false → Fits call (does a deeds)

record Fitting (call : Call) (r : Row) : Type 0 where
  each : Through (Fits call) r.checks r.otherwise

pub within_between : (least most : ℕ) (f : List ℕ) → within least most f ≡ true → between least most (number f) ≡ true
unfolding within
within_between least most f e = and_right (is_number f && leb (length f) 6) _ e

pub only : (n m : ℕ) → between n n m ≡ true → m ≡ n
only n m e = omega (arith, leb-true n m (and_left _ _ e), leb-true m n (and_right (leb n m) _ e))

module _ (log : List Deed) (connection room : ℕ) (s : List ℕ) where
  abbrev call : Call
  call = line connection room s

  abbrev field : ℕ → List ℕ
  field k = part 44 k s

  abbrev m : List ℕ
  m = part 58 0 (field 1)

  abbrev p : List ℕ
  p = part 58 1 (field 1)

  seventeen : Fits call (no 17)
  seventeen = errs (nowhere refl)

  -- what is left to show behind the address
  address_fits : (least most : ℕ) {T : Type 0} → (within least most m ≡ true → within 1 (ports_of (number m)) p ≡ true → T)
      → (not (is_address (field 1)) ≡ true → Fits call (no 17))
      × (not (is_address (field 1)) ≡ false
      → (not (within least most m) ≡ true → Fits call (no 2))
      × (not (within least most m) ≡ false
      → (not (within 1 (ports_of (number m)) p) ≡ true → Fits call (no 3)) × (not (within 1 (ports_of (number m)) p) ≡ false → T)))
  address_fits least most f =
      (λ e. seventeen, λ e. (λ e. errs (nowhere refl), λ em. (λ e. errs (nowhere refl), λ ep. f (not-false _ em) (not-false _ ep))))

  wrong_fits : {n : ℕ} → number m ≡ 1 → within 1 (ports_of (number m)) p ≡ true → one_of addressed n ≡ true → Fits call (table.wrong log connection s n)
  wrong_fits {n} em ep e =
      let l : Listed call n (number m) (number p) = rw em (connector e (em, refl) (within_between 1 connectors p (rw em at ep))) in
      errs l

  at_one : within 1 1 m ≡ true → number m ≡ 1
  at_one em = only 1 (number m) (within_between 1 1 m em)

  set_ir_fits : Fitting call (table.set_ir log connection s)
  unfolding table.set_ir
  set_ir_fits =
      record {
        each = address_fits 1 1 (λ em ep. (
          λ e. wrong_fits (at_one em) ep refl,
          λ e. (
            λ e. wrong_fits (at_one em) ep refl,
            λ e. (
              λ e. seventeen,
              λ e.
                  (λ e. wrong_fits (at_one em) ep refl, λ e. answers refl),
            ),
          ),
        ));
      }

  get_ir_fits : Fitting call (table.get_ir log connection s)
  unfolding table.get_ir
  get_ir_fits = record { each = address_fits 1 1 (λ em ep. (λ e. seventeen, λ e. answers refl)) }

  setstate_fits : Fitting call (table.setstate log connection s)
  unfolding table.setstate
  setstate_fits =
      record {
        each = address_fits 2 2 (λ em ep. (λ e. relay_fits em ep, λ e. (λ e. seventeen, λ e. answers refl)));
      }
    where
      relay_fits : within 2 2 m ≡ true → within 1 (ports_of (number m)) p ≡ true → Fits call (table.wrong log connection s 23)
      relay_fits em ep =
          let two = only 2 (number m) (within_between 2 2 m em) in
          let l : Listed call 23 (number m) (number p) = rw two (relay (two, refl) (within_between 1 relays p (rw two at ep))) in
          errs l

  getstate_fits : Fitting call (table.getstate log connection s)
  unfolding table.getstate
  getstate_fits =
      record {
        each = address_fits 1 2 (λ em ep. (
          λ e. seventeen,
          λ e. (
            λ e. answers refl,
            λ other. (
              λ e. wrong_fits (one em other) ep refl,
              λ e.
                  (λ e. wrong_fits (one em other) ep refl, λ e. answers refl),
            ),
          ),
        ));
      }
    where
      one : within 1 2 m ≡ true → eqb (number m) 2 ≡ false → number m ≡ 1
      one em other =
          let h = within_between 1 2 m em in
          let differs = eqb-false (number m) 2 other in
          omega (arith, leb-true 1 (number m) (and_left _ _ h), leb-true (number m) 2 (and_right (leb 1 (number m)) _ h))

  abbrev code_fault : Option ℕ
  code_fault = (code_in (number (field 3)) (behind 44 6 s)).fault

  fault_listed : is_some code_fault ≡ true → one_of addressed (get_or code_fault 0) ≡ true
  fault_listed e =
      let x = some_of code_fault e in
      rw x.1
      (one_of_all (one_of addressed) faults_of_code x.0 refl (code_faults (number (field 3)) (behind 44 6 s) x.0 x.1))

  sendir_fits : Fitting call (table.sendir log connection s)
  unfolding table.sendir
  sendir_fits =
      record {
        each = address_fits 1 1 (λ em ep. (
          λ e. wrong_fits (at_one em) ep refl,
          λ e. (
            λ e. wrong_fits (at_one em) ep refl,
            λ e. (
              λ e. wrong_fits (at_one em) ep refl,
              λ e. (
                λ e. wrong_fits (at_one em) ep refl,
                λ e. (
                  λ e. wrong_fits (at_one em) ep refl,
                  λ e. (
                    λ e. wrong_fits (at_one em) ep (fault_listed e),
                    λ e. (
                      λ e. wrong_fits (at_one em) ep refl,
                      λ e. (
                        λ e. answers refl,
                        λ e. (
                          λ e. answers refl,
                          λ e.
                              (λ e. answers refl, λ e. answers refl),
                        ),
                      ),
                    ),
                  ),
                ),
              ),
            ),
          ),
        ));
      }

  stopir_fits : Fitting call (table.stopir log connection s)
  unfolding table.stopir
  stopir_fits =
      record {
        each = address_fits 1 1 (λ em ep. (λ e. seventeen, λ e. (λ e. wrong_fits (at_one em) ep refl, λ e. answers refl)));
      }

  set_led_lighting_fits : Fitting call (table.set_led_lighting log connection s)
  unfolding table.set_led_lighting
  set_led_lighting_fits =
      record {
        each = address_fits 1 1 (λ em ep. (λ e. wrong_fits (at_one em) ep refl, λ e. (λ e. seventeen, λ e. answers refl)));
      }

  get_led_lighting_fits : Fitting call (table.get_led_lighting log connection s)
  unfolding table.get_led_lighting
  get_led_lighting_fits =
      record {
        each = address_fits 1 1 (λ em ep. (λ e. wrong_fits (at_one em) ep refl, λ e. (λ e. seventeen, λ e. answers refl)));
      }

  request_fits : Fitting call (table.request log connection s)
  request_fits =
      by_rows log connection s (Fitting call)
      (λ _ apart. record { each = (λ e. seventeen, λ e. answers apart.error) })
      set_ir_fits
      get_ir_fits
      setstate_fits
      getstate_fits
      sendir_fits
      stopir_fits
      set_led_lighting_fits
      get_led_lighting_fits
      (record { each = errs (nowhere refl) })

row_fits : (log : List Deed) (call : Call) → Fitting call (row_of log call)
row_fits log (line connection room s) =
    record {
      each = (
        λ e. refuses,
        λ e. (λ e. refuses, λ e. (λ e. errs (nowhere refl), λ e. (λ e. errs (nowhere refl), λ e. (request_fits log connection room s).each))),
      );
    }
row_fits log (overlong connection room) = record { each = (λ e. refuses, λ e. (λ e. refuses, λ e. errs (nowhere refl))) }
row_fits log (reading port value) = record { each = (λ e. refuses, λ e. answers refl) }
row_fits log (closing connection) = record { each = (λ e. refuses, λ e. answers refl) }
row_fits log (waiting n) = record { each = (λ e. refuses, λ e. answers refl) }

judge_fits : (log : List Deed) (call : Call) → Fits call (judge log call)
judge_fits log call = through (Fits call) (row_of log call).checks (row_of log call).otherwise (row_fits log call).each

-- ---- the theorems

-- an error has one of the table's twenty numbers: five with 0:0, the others with the address asked for
pub listed : (log : List Deed) (call : Call) (n m p : ℕ) → judge log call ≡ error n m p → Listed call n m p
listed log call n m p e = go (judge_fits log call) e
  where
    go : {j : Judged} → Fits call j → j ≡ error n m p → Listed call n m p
    go refuses f = let z : ◌≡◌ {A = ℕ} 0 1 = cc in absurd (omega arith)
    go (errs {n = k} {m = l} {p = q} h) f =
        let en : k ≡ n = cc in
        let em : l ≡ m = cc in
        let ep : q ≡ p = cc in
        rw (en, em, ep) at h
    go (answers h) f = let z : ◌≡◌ {A = ℕ} 0 1 = cc in absurd (omega arith)

number_of : {call : Call} {n m p : ℕ} → Listed call n m p → one_of (unaddressed ++ addressed) n ≡ true
number_of {n = n} (nowhere e) = one_of_all (one_of (unaddressed ++ addressed)) unaddressed n refl e
number_of {n = n} (connector e asks port) = one_of_all (one_of (unaddressed ++ addressed)) addressed n refl e
number_of (relay asks port) = refl

-- 0:0 stands exactly with the five
pub five_nowhere : {call : Call} {n m p : ℕ} → Listed call n m p → one_of unaddressed n ≡ true → (m ≡ 0) × (p ≡ 0)
five_nowhere (nowhere e) f = (refl, refl)
five_nowhere {n = n} (connector e asks port) f =
    not_both f (not-true _ (one_of_all (λ x. not (one_of unaddressed x)) addressed n refl e))
five_nowhere (relay asks port) f = not_both f refl

pub nowhere_five : {call : Call} {n m p : ℕ} → Listed call n m p → m ≡ 0 → one_of unaddressed n ≡ true
nowhere_five (nowhere e) z = e
nowhere_five (connector e asks port) z = absurd (omega arith)
nowhere_five (relay asks port) z = absurd (omega arith)

-- the other numbers of section 6 are never sent
pub never_sent : (log : List Deed) (call : Call) (n m p : ℕ) → judge log call ≡ error n m p → one_of unused n ≡ false
never_sent log call n m p e =
    not-true _ (one_of_all (λ x. not (one_of unused x)) (unaddressed ++ addressed) n refl (number_of (listed log call n m p e)))

-- a reply that begins with `E` is an error, and no other is
pub only_errors_say_so : (log : List Deed) (call : Call) → says_error (answer_of (judge log call)) ≡ true
    → (n : ℕ) × (m : ℕ) × (p : ℕ) × (judge log call ≡ error n m p)
only_errors_say_so log call e = go (judge_fits log call) e
  where
    go : {j : Judged} → Fits call j → says_error (answer_of j) ≡ true → (n : ℕ) × (m : ℕ) × (p : ℕ) × (j ≡ error n m p)
    go refuses f = not_both f refl
    go (errs {n = n} {m = m} {p = p} h) f = (n, m, p, refl)
    go (answers h) f = not_both f h

pub errors_say_so : (n m p : ℕ) → says_error (answer_of (error n m p)) ≡ true
errors_say_so n m p = refl

-- ---- the text of an error tells its number and its address

pub three_worth : (n : ℕ) → n < 1000 → worth 0 (three_digits n) ≡ n
three_worth n h = omega arith

pub three_digits_law : (n k : ℕ) → n < 1000 → k < 1000 → three_digits n ≡ three_digits k → n ≡ k
three_digits_law n k hn hk e = sym (three_worth n hn) ∙ ap (worth 0) e ∙ three_worth k hk

small_number : {call : Call} {n m p : ℕ} → Listed call n m p → n < 1000
small_number {n = n} l = ltb-true n 1000 (one_of_all (λ x. ltb x 1000) (unaddressed ++ addressed) n refl (number_of l))

small_address : {call : Call} {n m p : ℕ} → Listed call n m p → (m < 10) × (p < 10)
small_address (nowhere e) = (omega arith, omega arith)
small_address (connector {p = p} e asks port) = (omega arith, omega (arith, between_most 1 connectors p port))
small_address (relay {p = p} asks port) = (omega arith, omega (arith, between_most 1 relays p port))

pub error_tells : {one other : Call} {n m p k l q : ℕ} → Listed one n m p → Listed other k l q
    → answer_of (error n m p) ≡ answer_of (error k l q) → (n ≡ k) × (m ≡ l) × (p ≡ q)
error_tells {n = n} {m = m} {p = p} {k = k} {l = l} {q = q} x y e =
    let ax = small_address x in
    let ay = small_address y in
    let f = rw (decimal_small m ax.0, decimal_small p ax.1, decimal_small l ay.0, decimal_small q ay.1) at e in
    let em : 48 + m % 10 ≡ 48 + l % 10 = cc in
    let ep : 48 + p % 10 ≡ 48 + q % 10 = cc in
    let en : three_digits n ≡ three_digits k = cc in
    (three_digits_law n k (small_number x) (small_number y) en, omega arith, omega arith)
