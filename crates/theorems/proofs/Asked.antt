-- No reply but a state has the text of one, and only a getstate of a contact is answered with its 0 or 1.
use Prim.Native.Nat.{ℕ, suc, ◌+◌, ◌%◌, ◌/◌, ◌≤◌, ◌<◌}
use mathlib.Core.Path.{◌≡◌, refl, sym, ap}
use mathlib.Core.Bool.{Bool, true, false, not, ◌&&◌}
use mathlib.Core.List.{List, [], ◌∷◌, ◌++◌}
use mathlib.Core.Option
use mathlib.Core.Option.{Option, none}
use native.Mathlib.Omega.{arith}
use borrow.Author.Tests.{ltb-true, ltb-false, eqb-false, not-true, not-false}
use lib.Dec.{ltb, eqb}
use lib.ListN.{length, take, drop, get_or, length-append}
use Rattle.laws.specs.Bytes.{bytes}
use Rattle.laws.specs.Checks.{first, between}
use Rattle.laws.specs.Lists.{all, same, cut, part}
use Rattle.laws.proofs.Choice.{clash, cond_case, by_test, not_both}
use Rattle.laws.proofs.Checks.{through, past, first_all}
use Rattle.laws.proofs.Lists.{same_is}
use Rattle.words.specs.Decimal.{decimal, decimal_in, three_digits}
use Rattle.words.specs.Places.{connectors, relays, ports_of}
use Rattle.text.proofs.Decimals.{decimal_small}
use Rattle.meaning.specs.Line as text
use Rattle.meaning.specs.Line.{is}
use Rattle.meaning.specs.Log.{Deed, contact_of}
use Rattle.meaning.specs.Table as table
use Rattle.meaning.specs.Table.{refused, taken, replied, Judged, refusal, error, does, Row, row, no, line, answer_of, judge, getdevices, getversion, set_ir, get_ir, setstate, getstate, sendir, stopir, set_led_lighting, get_led_lighting, request}
use Rattle.theorems.specs.Deeds.{Port}
use Rattle.theorems.specs.Contacts.{AsksState}
use Rattle.theorems.proofs.Deeds.{within_is}

-- ---- no other reply has the text of a state

-- a decimal of one digit
two_digits : (n : ℕ) → ltb n 10 ≡ false → 2 ≤ length (decimal n)
unfolding decimal
two_digits n e = rw (e, length-append) (omega (arith, some_digit 18 (n / 10)))
  where
    some_digit : (k m : ℕ) → 1 ≤ length (decimal_in (suc k) m)
    some_digit k m = cond_case (λ (l : List ℕ). 1 ≤ length l) (ltb m 10) _ _ (λ t. omega arith) (λ t. rw length-append (omega arith))

one_digit : (n v : ℕ) → v < 10 → decimal n ++ (13 ∷ []) ≡ (48 + v % 10) ∷ 13 ∷ [] → n ≡ v
one_digit n v h e =
    by_test (ltb n 10)
    (λ t.
    let f : 48 + n % 10 ≡ 48 + v % 10 = ap (λ (l : List ℕ). get_or l 0 0) (rw (decimal_small n (ltb-true n 10 t)) at e) in
    omega (arith, ltb-true n 10 t))
    (λ t. absurd (omega (arith, length-append (decimal n) (13 ∷ []), ap length e, two_digits n t)))

pub state_text : (m q u p v : ℕ) → m < 10 → q < 10 → p < 10 → v < 10
    → text.line "state," m q (decimal u) ≡ text.line "state," m p (decimal v) → (q ≡ p) × (u ≡ v)
state_text m q u p v hm hq hp hv e =
    let f = rw (decimal_small m hm, decimal_small q hq, decimal_small p hp, decimal_small v hv) at e in
    let a : 48 + q % 10 ≡ 48 + p % 10 = ap (λ (l : List ℕ). get_or l 8 0) f in
    (omega arith, one_digit u v hv (ap (drop 10) f))

-- no reply that begins so
abbrev pub other : List ℕ → Judged → Bool
other w (refusal n) = true
other w (error n m p) = not (same w (take (length w) (text.line "ERR_" m p (three_digits n))))
other w (does (refused n) deeds) = true
other w (does (taken l) deeds) = true
other w (does (replied words told) deeds) = not (same w (take (length w) words))

pub others : {A : Type 0} (w words : List ℕ) (told : Option ℕ) (j : Judged) → same w (take (length w) words) ≡ true → other w j ≡ true
    → answer_of j ≡ replied words told → A
others w words told (refusal n) s o e = clash (cc)
others w words told (error n m p) s o e =
    let f : text.line "ERR_" m p (three_digits n) ≡ words = cc in
    not_both s (not-true _ (rw f at o))
others w words told (does (refused n) deeds) s o e = clash (cc)
others w words told (does (taken l) deeds) s o e = clash (cc)
others w words told (does (replied text to) deeds) s o e =
    let f : text ≡ words = cc in
    not_both s (not-true _ (rw f at o))

abbrev pub other_row : List ℕ → Row → Bool
other_row w r = all (λ k. other w k.gives) r.checks && other w r.otherwise

-- the port of an address that the table lets pass has one digit
pub port_digit : (m : ℕ) (f : List ℕ) → not (text.within 1 (ports_of m) f) ≡ false → text.number f < 10
port_digit m f e =
    let few : ports_of m < 10 = cond_case (λ (n : ℕ). n < 10) (eqb m 1) connectors relays (λ _. omega arith) (λ _. omega arith) in
    omega (arith, (within_is 1 (ports_of m) f e).1)

-- ---- what asks for a contact's state
module _ (log : List Deed) (p v : ℕ) (told : Option ℕ) (port : Port connectors p) (small : v ≤ 1) (connection room : ℕ) (s : List ℕ) where
  record Asks (j : Judged) : Type 0 where
    asks : answer_of j ≡ replied (text.line "state," 1 p (decimal v)) told → AsksState 1 p connection room s

  -- of no other reply
  asks_other : (j : Judged) → other (bytes "state,1") j ≡ true → Asks j
  unfolding decimal
  asks_other j o = record { asks = λ e. others (bytes "state,1") _ told j refl o e }

  abbrev RowAsks : Row → Type 0
  RowAsks r = Asks (first r.checks r.otherwise)

  asks_other_row : (r : Row) → other_row (bytes "state,1") r ≡ true → RowAsks r
  asks_other_row r o = asks_other (first r.checks r.otherwise) (first_all (other (bytes "state,1")) r.checks r.otherwise o)

  module _ (known : connection ≤ 7) (enough : 128 ≤ room) (short : length s ≤ 4096) (printed : all (between 32 126) s ≡ true)
      (name : part 44 0 s ≡ bytes "getstate") where
    abbrev m : ℕ
    m = table.m log connection s

    abbrev q : ℕ
    q = table.p log connection s

    asked_so : not (text.is_address (part 44 1 s)) ≡ false → not (text.within 1 2 (part 58 0 (part 44 1 s))) ≡ false
        → not (text.within 1 (ports_of m) (part 58 1 (part 44 1 s))) ≡ false → ltb 2 (length (cut 44 s)) ≡ false → eqb m 2 ≡ false
        → replied (text.line "state," 1 q (decimal (Option.get_or (contact_of q log) 0))) none ≡ replied (text.line "state," 1 p (decimal v)) told
        → AsksState 1 p connection room s
    asked_so address module-taken port-taken ends contact e =
        let range = within_is 1 2 (part 58 0 (part 44 1 s)) module-taken in
        let differs = eqb-false m 2 contact in
        let one : m ≡ 1 = omega (arith, range.0, range.1) in
        let known_as = Option.get_or (contact_of q log) 0 in
        let w : text.line "state," 1 q (decimal known_as) ≡ text.line "state," 1 p (decimal v) = cc in
        let t = state_text 1 q known_as p v (omega arith) (port_digit m _ port-taken) (omega (arith, port.most)) (omega arith) w in
        record {
          connection_most = known;
          room_least = enough;
          size_most = short;
          printed = printed;
          name = name;
          address = not-false _ address;
          module_within = not-false _ module-taken;
          module_is_law = one;
          port_within = rw one at (not-false (text.within 1 (ports_of m) (part 58 1 (part 44 1 s))) port-taken);
          port_is_law = t.0;
          ends = ltb-false 2 (length (cut 44 s)) ends;
        }

    getstate_asks : RowAsks (getstate log connection s)
    unfolding getstate decimal
    getstate_asks =
        through Asks (getstate log connection s).checks (getstate log connection s).otherwise
        (past (asks_other _ refl) (λ address. past (asks_other _ refl) (λ module-taken. past (asks_other _ refl) (λ port-taken.
        past (asks_other _ refl) (λ ends. past (asks_other _ refl) (λ contact. past (asks_other _ refl) (λ _. past (asks_other _ refl) (λ _.
        record { asks = asked_so address module-taken port-taken ends contact }))))))))

  call_asks : Asks (judge log (line connection room s))
  unfolding request set_ir get_ir setstate sendir stopir set_led_lighting get_led_lighting decimal
  call_asks =
      cond_case Asks (ltb 7 connection) _ _ (λ _. asks_other _ refl) λ a.
      cond_case Asks (ltb room 128) _ _ (λ _. asks_other _ refl) λ b.
      cond_case Asks (ltb 4096 (length s)) _ _ (λ _. asks_other _ refl) λ c.
      cond_case Asks (not (all (between 32 126) s)) _ _ (λ _. asks_other _ refl) λ d.
      let name = part 44 0 s in
      cond_case RowAsks (is "getdevices" name) _ _ (λ _. asks_other_row (getdevices log connection s) refl) λ _.
      cond_case RowAsks (is "getversion" name) _ _ (λ _. asks_other_row (getversion log connection s) refl) λ _.
      cond_case RowAsks (is "set_IR" name) _ _ (λ _. asks_other_row (set_ir log connection s) refl) λ _.
      cond_case RowAsks (is "get_IR" name) _ _ (λ _. asks_other_row (get_ir log connection s) refl) λ _.
      cond_case RowAsks (is "setstate" name) _ _ (λ _. asks_other_row (setstate log connection s) refl) λ _.
      cond_case RowAsks (is "getstate" name) _ _
      (λ e.
      getstate_asks (ltb-false 7 connection a) (ltb-false room 128 b) (ltb-false 4096 (length s) c) (not-false _ d)
      (sym (same_is (bytes "getstate") name e))) λ _.
      cond_case RowAsks (is "sendir" name) _ _ (λ _. asks_other_row (sendir log connection s) refl) λ _.
      cond_case RowAsks (is "stopir" name) _ _ (λ _. asks_other_row (stopir log connection s) refl) λ _.
      cond_case RowAsks (is "set_LED_LIGHTING" name) _ _ (λ _. asks_other_row (set_led_lighting log connection s) refl) λ _.
      cond_case RowAsks (is "get_LED_LIGHTING" name) _ _ (λ _. asks_other_row (get_led_lighting log connection s) refl)
      (λ _. asks_other_row (row [] (no 1)) refl)

  -- a line that is answered so is a getstate of that contact
  pub state_is_asked_for : answer_of (judge log (line connection room s)) ≡ replied (text.line "state," 1 p (decimal v)) told
      → AsksState 1 p connection room s
  state_is_asked_for = call_asks.asks
