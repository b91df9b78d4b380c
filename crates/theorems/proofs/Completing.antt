-- Each transmission that is left alone is followed by exactly one notice, over any number of waits.
use Prim.Native.Nat.{ℕ, suc, ◌+◌, ◌-◌, ◌%◌, ◌≤◌}
use mathlib.Core.Path.{◌≡◌, refl, sym, ap, ap₂, ◌∙◌, subst}
use mathlib.Core.Bool.{Bool, true, false, cond, not, ◌&&◌}
use mathlib.Core.List.{List, [], ◌∷◌, ◌++◌}
use mathlib.Core.Option.{Option, none, some}
use native.Mathlib.Omega.{arith}
use native.Mathlib.Nat.{add-zero}
use borrow.Author.Tests.{le-leb, leb-true, leb-false, eqb-true, eq-eqb, ne_eqb, not-true}
use lib.Dec.{ltb, leb, eqb}
use lib.ListN.{length}
use Rattle.laws.specs.Lists.{all, gathered}
use Rattle.laws.proofs.Choice.{clash, cond_case, by_test, not_both, and_left, and_right, same_test}
use Rattle.laws.proofs.Checks.{first_all}
use Rattle.words.specs.Decimal.{decimal}
use Rattle.words.specs.Places.{connectors, ports}
use Rattle.text.proofs.Decimals.{decimal_small}
use Rattle.meaning.specs.Line as text
use Rattle.meaning.specs.Time.{Transmission, complete, finish}
use Rattle.meaning.specs.Log.{Deed, passed, setting, switched, event, started, renewed, halted, left, now, last_of, owner_of, on_air}
use Rattle.meaning.specs.Table.{Completion, refused, taken, replied, Judged, refusal, error, does, Row, no, Call, line, overlong, reading, closing, waiting, answer_of, deeds_of, judge, logged, log_of, row_of, due_of, due, inserted, ordered, completions, set_ir, get_ir, setstate, getstate, sendir, stopir, set_led_lighting, get_led_lighting, request}
use Rattle.theorems.specs.Deeds.{Port, Did, nothing, changes, reads, lights, switches, starts, renews, halts, leaves, passes}
use Rattle.theorems.specs.Notices.{Notice, notice_of, is_for, notices_in, notices_of, notices, logged_all, touches, starts_on, LeftAlone, Unstarted}
use Rattle.theorems.proofs.Rows.{by_rows}
use Rattle.theorems.proofs.Deeds.{did}
use Rattle.theorems.proofs.Ports.{gathered_none, gathered_alone}
use Rattle.theorems.proofs.Times.{Begun, begun_later, complete_is, BegunBy, last_begun, on_air_is, none_later}

-- ---- only a wait tells completions

abbrev plain : Judged → Bool
plain (refusal n) = true
plain (error n m p) = true
plain (does (refused n) deeds) = true
plain (does (taken []) deeds) = true
plain (does (taken (x ∷ l)) deeds) = false
plain (does (replied words told) deeds) = true

abbrev plain_row : Row → Bool
plain_row r = all (λ k. plain k.gives) r.checks && plain r.otherwise

request_plain : (log : List Deed) (connection : ℕ) (s : List ℕ) → plain_row (request log connection s) ≡ true
unfolding set_ir get_ir setstate getstate sendir stopir set_led_lighting get_led_lighting
request_plain log connection s = by_rows log connection s (λ r. plain_row r ≡ true) (λ _ _. refl) refl refl refl refl refl refl refl refl refl

plain_tells : (p t : ℕ) (j : Judged) → plain j ≡ true → notices_of p t (answer_of j) ≡ []
plain_tells p t (refusal n) e = refl
plain_tells p t (error n m q) e = refl
plain_tells p t (does (refused n) deeds) e = refl
plain_tells p t (does (taken []) deeds) e = refl
plain_tells p t (does (taken (x ∷ l)) deeds) e = not_both e refl
plain_tells p t (does (replied words told) deeds) e = refl

-- ---- the notices for one connector among the completions of all
module _ (p t : ℕ) where
  notices_append : (a b : List Completion) → notices_in p t (a ++ b) ≡ notices_in p t a ++ notices_in p t b
  notices_append [] b = refl
  notices_append (x ∷ a) b = go (is_for p x) (record { moment = t + x.moment; words = x.notice }) (notices_append a b)
    where
      go : (v : Bool) (k : Notice) → notices_in p t (a ++ b) ≡ notices_in p t a ++ notices_in p t b
          → cond v (k ∷ notices_in p t (a ++ b)) (notices_in p t (a ++ b))
          ≡ cond v (k ∷ notices_in p t a) (notices_in p t a) ++ notices_in p t b
      go true k e = ap (λ (l : List Notice). k ∷ l) e
      go false k e = e

  other_inserted : (x : Completion) (l : List Completion) → is_for p x ≡ false → notices_in p t (inserted x l) ≡ notices_in p t l
  other_inserted x [] e = rw e
  other_inserted x (y ∷ l) e =
      cond_case (λ (m : List Completion). notices_in p t m ≡ notices_in p t (y ∷ l)) (ltb y.moment x.moment) (y ∷ inserted x l) (x ∷ y ∷ l)
      (λ _. ap (λ (k : List Notice). cond (is_for p y) (record { moment = t + y.moment; words = y.notice } ∷ k) k) (other_inserted x l e))
      (λ _. rw e)

  only_inserted : (x : Completion) (l : List Completion) → is_for p x ≡ true → notices_in p t l ≡ []
      → notices_in p t (inserted x l) ≡ notices_in p t (x ∷ [])
  only_inserted x [] e n = refl
  only_inserted x (y ∷ l) e n =
      by_test (is_for p y)
      (λ v. let z : suc (length (notices_in p t l)) ≡ 0 = ap length (rw v at n) in absurd (omega arith))
      (λ v.
      let m : notices_in p t l ≡ [] = rw v at n in
      cond_case (λ (k : List Completion). notices_in p t k ≡ notices_in p t (x ∷ [])) (ltb y.moment x.moment) (y ∷ inserted x l) (x ∷ y ∷ l)
      (λ _. rw v (only_inserted x l e m)) (λ _. rw (e, v, m)))

  -- where there is at most one for this connector, the order does not matter
  notices_ordered : (l : List Completion) → length (notices_in p t l) ≤ 1 → notices_in p t (ordered l) ≡ notices_in p t l
  notices_ordered [] h = refl
  notices_ordered (x ∷ l) h =
      by_test (is_for p x)
      (λ v.
      let k : notices_in p t l ≡ [] = empty (notices_in p t l) (omega (arith, rw v at h)) in
      only_inserted x (ordered l) v (notices_ordered l (rw k (omega arith)) ∙ k) ∙ rw (v, k))
      (λ v. other_inserted x (ordered l) v ∙ notices_ordered l (rw v at h) ∙ rw v)
    where
      empty : (k : List Notice) → suc (length k) ≤ 1 → k ≡ []
      empty [] h = refl
      empty (a ∷ k) h = absurd (omega arith)

-- ---- a wait, and one connector

-- the notice of a transmission on connector q is for q alone
is_for_law : (p q : ℕ) → Port connectors p → Port connectors q → (moment : ℕ) (owner : Option ℕ) (id : ℕ)
    → is_for p (record { moment = moment; owner = owner; notice = text.line "completeir," 1 q (decimal id) }) ≡ eqb q p
unfolding is_for
is_for_law p q a b moment owner id =
    rw (decimal_small 1 (omega arith), decimal_small p (omega (arith, a.most)), decimal_small q (omega (arith, b.most)))
    (same_test _ (eqb q p)
    (λ e. eq-eqb q p (let d = eqb-true (48 + q % 10) (48 + p % 10) (and_left _ _ e) in omega (arith, a.most, b.most)))
    (λ e. let d = eqb-true q p e in rw (d, eq-eqb (48 + p % 10) (48 + p % 10) refl)))

module _ (p : ℕ) (port : Port connectors p) (n : ℕ) (log : List Deed) where
  abbrev heard : ℕ → List Notice
  heard q = notices_in p (now log) (due n log q)

  others : (q : ℕ) → Port connectors q → (q ≡ p → ⊥) → heard q ≡ []
  others q a differs = go (on_air q log)
    where
      go : (o : Option Transmission) → notices_in p (now log) (due_of n (now log) q (owner_of q log) o) ≡ []
      go none = refl
      go (some s) =
          cond_case (λ (l : List Completion). notices_in p (now log) l ≡ []) (complete s (now log + n)) _ []
          (λ _. rw (is_for_law p q port a (finish s - now log) (owner_of q log) s.fields.id, ne_eqb q p differs)) (λ _. refl)

  at_most_one : (q : ℕ) → length (heard q) ≤ 1
  at_most_one q = go (on_air q log)
    where
      one : (x : Completion) → length (notices_in p (now log) (x ∷ [])) ≤ 1
      one x = cond_case (λ (l : List Notice). length l ≤ 1) (is_for p x) _ [] (λ _. omega arith) (λ _. omega arith)

      go : (o : Option Transmission) → length (notices_in p (now log) (due_of n (now log) q (owner_of q log) o)) ≤ 1
      go none = omega arith
      go (some s) =
          cond_case (λ (l : List Completion). length (notices_in p (now log) l) ≤ 1) (complete s (now log + n)) _ []
          (λ _. one _) (λ _. omega arith)

  by_port : (l : List ℕ) → notices_in p (now log) (gathered (due n log) l) ≡ gathered heard l
  by_port [] = refl
  by_port (q ∷ l) =
      notices_append p (now log) (due n log q) (gathered (due n log) l) ∙ ap (λ (k : List Notice). heard q ++ k) (by_port l)

  -- those for connector p among all that is due are what is due of it
  alone : notices_in p (now log) (gathered (due n log) ports) ≡ heard p
  alone =
      by_port ports
      ∙ gathered_alone heard p 1 connectors port.least (omega (arith, port.most))
      (λ q l m differs. others q (record { least = l; most = omega arith }) differs)

  -- and the order does not change them
  notices_wait : notices_in p (now log) (completions n log) ≡ heard p
  notices_wait = notices_ordered p (now log) (gathered (due n log) ports) (rw alone (at_most_one p)) ∙ alone

-- ---- what a call is to a connector: it tells no completion and no time passes, or it is a wait
data Way (log : List Deed) : Judged → Type 0 where
  stays : {j : Judged} → plain j ≡ true → now (deeds_of j ++ log) ≡ now log → Way log j
  waits : (n : ℕ) → Way log (does (taken (completions n log)) (passed n ∷ []))

did_now : (log : List Deed) (call : Call) → ((n : ℕ) → call ≡ waiting n → ⊥) → (ds : List Deed) → Did log call ds → now (ds ++ log) ≡ now log
did_now log call w ds nothing = refl
did_now log call w ds (changes r c word _ _ _ _ _) = refl
did_now log call w ds (reads r v _ _ _ _) = refl
did_now log call w ds (lights r c target ramp _ _ _ _ _ _) = refl
did_now log call w ds (switches r c v _ _ _) = refl
did_now log call w ds (starts r c f ps _ _ _ _ _) = refl
did_now log call w ds (renews r c s _ _ _ _ _) = refl
did_now log call w ds (halts r c _ _ _) = refl
did_now log call w ds (leaves c _ _) = refl
did_now log call w ds (passes n e _) = absurd (w n e)

way : (log : List Deed) (call : Call) → Way log (judge log call)
way log (line connection room s) =
    stays
    (first_all plain (row_of log (line connection room s)).checks (request log connection s).otherwise (request_plain log connection s))
    (did_now log (line connection room s) (λ n e. clash (cc)) _ (did log (line connection room s)))
way log (overlong connection room) =
    stays (first_all plain (row_of log (overlong connection room)).checks (no 15) refl)
    (did_now log (overlong connection room) (λ n e. clash (cc)) _ (did log (overlong connection room)))
way log (reading p value) =
    stays (first_all plain (row_of log (reading p value)).checks (row_of log (reading p value)).otherwise refl)
    (did_now log (reading p value) (λ n e. clash (cc)) _ (did log (reading p value)))
way log (closing connection) =
    stays (first_all plain (row_of log (closing connection)).checks (row_of log (closing connection)).otherwise refl)
    (did_now log (closing connection) (λ n e. clash (cc)) _ (did log (closing connection)))
way log (waiting n) =
    cond_case (Way log) (ltb 1000000000 n) (refusal 103) _ (λ _. stays refl refl) (λ _. waits n)

-- time never runs back
now_grows : (ds log : List Deed) → now log ≤ now (ds ++ log)
now_grows [] log = omega arith
now_grows (passed n ∷ ds) log = omega (arith, now_grows ds log)
now_grows (setting q x ∷ ds) log = now_grows ds log
now_grows (switched q x ∷ ds) log = now_grows ds log
now_grows (event x ∷ ds) log = now_grows ds log

now_grows_all : (log : List Deed) (l : List Call) → now log ≤ now (logged_all log l)
now_grows_all log [] = omega arith
now_grows_all log (call ∷ l) = omega (arith, now_grows (deeds_of (judge log call)) log, now_grows_all (logged log call) l)

-- deeds that do not touch a connector leave it what it had
pub untouched : (p : ℕ) (ds log : List Deed) → all (λ d. not (touches p d)) ds ≡ true → last_of p (ds ++ log) ≡ last_of p log
untouched p [] log e = refl
untouched p (passed n ∷ ds) log e = untouched p ds log e
untouched p (setting q x ∷ ds) log e = untouched p ds log e
untouched p (switched q x ∷ ds) log e = untouched p ds log e
untouched p (event (started q c f ps) ∷ ds) log e = rw (not-true (eqb q p) (and_left _ _ e)) (untouched p ds log (and_right (not (eqb q p)) _ e))
untouched p (event (renewed q) ∷ ds) log e = rw (not-true (eqb q p) (and_left _ _ e)) (untouched p ds log (and_right (not (eqb q p)) _ e))
untouched p (event (halted q) ∷ ds) log e = rw (not-true (eqb q p) (and_left _ _ e)) (untouched p ds log (and_right (not (eqb q p)) _ e))
untouched p (event (left c) ∷ ds) log e = untouched p ds log e

module _ (p : ℕ) (port : Port connectors p) (s : Transmission) where
  -- what is told over these calls, of a transmission that the log has: nothing if it is complete, else its notice if its end is reached
  abbrev Tells : List Deed → List Call → List Notice → Type 0
  Tells log l told = told ≡ cond (leb (finish s) (now log)) [] (cond (leb (finish s) (now (logged_all log l))) (notice_of p s ∷ []) [])

  own_due : (n : ℕ) (log : List Deed) → last_of p log ≡ some s → Begun s (now log)
      → heard p port n log p ≡ cond (leb (finish s) (now log)) [] (cond (leb (finish s) (now log + n)) (notice_of p s ∷ []) [])
  unfolding on_air
  own_due n log e b =
      rw (e, complete_is b)
      (by_test (leb (finish s) (now log))
      (λ t. rw t)
      (λ t. rw (t, complete_is {t = now log + n} (begun_later b (omega arith)))
      (by_test (leb (finish s) (now log + n))
      (λ u. rw (u, is_for_law p p port port (finish s - now log) (owner_of p log) s.fields.id, eq-eqb p p refl)
      (ap (λ (m : ℕ). record { moment = m; words = text.line "completeir," 1 p (decimal s.fields.id) } ∷ [])
      (omega (arith, leb-false (finish s) (now log) t))))
      (λ u. rw u))))

  step : (log : List Deed) (l : List Call) (j : Judged) → Way log j → last_of p log ≡ some s → Begun s (now log)
      → all (λ d. not (touches p d)) (deeds_of j) ≡ true
      → (last_of p (deeds_of j ++ log) ≡ some s → Begun s (now (deeds_of j ++ log)) → Tells (deeds_of j ++ log) l (notices p (deeds_of j ++ log) l))
      → notices_of p (now log) (answer_of j) ++ notices p (deeds_of j ++ log) l
      ≡ cond (leb (finish s) (now log)) [] (cond (leb (finish s) (now (logged_all (deeds_of j ++ log) l))) (notice_of p s ∷ []) [])
  step log l j (stays plain same) e b a ih =
      ap (λ (k : List Notice). k ++ notices p (deeds_of j ++ log) l) (plain_tells p (now log) j plain)
      ∙ ih (untouched p (deeds_of j) log a ∙ e) (rw same b)
      ∙ ap (λ (t : ℕ). cond (leb (finish s) t) [] (cond (leb (finish s) (now (logged_all (deeds_of j ++ log) l))) (notice_of p s ∷ []) [])) same
  step log l j (waits n) e b a ih =
      ap₂ (λ (x y : List Notice). x ++ y) (notices_wait p port n log ∙ own_due n log e b) (ih e (begun_later b (omega arith)))
      ∙ by_test (leb (finish s) (now log))
      (λ t. rw (t, le-leb (finish s) (now log + n) (omega (arith, leb-true (finish s) (now log) t))))
      (λ t. by_test (leb (finish s) (now log + n))
      (λ u.
      let before = leb-true (finish s) (now log + n) u in
      rw (t, u, le-leb (finish s) (now (logged_all (passed n ∷ log) l)) (omega (arith, now_grows_all (passed n ∷ log) l))))
      (λ u. rw (t, u)))

  tells : (log : List Deed) (l : List Call) → last_of p log ≡ some s → Begun s (now log) → LeftAlone p log l → Tells log l (notices p log l)
  tells log [] e b a = by_test (leb (finish s) (now log)) (λ t. rw t) (λ t. rw t)
  tells log (call ∷ l) e b a = step log l (judge log call) (way log call) e b a.0 (λ f c. tells (logged log call) l f c a.1)

-- After every history: a transmission on air that none of the later calls touches is followed by its one notice, at its moment, if the clock
-- gets there, and by none otherwise; over any number of waits
pub completes_exactly_once : (h : List Call) (p : ℕ) (s : Transmission) (l : List Call) → Port connectors p → on_air p (log_of h) ≡ some s
    → LeftAlone p (log_of h) l
    → notices p (log_of h) l ≡ cond (leb (finish s) (now (logged_all (log_of h) l))) (notice_of p s ∷ []) []
completes_exactly_once h p s l port e a =
    let air = on_air_is p (log_of h) s e in
    let b : Begun s (now (log_of h)) = subst (BegunBy (now (log_of h))) air.0 (last_begun h p) in
    let not_yet : leb (finish s) (now (log_of h)) ≡ false = sym (complete_is b) ∙ air.1 in
    tells p port s (log_of h) l air.0 b a ∙ rw not_yet

-- ---- and by no other, until a new start
silent_on : (h : List Call) (p : ℕ) (call : Call) (ds : List Deed) → Did (log_of h) call ds → on_air p (log_of h) ≡ none
    → all (λ d. not (starts_on p d)) ds ≡ true → on_air p (ds ++ log_of h) ≡ none
unfolding on_air
silent_on h p call ds nothing e a = e
silent_on h p call ds (changes r c word _ _ _ _ _) e a = e
silent_on h p call ds (reads r v _ _ _ _) e a = e
silent_on h p call ds (lights r c target ramp _ _ _ _ _ _) e a = e
silent_on h p call ds (switches r c v _ _ _) e a = e
silent_on h p call ds (starts r c f ps _ _ _ _ _) e a = rw (not-true (eqb r p) (and_left (not (eqb r p)) true a)) e
silent_on h p call ds (renews r c s _ _ _ air _) e a =
    by_test (eqb r p)
    (λ t. let same : r ≡ p = eqb-true r p t in let f : none ≡ some s = sym e ∙ ap (λ q. on_air q (log_of h)) (sym same) ∙ air in clash (cc))
    (λ t. rw t e)
silent_on h p call ds (halts r c _ _ _) e a = by_test (eqb r p) (λ t. rw t) (λ t. rw t e)
silent_on h p call ds (leaves c _ _) e a = e
silent_on h p call ds (passes n _ _) e a = none_later (now (log_of h)) n (last_of p (log_of h)) (last_begun h p) e

module _ (p : ℕ) (port : Port connectors p) where
  tells_none : (log : List Deed) (j : Judged) → Way log j → on_air p log ≡ none → notices_of p (now log) (answer_of j) ≡ []
  tells_none log j (stays plain same) e = plain_tells p (now log) j plain
  tells_none log j (waits n) e = notices_wait p port n log ∙ rw e

  -- where nothing is on air no notice follows, over any number of calls, until one starts a transmission
  pub complete_stays : (h l : List Call) → on_air p (log_of h) ≡ none → Unstarted p (log_of h) l → notices p (log_of h) l ≡ []
  complete_stays h [] e a = refl
  complete_stays h (call ∷ l) e a =
      ap₂ (λ (x y : List Notice). x ++ y) (tells_none (log_of h) (judge (log_of h) call) (way (log_of h) call) e)
      (complete_stays (call ∷ h) l (silent_on h p call _ (did (log_of h) call) e a.0) a.1)

-- "A wait of 0 changes nothing": it completes nothing either
pub wait_of_0_completes_nothing : (log : List Deed) → completions 0 log ≡ []
wait_of_0_completes_nothing log = ap ordered (gathered_none (due 0 log) 1 connectors (λ p _ _. nothing_due p))
  where
    go : (p : ℕ) (o : Option Transmission) → ((s : Transmission) → o ≡ some s → complete s (now log) ≡ false)
        → due_of 0 (now log) p (owner_of p log) o ≡ []
    go p none r = refl
    go p (some s) r = rw (add-zero (now log), r s refl)

    nothing_due : (p : ℕ) → due 0 log p ≡ []
    nothing_due p = go p (on_air p log) (λ s e. (on_air_is p log s e).1)
