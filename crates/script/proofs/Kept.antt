-- Of a line of the script the first 4,108 bytes are enough: where there are more, it is done as the whole line is.
use Prim.Native.Nat.{ℕ, zero, suc, ◌≤◌, ◌<◌}
use mathlib.Core.Path.{◌≡◌, refl, sym, ap, ◌∙◌}
use mathlib.Core.Bool.{true, false, cond}
use mathlib.Core.List.{List, [], ◌∷◌}
use native.Mathlib.Omega.{arith}
use borrow.Author.Tests.{lt-ltb, eqb-true, eqb-false, leb-true, leb-false}
use lib.Dec.{ltb, leb, eqb}
use lib.ListN.{length, take, drop, get_or, length-drop, length-append}
use lib.Seq.{take_all, length-take-le}
use Rattle.laws.specs.Checks.{between}
use Rattle.laws.specs.Lists.{all, behind}
use Rattle.laws.proofs.Choice.{by_test, and_left, and_false, between_most}
use Rattle.laws.proofs.Cutting.{up_to}
use Rattle.words.specs.Digits.{is_digit, worth}
use Rattle.request.specs.Request.{read_request}
use Rattle.hub.specs.declared.Hub.{Hub}
use Rattle.hub.specs.Line.{leaving, line_step, overlong_step}
use Rattle.script.specs.declared.input.Input.TheVariants.{Other, Line}
use Rattle.script.specs.Input.{is_number, input_of, reading_in, call_in}
use Rattle.script.specs.Turn.{line_outcome, after_line, done}
use Rattle.script.proofs.Figures.{too_many}
use Rattle.script.proofs.Inputs.{a_line, long_word, a_call, two_first, two_last}
use Rattle.script.proofs.Parting.{parted}

up_to_front : (c n : ℕ) (s : List ℕ) → up_to c (take n s) ≡ take n (up_to c s)
up_to_front c zero s = refl
up_to_front c (suc n) [] = refl
up_to_front c (suc n) (b ∷ s) = by_test (eqb b c) (λ e. rw e) (λ e. rw e (ap (λ (l : List ℕ). b ∷ l) (up_to_front c n s)))

number_few : (w : List ℕ) → is_number w ≡ true → length w ≤ 10
unfolding is_number
number_few w e = between_most 1 10 (length w) (and_left (between 1 10 (length w)) (all is_digit w) e)

-- ---- a line too long for anything but a request
long_reading : (s : List ℕ) → 22 ≤ length s → reading_in s ≡ Other
long_reading s h =
    by_test (is_number (up_to 32 s))
    (λ e.
    let few = number_few (up_to 32 s) e in
    let l = ap length (parted 32 s (omega arith)) ∙ length-append (up_to 32 s) (32 ∷ behind 32 1 s) in
    two_last s (too_many (behind 32 1 s) (omega arith)))
    (λ e. two_first s e)

long_call : (x : ℕ) (s : List ℕ) → 22 ≤ length s → call_in x s ≡ Other
long_call x s h =
    rw (too_many s (omega arith), long_reading s h) (simp and_false (by_test (eqb x 114) (λ e. rw e) (λ e. rw e)))

long_input : (s : List ℕ) → 24 ≤ length s
    → input_of s ≡ cond (is_number (up_to 32 s)) (Line (worth 0 (up_to 32 s)) (suc (length (up_to 32 s)))) Other
long_input s h =
    by_test (is_number (up_to 32 s))
    (λ e. rw e (a_line s (omega (arith, number_few (up_to 32 s) e)) e))
    (λ e. rw e
    (by_test (eqb (length (up_to 32 s)) 1)
    (λ one.
    let n = eqb-true (length (up_to 32 s)) 1 one in
    a_call s (omega arith) e n ∙ long_call (get_or s 0 0) (drop 2 s) (omega (arith, length-drop 2 s)))
    (λ more. long_word s e (eqb-false (length (up_to 32 s)) 1 more))))

-- ---- its first bytes ask for the same
same_input : (s : List ℕ) → 4108 < length s → input_of (take 4108 s) ≡ input_of s
same_input s h =
    let u = up_to 32 s in
    let l : length (take 4108 s) ≡ 4108 = length-take-le 4108 s (omega arith) in
    let f : input_of (take 4108 s) ≡ cond (is_number (take 4108 u)) (Line (worth 0 (take 4108 u)) (suc (length (take 4108 u)))) Other =
    rw (up_to_front 32 4108 s) at (long_input (take 4108 s) (omega arith)) in
    by_test (leb (length u) 4108)
    (λ e. f ∙ rw (take_all 4108 u (leb-true (length u) 4108 e)) (sym (long_input s (omega arith))))
    (λ e.
    let more = leb-false (length u) 4108 e in
    let k : length (take 4108 u) ≡ 4108 = length-take-le 4108 u (omega arith) in
    f ∙ rw (too_many (take 4108 u) (omega arith)) (sym (long_input s (omega arith) ∙ rw (too_many u (omega arith)))))

-- ---- an overlong request
overlong_line : (h : Hub) (store : List ℕ) (connection : ℕ) (text : List ℕ) → 4096 < length text
    → leaving (overlong_step connection 128) store ≡ line_step h store connection text 128
unfolding line_step overlong_step read_request
overlong_line h store connection text long =
    rw (lt-ltb 4096 (length text) long) (by_test (ltb 7 connection) (λ e. rw e) (λ e. rw e))

pub kept_enough : (hub : Hub) (store line : List ℕ) → 4108 < length line → done hub store (take 4108 line) true ≡ done hub store line false
unfolding done line_outcome
kept_enough hub store line h =
    let u = up_to 32 line in
    let e = long_input line (omega arith) in
    by_test (is_number u)
    (λ n.
    let is : input_of line ≡ Line (worth 0 u) (suc (length u)) = e ∙ rw n in
    rw (same_input line h, is)
    (ap (after_line hub (worth 0 u))
    (overlong_line hub store (worth 0 u) (drop (suc (length u)) line) (omega (arith, length-drop (suc (length u)) line, number_few u n)))))
    (λ n. let is : input_of line ≡ Other = e ∙ rw n in rw (same_input line h, is))
