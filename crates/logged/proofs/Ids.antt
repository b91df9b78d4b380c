-- A sendir with any id to any connector: its completion is told to its owner, and it is busy for another connection.
use Prim.Native.Nat.{ℕ, zero, suc, ◌≤◌}
use mathlib.Core.Path.{◌≡◌, refl, ap, ◌∙◌}
use mathlib.Core.Bool.{true}
use mathlib.Core.List.{List, [], ◌∷◌, ◌++◌}
use mathlib.Core.Option.{some}
use native.Mathlib.Omega.{arith}
use borrow.Author.Tests.{eq-eqb}
use lib.ListN.{length-append}
use Rattle.laws.specs.Bytes.{bytes}
use Rattle.laws.specs.Checks.{between}
use Rattle.laws.proofs.Choice.{not_both, between_least, between_most}
use Rattle.words.specs.Digits.{Spells}
use Rattle.words.specs.Decimal.{decimal}
use Rattle.words.specs.Pairs.{pair}
use Rattle.words.specs.Places.{connectors}
use Rattle.words.specs.declared.Pair.{Pair}
use Rattle.words.specs.declared.Fields.{Fields}
use Rattle.text.proofs.Decimals.{decimal_few, decimal_spells}
use Rattle.request.specs.Place.{place_of}
use Rattle.meaning.specs.Line as text
use Rattle.meaning.specs.Line.{is_number, within, is_count, code_in}
use Rattle.meaning.specs.Time as time
use Rattle.meaning.specs.Time.{total, done, complete, first_micro, finish}
use Rattle.meaning.specs.Log.{Deed, passed, event, started, on_air}
use Rattle.meaning.specs.Table.{Completion, taken, Judged, does, answer_of, deeds_of, Call, line, waiting, judge, said, completions}
use Rattle.theorems.specs.Spelled.{fields, at, Heard, command, IsSendir}
use Rattle.theorems.proofs.Spelled.{sendir_spelled}
use Rattle.theorems.proofs.Commands.{idle_starts, others_busy}
use Rattle.theorems.proofs.Owners.{sender_owns}
use Rattle.logger.specs.declared.Heard.TheVariants.{Complete, Busy}
use Rattle.logger.specs.Heard.{line_of}
use Rattle.logged.specs.Written.{written_by, written_to, Writes}
use Rattle.logged.proofs.Said.{with_last}
use Rattle.logged.proofs.Texts.{alone_written}

-- what holds of the three ports holds of each
pub each_port : (P : ℕ → Type 0) → P 1 → P 2 → P 3 → (p : ℕ) → between 1 connectors p ≡ true → P p
each_port P a b c zero e = not_both e refl
each_port P a b c (suc zero) e = a
each_port P a b c (suc (suc zero)) e = b
each_port P a b c (suc (suc (suc zero))) e = c
each_port P a b c (suc (suc (suc (suc n)))) e = absurd (omega (arith, between_most 1 connectors (suc (suc (suc (suc n)))) e))

-- what calls write, by how the first is judged
pub next_call : (connection : ℕ) (log : List Deed) (a : Call) (l : List Call) (j : Judged) → judge log a ≡ j
    → written_to connection (a ∷ l) (said log (a ∷ l)) ≡ written_by connection a (answer_of j) ++ written_to connection l (said (deeds_of j ++ log) l)
next_call connection log a l j e = ap (λ (x : Judged). written_by connection a (answer_of x) ++ written_to connection l (said (deeds_of x ++ log) l)) e

-- and what two calls write
two_calls : (connection : ℕ) (a b : Call) (j k : Judged) → judge [] a ≡ j → judge (deeds_of j ++ []) b ≡ k
    → written_to connection (a ∷ b ∷ []) (said [] (a ∷ b ∷ [])) ≡ written_by connection a (answer_of j) ++ (written_by connection b (answer_of k) ++ [])
two_calls connection a b j k e f =
    next_call connection [] a (b ∷ []) j e
    ∙ ap (λ (l : List (List ℕ)). written_by connection a (answer_of j) ++ l) (next_call connection (deeds_of j ++ []) b [] k f)

-- ---- the line, with one pair

abbrev send_line : ℕ → ℕ → List ℕ
send_line p id = fields (bytes "sendir" ∷ at (bytes "1") (decimal p) ∷ decimal id ∷ bytes "40000" ∷ bytes "1" ∷ bytes "1" ∷ bytes "4,4" ∷ [])

abbrev sent : ℕ → Fields
sent id = command id 40000 1 1

abbrev pairs : List Pair
pairs = pair 4 4 ∷ []

abbrev logged : ℕ → ℕ → List Deed
logged p id = event (started p 0 (sent id) pairs) ∷ []

pub one : Spells (bytes "1") 1
one = record { some = omega arith; few = omega arith; decimal = refl; value = refl }

frequency : Spells (bytes "40000") 40000
frequency = record { some = omega arith; few = omega arith; decimal = refl; value = refl }

pub heard : (connection : ℕ) → connection ≤ 1 → Heard connection 128
heard connection h = record { known = omega arith; enough = omega arith }

module _ (p : ℕ) (port : between 1 connectors p ≡ true) where
  is_sendir : (id : ℕ) → id ≤ 65535 → IsSendir (send_line p id) p (sent id) pairs
  unfolding is_number within is_count code_in
  is_sendir id small =
      let most = between_most 1 connectors p port in
      sendir_spelled (decimal_spells id (omega arith)) frequency one one
      (record {
        most_id = small;
        least_freq = omega arith;
        most_freq = omega arith;
        least_repeat = omega arith;
        most_repeat = omega arith;
        odd = refl;
        most_offset = omega arith;
        inside = omega arith;
      })
      (bytes "4,4") one (decimal_spells p (omega arith)) (between_least 1 connectors p port) most refl
      (simp length-append (omega (arith, decimal_few p (omega arith), decimal_few id (omega arith))))

  starts_it : (id : ℕ) → id ≤ 65535 → judge [] (line 0 128 (send_line p id)) ≡ does (taken []) (logged p id)
  unfolding on_air
  starts_it id small = (idle_starts [] 0 128 (send_line p id) p (sent id) pairs (heard 0 (omega arith)) (is_sendir id small) refl refl).judged

  module _ (id : ℕ) (small : id ≤ 65535) where
    -- id 0 is on air, and is not this connection's
    pub busy_written : Writes (said []) (line_of (Busy (place_of 1 p) id))
    unfolding line_of on_air total done complete time.started
    busy_written =
        let call = line 1 128 (send_line p id) in
        let judged = (others_busy (logged p 0) 1 128 (send_line p id) p (sent id) pairs (heard 1 (omega arith)) (is_sendir id small) refl
        (time.started (sent 0) pairs 0) (rw (eq-eqb p p refl)) 0 (sender_owns [] p 0 (sent 0) pairs) (λ e. omega arith)).judged in
        alone_written (line 0 128 (send_line p 0) ∷ call ∷ []) 1 (Busy (place_of 1 p) id)
        (two_calls 1 (line 0 128 (send_line p 0)) call _ _ (starts_it 0 (omega arith)) judged
        ∙ ap (λ (words : List ℕ). words ∷ []) (with_last "busyIR," (place_of 1 p) (decimal id)))

    completed : completions 200 (logged p id)
        ≡ record { moment = 200; owner = some 0; notice = text.line "completeir," 1 p (decimal id) } ∷ []
    unfolding on_air total done complete first_micro finish time.started
    completed =
        each_port
        (λ q. completions 200 (logged q id) ≡ record { moment = 200; owner = some 0; notice = text.line "completeir," 1 q (decimal id) } ∷ [])
        refl refl refl p port

    -- 8 periods of 25 microseconds
    pub complete_written : Writes (said []) (line_of (Complete (place_of 1 p) id))
    unfolding line_of
    complete_written =
        let call = line 0 128 (send_line p id) in
        alone_written (call ∷ waiting 200 ∷ []) 0 (Complete (place_of 1 p) id)
        (two_calls 0 call (waiting 200) _ _ (starts_it id small) (ap (λ (l : List Completion). does (taken l) (passed 200 ∷ [])) completed)
        ∙ ap (λ (words : List ℕ). words ∷ []) (with_last "completeir," (place_of 1 p) (decimal id)))
