-- Laws of composing: a refusal writes nothing, and a line is laid down whole.
use Prim.Native.Nat.{ℕ, ◌+◌, ◌≤◌}
use mathlib.Core.Path.{◌≡◌, sym, ap, ◌∙◌}
use mathlib.Core.Bool.{cond, not}
use mathlib.Core.List.{List, [], ◌∷◌, ◌++◌}
use native.Mathlib.Nat.{zero-add}
use native.Mathlib.Omega.{arith}
use borrow.Author.Tests.{ltb-false, eqb-true, eq-eqb, not-false}
use lib.Dec.{ltb, eqb}
use lib.ListN.{length, take}
use Rattle.std.proofs.Common.{Result, Ok, Err}
use Rattle.std.specs.Result.{result_and}
use Rattle.laws.specs.Bytes.{bytes}
use Rattle.laws.specs.Put.{Put}
use Rattle.laws.proofs.Choice.{cond_case, clash}
use Rattle.laws.proofs.Put.{over_nothing, over_front}
use Rattle.writer.specs.Sendir.{Outcome}
use Rattle.composer.specs.Fault.{judged}
use Rattle.composer.specs.Compose.{room_fault, refusal_of, composing, Composes}
use Rattle.composer.proofs.Faults.{no_fault, neither, refused_by, refused_by_none, in_order}

-- nothing was wrong, and there was room
pub neither_refused : (fault room : ℕ) → refusal_of fault room ≡ 0 → (fault ≡ 0) × (4096 ≤ room)
unfolding refusal_of
neither_refused fault room e =
    let both = neither fault (cond (ltb room 4096) 101 0) e in
    (both.0, ltb-false room 4096 (no_fault (ltb room 4096) 101 0 (omega arith) both.1).0)

-- the request's fault comes before that of too little room
pub refusal_judged : (fault room : ℕ) {r q s : Result Unit ℕ} → r ≡ judged fault → q ≡ judged (room_fault room) → s ≡ result_and r q → s ≡ judged (refusal_of fault room)
unfolding refusal_of
refusal_judged fault room j k e = in_order fault j (room_fault room) k e

-- what is composed finds nothing wrong, and room
pub none_refused : (fault room : ℕ) {r q s : Result Unit ℕ} {u : Unit} → r ≡ judged fault → q ≡ judged (room_fault room) → s ≡ result_and r q → s ≡ Ok u
    → (fault ≡ 0) × (4096 ≤ room)
none_refused fault room j k e o =
    neither_refused fault room (refused_by_none (refusal_of fault room) (refusal_judged fault room j k e) o)

module _ (text : List ℕ) {before : List ℕ} (fault : ℕ) {r : Result Unit ℕ} (j : r ≡ judged (refusal_of fault (length before))) where
  pub nothing_composed : {n : ℕ} → r ≡ Err n → Composes (composing (length before) fault text) before (Err n) before
  unfolding composing
  nothing_composed e =
      let k = refused_by (refusal_of fault (length before)) j e in
      record { answer = rw (k.1, k.0); laid = rw k.1 (sym (over_nothing before 0)) }

  pub composed : {u : Unit} {after : List ℕ} {next : ℕ} → r ≡ Ok u → Put before 0 (text ++ bytes "\r") after next
      → Composes (composing (length before) fault text) before (Ok next) after
  unfolding composing
  composed e p =
      let z = eq-eqb (refusal_of fault (length before)) 0 (refused_by_none (refusal_of fault (length before)) j e) in
      record {
        answer = ap Ok (p.place ∙ zero-add (length (text ++ bytes "\r"))) ∙ rw z;
        laid = rw z p.laid;
      }

-- ---- a line that was composed: nothing was wrong, there was room, and its bytes stand at the start
pub record LineComposed (fault : ℕ) (text before after : List ℕ) (n : ℕ) : Type 0 where
  pub fine : fault ≡ 0
  pub room : 4096 ≤ length before
  pub written : take n after ≡ text ++ (13 ∷ [])

pub line_composed : (fault : ℕ) (text : List ℕ) {before after : List ℕ} {n : ℕ}
    → Composes (composing (length before) fault text) before (Ok n) after → LineComposed fault text before after n
unfolding composing
line_composed fault text {before} {after} {n} =
    let P : Outcome → Type 0 = λ o. Composes o before (Ok n) after → LineComposed fault text before after n in
    let whole = text ++ (13 ∷ []) in
    let number = refusal_of fault (length before) in
    cond_case P (not (eqb number 0)) _ _ (λ _ w. let e = w.answer in clash (cc)) λ f w.
    let e = w.answer in
    let size : n ≡ length whole = cc in
    let n_is : n ≡ 0 + length whole = omega arith in
    let none = neither_refused fault (length before) (eqb-true number 0 (not-false _ f)) in
    record { fine = none.0; room = none.1; written = rw (w.laid, n_is) (over_front before 0 whole (omega arith)) }
