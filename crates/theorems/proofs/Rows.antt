-- What holds of every row of the table holds of what a line asks for, and of the line.
use Prim.Native.Nat.{ℕ, ◌≤◌}
use mathlib.Core.Path.{◌≡◌, refl}
use mathlib.Core.Bool.{Bool, false, cond, not}
use mathlib.Core.List.{List, [], ◌∷◌}
use mathlib.Core.Option.{none}
use borrow.Author.Tests.{ltb-false}
use lib.Dec.{ltb}
use lib.ListN.{length, take}
use Rattle.laws.specs.Bytes.{bytes}
use Rattle.laws.specs.Checks.{◌⇒◌, first, between}
use Rattle.laws.specs.Lists.{all, same}
use Rattle.laws.proofs.Choice.{cond_case}
use Rattle.laws.proofs.Checks.{through, past}
use Rattle.meaning.specs.Line.{is}
use Rattle.meaning.specs.Log.{Deed}
use Rattle.meaning.specs.Table.{replied, Judged, refusal, Row, row, no, line, heard, judge, field, fixed, set_ir, get_ir, setstate, getstate, sendir, stopir, set_led_lighting, get_led_lighting, request}
use Rattle.theorems.specs.Occasion.{says_error}

-- the words of a fixed reply begin neither as an error does, nor as the state of a relay, nor as a lamp's reply
pub record Apart (words : List ℕ) : Type 0 where
  pub error : says_error (replied words none) ≡ false
  pub relay : same (bytes "state,2") (take 7 words) ≡ false
  pub lamp : same (bytes "LED_LIGHTING,") (take 13 words) ≡ false

module _ (log : List Deed) (connection : ℕ) (s : List ℕ) where
  -- the requests with a fixed reply are one case
  pub by_rows : (Q : Row → Type 0) → ((words : List ℕ) → Apart words → Q (fixed log connection s words)) → Q (set_ir log connection s)
      → Q (get_ir log connection s) → Q (setstate log connection s) → Q (getstate log connection s) → Q (sendir log connection s)
      → Q (stopir log connection s) → Q (set_led_lighting log connection s) → Q (get_led_lighting log connection s) → Q (row [] (no 1))
      → Q (request log connection s)
  unfolding request
  by_rows Q told sets gets states state sends stops lights lamp unknown =
      let name = field log connection s 0 in
      named (is "getdevices" name) (told _ (record { error = refl; relay = refl; lamp = refl }))
      (named (is "getversion" name) (told _ (record { error = refl; relay = refl; lamp = refl }))
      (named (is "set_IR" name) sets
      (named (is "get_IR" name) gets
      (named (is "setstate" name) states
      (named (is "getstate" name) state
      (named (is "sendir" name) sends
      (named (is "stopir" name) stops
      (named (is "set_LED_LIGHTING" name) lights
      (named (is "get_LED_LIGHTING" name) lamp unknown)))))))))
    where
      named : (t : Bool) {r other : Row} → Q r → Q other → Q (cond t r other)
      named t {r} {other} here rest = cond_case Q t r other (λ _. here) (λ _. rest)

  pub by_line : (P : Judged → Type 0) (room : ℕ) → P (refusal 102) → P (refusal 101) → P (no 15) → P (no 1)
      → (connection ≤ 7 → P (first (request log connection s).checks (request log connection s).otherwise))
      → P (judge log (line connection room s))
  by_line P room a b c d asked =
      through P (heard connection room ((ltb 4096 (length s) ⇒ no 15) ∷ (not (all (between 32 126) s) ⇒ no 1) ∷ []))
      (first (request log connection s).checks (request log connection s).otherwise)
      (past a (λ most. past b (λ _. past c (λ _. past d (λ _. asked (ltb-false 7 connection most))))))
