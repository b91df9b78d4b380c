use mathlib.Core.Path.{◌≡◌, sym, ◌∙◌}
use mathlib.Core.Bool.{true}
use native.Mathlib.Omega.{arith}
use borrow.Author.Tests.{eqb-true, eqb-false}
use mathlib.Core.Logic.{⊎_elim}
use lib.ListN.{length, get_or}
use Rattle.words.specs.Digits.{is_digit}
use Rattle.text.proofs.Reading.{digit_range}
use Rattle.script.proofs.Figures.{figured_start, figured_small, figured_more, figured_bad, figured_end, figured_number, too_few, too_many}
use Rattle.script.proofs.input.figures_of.Goals as goal
use Rattle.script.proofs.input.figures_of.Goals.{Else-not-is_digit}

dig : (c : Else-not-is_digit) → is_digit (get_or c.args.w.now c.loop-b.b-index 0) ≡ true
dig c = sym c.is_digit.ensures ∙ c.if-not-is_digit.false

pub loop-b-init : goal.loop-b-init
loop-b-init c = figured_start _

pub returns-then-not-is_digit : goal.returns-then-not-is_digit
returns-then-not-is_digit c = rw (figured_bad c.loop-b.invariant c.loop-b-test.true (sym c.is_digit.ensures ∙ c.if-not-is_digit.true))

pub overflow_mul-value : goal.overflow_mul-value
overflow_mul-value c = omega (arith, figured_small c.loop-b.invariant (omega arith))

pub overflow_sub-b : goal.overflow_sub-b
overflow_sub-b c =
    let dig = dig (goal.at.overflow_sub-b c).Else-not-is_digit in
    omega (arith, digit_range (get_or c.args.w.now c.loop-b.b-index 0) dig)

pub overflow_add-value : goal.overflow_add-value
overflow_add-value c =
    let dig = dig (goal.at.overflow_add-value c).Else-not-is_digit in
    omega (arith, c.from.ensures, figured_small c.loop-b.invariant (omega arith), digit_range (get_or c.args.w.now c.loop-b.b-index 0) dig)

pub loop-b-preserved : goal.loop-b-preserved
loop-b-preserved c =
    let dig = dig (goal.at.loop-b-preserved c).Else-not-is_digit in
    rw c.from.ensures (figured_more c.loop-b.invariant c.loop-b-test.true dig)

pub returns : goal.returns
returns c =
    let counted = c.loop-b.invariant in
    let some = eqb-false (length c.args.w.now) 0 (sym c.is_empty.ensures ∙ c.if-is_empty.false) in
    rw (
      figured_number counted c.loop-b-test.false (omega arith) c.if-w-gt10.false,
      figured_end counted c.loop-b-test.false,
    )

pub returns-then-is_empty : goal.returns-then-is_empty
returns-then-is_empty c =
    ⊎_elim (λ e. rw (too_few _ (eqb-true _ 0 (sym c.is_empty.ensures ∙ e)))) (λ h. rw (too_many _ h.1)) c.then-is_empty.either
