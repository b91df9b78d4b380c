use mathlib.Core.Path.{◌≡◌, sym, ap, ◌∙◌}
use native.Mathlib.Omega.{arith}
use lib.ListN.{length}
use Rattle.text.specs.Field.{field_is, ends_field}
use Rattle.text.proofs.Words.{word_same, word_other, word_short, word_end}
use Rattle.text.proofs.field.field_is.Goals as goal

pub returns-then-field-i : goal.returns-then-field-i
returns-then-field-i c =
    sym (word_short _ _ c.loop-i.i _ c.loop-i-test.true c.if-field-i.true) ∙ c.loop-i.invariant ∙ ap (field_is c.args.w.now) c.onward-field.ensures

pub returns-then-field-i-2 : goal.returns-then-field-i-2
returns-then-field-i-2 c =
    sym (word_other _ _ c.loop-i.i _ c.loop-i-test.true c.if-field-i.false c.if-field-i-2.true) ∙ c.loop-i.invariant
    ∙ ap (field_is c.args.w.now) c.onward-field.ensures

pub loop-i-preserved : goal.loop-i-preserved
loop-i-preserved c =
    sym (word_same _ _ c.loop-i.i _ c.loop-i-test.true c.if-field-i.false c.if-field-i-2.false) ∙ c.loop-i.invariant

pub returns : goal.returns
returns c =
    let field = c.onward-field.result.now in
    let end : length c.args.w.now ≡ c.loop-i.i = omega (arith, c.loop-i-test.false, c.loop-i.auto.i-end) in
    c.ends_field.ensures ∙ ap (ends_field field) end ∙ sym (word_end c.args.w.now field c.loop-i.i c.loop-i.i c.loop-i-test.false)
    ∙ c.loop-i.invariant ∙ ap (field_is c.args.w.now) c.onward-field.ensures
