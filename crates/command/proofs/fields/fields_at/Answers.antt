use mathlib.Core.Path.{◌≡◌, sym, ◌∙◌}
use native.Mathlib.Omega.{arith}
use borrow.Author.Tests.{eq-eqb, ne_eqb}
use Rattle.std.proofs.lemmas.Result.{err_from_is_err_and}
use Rattle.text.proofs.Limits.{good_most}
use Rattle.command.specs.Fields.{fields_at}
use Rattle.command.proofs.Capping.{capped_high}
use Rattle.command.proofs.Needing.{asked_good, asked_bad}
use Rattle.command.proofs.Sending.{freq_at, repeat_at, offset_at}
use Rattle.command.proofs.fields.fields_at.Goals as goal
use Rattle.command.proofs.fields.fields_at.Goals.{After-after_comma-b, After-after_comma-d, After-after_comma-f}

freq : (c : After-after_comma-b) → fields_at c.args.s.now c.args.at ≡ freq_at c.args.s.now c.in_ok-id.id c.after_comma-b.result
unfolding fields_at
freq c = rw (sym c.field_within.ensures ∙ asked_good c.ok_or.ensures.ok_part c.in_ok-id.was, ← c.after_comma-b.ensures)

repeat :
    (c : After-after_comma-d) →
    freq_at c.args.s.now c.in_ok-id.id c.after_comma-b.result ≡ repeat_at c.args.s.now c.in_ok-id.id c.in_ok-freq.freq c.after_comma-d.result
repeat c = rw (sym c.field_within-2.ensures ∙ asked_good c.ok_or-2.ensures.ok_part c.in_ok-freq.was, ← c.after_comma-d.ensures)

offset :
    (c : After-after_comma-f) →
    repeat_at c.args.s.now c.in_ok-id.id c.in_ok-freq.freq c.after_comma-d.result
    ≡ offset_at c.args.s.now c.in_ok-id.id c.in_ok-freq.freq c.in_ok-repeat.repeat c.after_comma-f.result
offset c = rw (sym c.field_within-3.ensures ∙ asked_good c.ok_or-3.ensures.ok_part c.in_ok-repeat.was, ← c.after_comma-f.ensures)

pub returns-in_err-id : goal.returns-in_err-id
unfolding fields_at
returns-in_err-id c =
    let p = err_from_is_err_and c.from_residual.result c.from_residual.ensures.1 in
    let none = asked_bad c.ok_or.ensures.value c.in_err-id.was in
    rw (p.1, p.2, sym c.field_within.ensures ∙ none.0, none.1)

pub returns-in_err-freq : goal.returns-in_err-freq
unfolding fields_at
returns-in_err-freq c =
    let freq = freq (goal.at.returns-in_err-freq c).After-after_comma-b in
    let out = c.from_residual-in_err-freq in
    let p = err_from_is_err_and out.result out.ensures.1 in
    let none = asked_bad c.ok_or-2.ensures.value c.in_err-freq.was in
    rw (p.1, p.2, freq, sym c.field_within-2.ensures ∙ none.0, none.1)

pub returns-in_err-repeat : goal.returns-in_err-repeat
unfolding fields_at
returns-in_err-repeat c =
    let freq = freq (goal.at.returns-in_err-repeat c).After-after_comma-b in
    let repeat = repeat (goal.at.returns-in_err-repeat c).After-after_comma-d in
    let out = c.from_residual-in_err-repeat in
    let p = err_from_is_err_and out.result out.ensures.1 in
    let none = asked_bad c.ok_or-3.ensures.value c.in_err-repeat.was in
    rw (p.1, p.2, freq, repeat, sym c.field_within-3.ensures ∙ none.0, none.1)

pub returns-in_err-offset : goal.returns-in_err-offset
unfolding fields_at
returns-in_err-offset c =
    let freq = freq (goal.at.returns-in_err-offset c).After-after_comma-b in
    let repeat = repeat (goal.at.returns-in_err-offset c).After-after_comma-d in
    let offset = offset (goal.at.returns-in_err-offset c).After-after_comma-f in
    let out = c.from_residual-in_err-offset in
    let p = err_from_is_err_and out.result out.ensures.1 in
    let none = asked_bad c.ok_or-4.ensures.value c.in_err-offset.was in
    rw (p.1, p.2, freq, repeat, offset, sym c.field_within-4.ensures ∙ none.0, none.1)

pub returns-then-offset-eq0 : goal.returns-then-offset-eq0
unfolding fields_at
returns-then-offset-eq0 c =
    let freq = freq (goal.at.returns-then-offset-eq0 c).After-after_comma-b in
    let repeat = repeat (goal.at.returns-then-offset-eq0 c).After-after_comma-d in
    let offset = offset (goal.at.returns-then-offset-eq0 c).After-after_comma-f in
    rw (
      freq,
      repeat,
      offset,
      sym c.field_within-4.ensures ∙ asked_good c.ok_or-4.ensures.ok_part c.in_ok-offset.was,
      eq-eqb _ _ c.if-offset-eq0.true,
    )

pub overflow_cast-fields : goal.overflow_cast-fields
overflow_cast-fields c =
    omega (arith, good_most _ _ _ _ (sym c.field_within.ensures ∙ asked_good c.ok_or.ensures.ok_part c.in_ok-id.was))

pub overflow_cast-fields-2 : goal.overflow_cast-fields-2
overflow_cast-fields-2 c =
    omega (arith, good_most _ _ _ _ (sym c.field_within-2.ensures ∙ asked_good c.ok_or-2.ensures.ok_part c.in_ok-freq.was))

pub overflow_cast-fields-3 : goal.overflow_cast-fields-3
overflow_cast-fields-3 c = omega (arith, c.capped.ensures, capped_high c.in_ok-repeat.repeat)

pub overflow_cast-fields-4 : goal.overflow_cast-fields-4
overflow_cast-fields-4 c =
    omega (arith, good_most _ _ _ _ (sym c.field_within-4.ensures ∙ asked_good c.ok_or-4.ensures.ok_part c.in_ok-offset.was))

pub returns : goal.returns
unfolding fields_at
returns c =
    let freq = freq (goal.at.returns c).After-after_comma-b in
    let repeat = repeat (goal.at.returns c).After-after_comma-d in
    let offset = offset (goal.at.returns c).After-after_comma-f in
    rw (
      freq,
      repeat,
      offset,
      sym c.field_within-4.ensures ∙ asked_good c.ok_or-4.ensures.ok_part c.in_ok-offset.was,
      ne_eqb _ _ c.if-offset-eq0.false,
      ← c.capped.ensures,
      ← c.after_comma.ensures,
    )
