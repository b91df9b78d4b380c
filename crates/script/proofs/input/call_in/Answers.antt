use Rattle.script.proofs.Inputs.{call_bad, call_good}
use mathlib.Core.Path.{sym, ◌∙◌}
use borrow.Author.Tests.{eq-eqb, ne_eqb}
use Rattle.script.proofs.input.call_in.Goals as goal

pub returns-then-letter-eq114 : goal.returns-then-letter-eq114
returns-then-letter-eq114 c = rw (eq-eqb _ _ c.if-letter-eq114.true) c.reading_in.ensures

pub returns-in_default : goal.returns-in_default
returns-in_default c =
    sym (call_bad c.args.letter c.args.s.now c.if-letter-eq114.false (sym c.figures_of.ensures ∙ c.in_default.is))

pub returns-then-letter-eq120 : goal.returns-then-letter-eq120
returns-then-letter-eq120 c =
    sym (call_good c.args.letter c.args.s.now c.if-letter-eq114.false _ (sym c.figures_of.ensures ∙ c.in-Some.is)
    ∙ rw (eq-eqb c.args.letter 120 c.if-letter-eq120.true))

pub returns-then-letter-eq119 : goal.returns-then-letter-eq119
returns-then-letter-eq119 c =
    sym (call_good c.args.letter c.args.s.now c.if-letter-eq114.false _ (sym c.figures_of.ensures ∙ c.in-Some.is)
    ∙ rw (ne_eqb c.args.letter 120 c.if-letter-eq120.false, eq-eqb c.args.letter 119 c.if-letter-eq119.true))

pub returns : goal.returns
returns c =
    sym (call_good c.args.letter c.args.s.now c.if-letter-eq114.false _ (sym c.figures_of.ensures ∙ c.in-Some.is)
    ∙ rw (ne_eqb c.args.letter 120 c.if-letter-eq120.false, ne_eqb c.args.letter 119 c.if-letter-eq119.false))
