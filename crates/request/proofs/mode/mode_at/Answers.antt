use Prim.Native.Nat.{◌<◌}
use mathlib.Core.Path.{◌≡◌, sym, ◌∙◌}
use mathlib.Core.Bool.{false}
use native.Mathlib.Omega.{arith}
use lib.ListN.{length, drop}
use Rattle.text.specs.Field.{field_is}
use Rattle.text.proofs.Words.{word_short}
use Rattle.request.specs.declared.mode.Mode.{Mode}
use Rattle.request.specs.declared.mode.Mode.TheVariants.{Ir, Sensor, IrBlaster, LedLighting}
use Rattle.request.specs.Mode.{mode_word, mode_at}
use Rattle.request.proofs.mode.mode_at.Goals as goal
use Rattle.request.proofs.mode.mode_at.Goals.{Then-s-at}

none : (c : Then-s-at) (m : Mode) → 0 < length (mode_word m) → field_is (mode_word m) (drop c.args.at c.args.s.now) ≡ false
none c m h = word_short (mode_word m) c.args.s.now 0 c.args.at h c.if-s-at.true

pub returns-then-s-at : goal.returns-then-s-at
unfolding mode_at
returns-then-s-at c = rw (none c Ir (omega arith), none c Sensor (omega arith), none c IrBlaster (omega arith), none c LedLighting (omega arith))

pub returns-then-field_is : goal.returns-then-field_is
unfolding mode_at
returns-then-field_is c = rw (sym c.field_is.ensures ∙ c.if-field_is.true)

pub returns-then-field_is-2 : goal.returns-then-field_is-2
unfolding mode_at
returns-then-field_is-2 c = rw (sym c.field_is.ensures ∙ c.if-field_is.false, sym c.field_is-2.ensures ∙ c.if-field_is-2.true)

pub returns-then-field_is-3 : goal.returns-then-field_is-3
unfolding mode_at
returns-then-field_is-3 c =
    rw (
      sym c.field_is.ensures ∙ c.if-field_is.false,
      sym c.field_is-2.ensures ∙ c.if-field_is-2.false,
      sym c.field_is-3.ensures ∙ c.if-field_is-3.true,
    )

pub returns-then-field_is-4 : goal.returns-then-field_is-4
unfolding mode_at
returns-then-field_is-4 c =
    rw (
      sym c.field_is.ensures ∙ c.if-field_is.false,
      sym c.field_is-2.ensures ∙ c.if-field_is-2.false,
      sym c.field_is-3.ensures ∙ c.if-field_is-3.false,
      sym c.field_is-4.ensures ∙ c.if-field_is-4.true,
    )

pub returns : goal.returns
unfolding mode_at
returns c =
    rw (
      sym c.field_is.ensures ∙ c.if-field_is.false,
      sym c.field_is-2.ensures ∙ c.if-field_is-2.false,
      sym c.field_is-3.ensures ∙ c.if-field_is-3.false,
      sym c.field_is-4.ensures ∙ c.if-field_is-4.false,
    )
