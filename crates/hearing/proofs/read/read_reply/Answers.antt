use mathlib.Core.Path.{sym, ◌∙◌}
use Rattle.hearing.proofs.Texts.{hears_unwritable, hears_other, hears_same}
use Rattle.hearing.proofs.read.read_reply.Goals as goal
use Rattle.hearing.proofs.read.read_reply.Goals.{else-writable-via-then-writable+else-is_line, else-writable-via-else-writable}

pub is_line-requires : goal.is_line-requires
is_line-requires c = sym c.writable.ensures ∙ c.if-writable.true

pub returns-then-is_line : goal.returns-then-is_line
returns-then-is_line c =
    hears_same _ _ c.guessed-h.ensures
    (sym c.writable.ensures ∙ c.if-writable.true) (sym c.is_line.ensures ∙ c.if-is_line.true)

pub returns-else-writable : goal.returns-else-writable
returns-else-writable c =
    elim c.else-writable.branch [
      | else-writable-via-then-writable+else-is_line w ↦
          hears_other _ _ c.guessed-h.ensures (sym c.writable.ensures ∙ w.if-writable.true) (sym w.is_line.ensures ∙ w.if-is_line.false)
      | else-writable-via-else-writable w ↦ hears_unwritable _ _ c.guessed-h.ensures (sym c.writable.ensures ∙ w.if-writable.false)
    ]
