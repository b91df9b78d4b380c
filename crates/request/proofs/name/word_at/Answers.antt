use mathlib.Core.Path.{◌≡◌, sym, ◌∙◌}
use lib.ListN.{get_or}
use Rattle.request.specs.Name.{candidate}
use Rattle.request.proofs.Naming.{word_known, word_unknown}
use Rattle.request.proofs.name.word_at.Goals as goal

pub returns-then-is_word : goal.returns-then-is_word
returns-then-is_word c =
    let tried : let s = c.args.s.now in
    c.candidate-word.result ≡ candidate (get_or s 0 0) (get_or s 3 0) (get_or s 4 0) = rw (← c.byte_at.ensures, ← c.byte_at-2.ensures, ← c.byte_at-3.ensures) c.candidate-word.ensures in
    sym (word_known _ _ tried (sym c.is_word.ensures ∙ c.if-is_word.true))

pub returns-else-is_word : goal.returns-else-is_word
returns-else-is_word c =
    let tried : let s = c.args.s.now in
    c.candidate-word.result ≡ candidate (get_or s 0 0) (get_or s 3 0) (get_or s 4 0) = rw (← c.byte_at.ensures, ← c.byte_at-2.ensures, ← c.byte_at-3.ensures) c.candidate-word.ensures in
    sym (word_unknown _ _ tried (sym c.is_word.ensures ∙ c.if-is_word.false))
