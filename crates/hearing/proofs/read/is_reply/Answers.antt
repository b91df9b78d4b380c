use mathlib.Core.Path.{sym, ◌∙◌}
use native.Mathlib.Omega.{arith}
use lib.Seq.{length-take-le}
use Rattle.laws.proofs.Put.{put_length}
use Rattle.hearing.proofs.Texts.{put_some, put_line}
use Rattle.hearing.proofs.read.is_reply.Goals as goal

pub overflow_sub-end : goal.overflow_sub-end
overflow_sub-end c = put_some _ c.put_reply-n.ensures

pub slice_bounds-is_word-end : goal.slice_bounds-is_word-end
slice_bounds-is_word-end c =
    let put = c.put_reply-n.ensures in
    sym (length-take-le _ _ (omega (arith, put_length put, put.room)))

pub returns : goal.returns
returns c = c.is_word.ensures ∙ rw (put_line _ c.put_reply-n.ensures)
