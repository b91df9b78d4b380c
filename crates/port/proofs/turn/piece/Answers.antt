use native.Mathlib.Omega.{arith}
use mathlib.Core.Path.{ap}
use lib.ListN.{length, length-take}
use Rattle.laws.proofs.Put.{put_length}
use Rattle.output.proofs.Laying.{answer_fits}
use Rattle.port.proofs.Pieces.{served_text, served_size, served_fits, served_in_range, served_used, piece_turns}
use Rattle.port.proofs.turn.piece.Goals as goal

pub slice_bounds-reply-end : goal.slice_bounds-reply-end
slice_bounds-reply-end c = served_fits _ _ _ _ _ _ c.piece-served.ensures (omega arith)

pub slice_bounds-put_answer-end : goal.slice_bounds-put_answer-end
slice_bounds-put_answer-end c = served_size _ _ _ _ _ _ c.piece-served.ensures

pub put_answer-a-requires : goal.put_answer-a-requires
put_answer-a-requires c = (served_text _ _ _ _ _ _ c.piece-served.ensures, omega arith)

pub put_change-end-requires : goal.put_change-end-requires
put_change-end-requires c = (served_in_range _ _ _ _ _ _ c.piece-served.ensures, omega (arith, c.put_answer-a.ensures.place, put_length c.put_answer-a.ensures, answer_fits c.args.connection c.piece-served.result.answer))

pub overflow_sub-left : goal.overflow_sub-left
overflow_sub-left c = omega (arith, served_used _ _ _ _ _ _ c.piece-served.ensures, ap length c.front.ensures, length-take c.args.left c.args.block.now)

pub returns : goal.returns
returns c = piece_turns _ _ _ _ _ _ (rw c.front.ensures at c.piece-served.ensures) c.put_answer-a.ensures c.put_change-end.ensures c.piece_of-state.ensures
