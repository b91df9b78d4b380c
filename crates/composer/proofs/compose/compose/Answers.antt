use native.Mathlib.Omega.{arith}
use Rattle.std.proofs.lemmas.Result.{err_from_is_err_and}
use Rattle.composer.proofs.Composing.{refusal_judged, nothing_composed, composed, none_refused}
use Rattle.composer.proofs.compose.compose.Goals as goal

pub returns-in_err-and : goal.returns-in_err-and
returns-in_err-and c =
    let p = err_from_is_err_and c.from_residual.result c.from_residual.ensures.1 in
    rw (p.1, p.2) (nothing_composed _ _ (refusal_judged _ _ c.wish_fault.ensures c.room_fault.ensures c.and.ensures) c.in_err-and.was)

pub put_wish-requires : goal.put_wish-requires
put_wish-requires c =
    omega (arith, (none_refused _ _ c.wish_fault.ensures c.room_fault.ensures c.and.ensures c.in_ok-and.was).1)

pub returns : goal.returns
returns c =
    let line = composed _ _ (refusal_judged _ _ c.wish_fault.ensures c.room_fault.ensures c.and.ensures) c.in_ok-and.was c.put_wish.ensures.put in
    record { answer = line.answer; laid = grind (arith, line.laid) }
