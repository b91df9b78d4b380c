use native.Mathlib.Omega.{arith}
use Rattle.std.proofs.lemmas.Result.{err_from_is_err_and}
use Rattle.laws.proofs.Choice.{clash}
use Rattle.laws.proofs.Put.{then}
use Rattle.composer.proofs.Composing.{refusal_judged, none_refused, nothing_composed, composed}
use Rattle.composer.proofs.Sending.{sendir_written, written_put, cr_fits}
use Rattle.composer.proofs.compose.compose_sendir.Goals as goal

pub returns-in_err-and : goal.returns-in_err-and
returns-in_err-and c =
    let p = err_from_is_err_and c.from_residual.result c.from_residual.ensures.1 in
    rw (p.1, p.2) (nothing_composed _ _ (refusal_judged _ _ c.sendir_fault.ensures c.room_fault.ensures c.and.ensures) c.in_err-and.was)

pub byte-requires : goal.byte-requires
byte-requires c =
    let none = none_refused _ _ c.sendir_fault.ensures c.room_fault.ensures c.and.ensures c.in_ok-and.was in
    let w = sendir_written none.0 none.1 c.write_sendir.ensures in
    cr_fits w c.in_ok-at.was none.1

pub returns-in_err-at : goal.returns-in_err-at
returns-in_err-at c =
    let none = none_refused _ _ c.sendir_fault.ensures c.room_fault.ensures c.and.ensures c.in_ok-and.was in
    let w = sendir_written none.0 none.1 c.write_sendir.ensures in
    clash (cc (w.answer, c.in_err-at.was))

pub returns : goal.returns
returns c =
    let none = none_refused _ _ c.sendir_fault.ensures c.room_fault.ensures c.and.ensures c.in_ok-and.was in
    let w = sendir_written none.0 none.1 c.write_sendir.ensures in
    let line = composed _ _ (refusal_judged _ _ c.sendir_fault.ensures c.room_fault.ensures c.and.ensures) c.in_ok-and.was
    (then (written_put w c.in_ok-at.was none.1) c.byte.ensures.put) in
    record { answer = line.answer; laid = grind (arith, line.laid) }
