use Rattle.std.proofs.Common.{arith}
use Rattle.script.proofs.Keeping.{changed_in_range, changed_sound, made_sound, reading_keeps, closing_keeps, waiting_keeps}
use Rattle.bench.proofs.fed.Goals as goal

pub offset_bounds-hub-slot : goal.offset_bounds-hub-slot
offset_bounds-hub-slot g c =
    omega (arith, rw c.in-Connector.is at (changed_in_range _ _ _ _ _ c.line-changed.ensures))

pub bounds-hub-slot : goal.bounds-hub-slot
bounds-hub-slot g c =
    omega (arith, rw c.in-Connector.is at (changed_in_range _ _ _ _ _ c.line-changed.ensures))

pub loop-i-preserved-in-Connector : goal.loop-i-preserved-in-Connector
loop-i-preserved-in-Connector g c = (
  rw c.in-Connector.is at (changed_sound _ _ _ _ _ c.line-changed.ensures c.loop-i.invariant.0),
  omega (arith, c.loop-i.invariant, c.ended-all.auto),
  omega (arith, c.loop-i.invariant, c.line-changed.auto),
)

pub offset_bounds-hub-slot-in-Relay : goal.offset_bounds-hub-slot-in-Relay
offset_bounds-hub-slot-in-Relay g c =
    omega (arith, rw c.in-Relay.is at (changed_in_range _ _ _ _ _ c.line-changed.ensures))

pub bounds-hub-slot-in-Relay : goal.bounds-hub-slot-in-Relay
bounds-hub-slot-in-Relay g c =
    omega (arith, rw c.in-Relay.is at (changed_in_range _ _ _ _ _ c.line-changed.ensures))

pub loop-i-preserved-in-Relay : goal.loop-i-preserved-in-Relay
loop-i-preserved-in-Relay g c = (
  rw c.in-Relay.is at (changed_sound _ _ _ _ _ c.line-changed.ensures c.loop-i.invariant.0),
  omega (arith, c.loop-i.invariant, c.ended-all.auto),
  omega (arith, c.loop-i.invariant, c.line-changed.auto),
)

pub loop-i-preserved-in-Reading : goal.loop-i-preserved-in-Reading
loop-i-preserved-in-Reading g c = (
  made_sound c.reading-passed.ensures (reading_keeps _ c.loop-i.invariant.0 _ _),
  omega (arith, c.loop-i.invariant, c.ended-all.auto),
  omega (arith, c.loop-i.invariant, c.reading-passed.auto),
)

pub loop-i-preserved-in-Closing : goal.loop-i-preserved-in-Closing
loop-i-preserved-in-Closing g c = (
  made_sound c.closing-passed.ensures (closing_keeps _ c.loop-i.invariant.0 _),
  omega (arith, c.loop-i.invariant, c.ended-all.auto),
  omega (arith, c.loop-i.invariant, c.closing-passed.auto),
)

pub loop-i-preserved : goal.loop-i-preserved
loop-i-preserved g c = (
  made_sound c.waiting-passed.ensures (waiting_keeps _ c.loop-i.invariant.0 _),
  omega (arith, c.loop-i.invariant, c.ended-all.auto),
  omega (arith, c.loop-i.invariant, c.waiting-passed.auto),
)
