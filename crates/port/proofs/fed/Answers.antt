use Rattle.port.proofs.Feeding.{rest_of, feeding_starts, turn_some, turn_within, feeding_more, feeding_stops}
use borrow.Author.Rules.{rules}
use mathlib.Core.Logic.{inl, inr}
use native.Mathlib.Omega.{arith}
use Rattle.port.proofs.fed.Goals as goal

pub loop-i-init : goal.loop-i-init
loop-i-init c = feeding_starts _ _ _ _ c.requires.0 c.requires.1

pub returns-then-out-o-lt-TURN_ROOM : goal.returns-then-out-o-lt-TURN_ROOM
returns-then-out-o-lt-TURN_ROOM c = feeding_stops c.loop-i.invariant (inr c.if-out-o-lt-TURN_ROOM.true)

pub overflow_add-i : goal.overflow_add-i
overflow_add-i c = omega (arith, turn_within c.loop-i.invariant (rw rest_of at c.turn-turned.ensures) c.loop-i-test.true (λ k. search rules))

pub loop-i-smaller : goal.loop-i-smaller
loop-i-smaller c = omega (arith, turn_some c.loop-i.invariant (rw rest_of at c.turn-turned.ensures) c.loop-i-test.true (λ k. search rules))

pub loop-i-preserved : goal.loop-i-preserved
loop-i-preserved c = feeding_more c.loop-i.invariant (rw rest_of at c.turn-turned.ensures) c.loop-i-test.true (λ k. search rules) c.if-out-o-lt-TURN_ROOM.false

pub returns : goal.returns
returns c = feeding_stops c.loop-i.invariant (inl c.loop-i-test.false)
