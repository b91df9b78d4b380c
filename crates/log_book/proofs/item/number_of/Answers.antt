use native.Mathlib.Omega.{arith}
use Rattle.log_book.proofs.Numbers.{small}
use Rattle.log_book.proofs.item.number_of.Goals as goal

pub overflow_mul-value : goal.overflow_mul-value
overflow_mul-value c =
    let was = c.loop-b in
    omega (arith, small was.value was.b-index (omega arith) was.invariant.1)

pub overflow_add-value : goal.overflow_add-value
overflow_add-value c =
    let was = c.loop-b in
    omega (arith, small was.value was.b-index (omega arith) was.invariant.1)
