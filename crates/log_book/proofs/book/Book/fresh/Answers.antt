use Rattle.logger.proofs.Tallies.{fresh_sound}
use Rattle.log_book.proofs.Books.{alike_sound, set_sound}
use Rattle.log_book.proofs.book.Book.fresh.Goals as goal

pub loop-slot-init : goal.loop-slot-init
loop-slot-init c = alike_sound 6 _ (rw c.fresh-tallies.ensures (fresh_sound _))

pub loop-slot-preserved : goal.loop-slot-preserved
loop-slot-preserved c =
    let was = c.loop-slot in
    set_sound was.tallies was.slot c.fresh.result was.invariant (rw c.fresh.ensures (fresh_sound _))

pub invariant_of-result : goal.invariant_of-result
invariant_of-result c = record { each = c.loop-slot.invariant }
