use Rattle.logger.proofs.Tallies.{counted_sound}
use Rattle.log_book.proofs.Books.{set_sound}
use Rattle.log_book.proofs.book.Book.count.Goals as goal

pub invariant_of-self : goal.invariant_of-self
invariant_of-self c =
    let was = c.loop-slot in
    let counted = counted_sound _ _ (was.self.each was.slot) in
    record { each = set_sound was.self.tallies was.slot c.count.result was.self.each (rw c.count.ensures counted) }
