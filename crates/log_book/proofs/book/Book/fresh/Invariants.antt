use Rattle.log_book.specs.Book.{SoundAll}
use Rattle.log_book.proofs.book.Book.fresh.Given as goal

abbrev pub invariant-loop-slot : goal.invariant-loop-slot
invariant-loop-slot l = SoundAll l.tallies
