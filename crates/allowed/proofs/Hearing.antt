-- logger and hearing: what a line is heard as, and the tally of what was heard.
use mathlib.Core.Path.{refl}
use Rattle.logger.specs.contracts as logger
use Rattle.hearing.specs.contracts as hearing
use Rattle.hearing.proofs.Back.{one_heard}
use Rattle.allowed.specs.Allowed.{One}
use Rattle.allowed.proofs.Law.{promised, told}

-- hearing::read::read_reply: its promise is a property, and allows one answer all the same
pub hearing_read_reply : One hearing.read.read_reply.ended (λ _ _. hearing.read.read_reply.spec)
hearing_read_reply = promised _ refl (λ _ _ _ _ _ _ p q. (one_heard p q, refl))

-- logger::table::writable
pub logger_writable : One logger.table.writable.ended (λ _ _. logger.table.writable.spec)
logger_writable = told _ refl (λ _ _ _ _. refl)

-- logger::tally::Tally::fresh
pub logger_fresh : One logger.tally.Tally.fresh.ended (λ _ _. logger.tally.Tally.fresh.spec)
logger_fresh = told _ refl (λ _ _ _ _. refl)

-- logger::tally::Tally::count
pub logger_count : One logger.tally.Tally.count.ended (λ _ _. logger.tally.Tally.count.spec)
logger_count = told _ refl (λ _ _ _ _. refl)

-- logger::tally::Tally::average
pub logger_average : One logger.tally.Tally.average.ended (λ _ _. logger.tally.Tally.average.spec)
logger_average = told _ refl (λ _ _ _ _. refl)
