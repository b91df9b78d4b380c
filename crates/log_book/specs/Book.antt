-- What the tallies of a book are.
use Rattle.std.specs.Prelude.{ℕ, List, get_or}
use Rattle.request.specs.Place.{nowhere}
use Rattle.logger.specs.declared.tally.Tally.{Tally}
use Rattle.logger.specs.Tally.{fresh_tally, SoundTally}

-- the tally in a slot; a fresh one, where there is none
abbrev pub in_slot : List Tally → ℕ → Tally
in_slot all slot = get_or all slot (fresh_tally nowhere)

abbrev pub SoundAll : List Tally → Type 0
SoundAll all = (slot : ℕ) → SoundTally (in_slot all slot)
