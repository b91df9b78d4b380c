-- All tallies of a list are sound: of one that repeats a sound tally, and after one of them is set to a sound one.
use Prim.Native.Nat.{ℕ, zero, suc}
use mathlib.Core.List.{List, [], ◌∷◌}
use lib.ListN.{set, replicate}
use Rattle.request.specs.Place.{nowhere}
use Rattle.logger.specs.declared.tally.Tally.{Tally}
use Rattle.logger.specs.Tally.{SoundTally}
use Rattle.logger.proofs.Tallies.{fresh_sound}
use Rattle.log_book.specs.Book.{in_slot, SoundAll}

pub alike_sound : (n : ℕ) (t : Tally) → SoundTally t → (i : ℕ) → SoundTally (in_slot (replicate n t) i)
alike_sound zero t one i = fresh_sound nowhere
alike_sound (suc n) t one zero = one
alike_sound (suc n) t one (suc i) = alike_sound n t one i

pub set_sound : (all : List Tally) (slot : ℕ) (t : Tally) → SoundAll all → SoundTally t → (i : ℕ) → SoundTally (in_slot (set all slot t) i)
set_sound [] slot t each one i = each i
set_sound (x ∷ all) zero t each one zero = one
set_sound (x ∷ all) zero t each one (suc i) = each (suc i)
set_sound (x ∷ all) (suc slot) t each one zero = each zero
set_sound (x ∷ all) (suc slot) t each one (suc i) = set_sound all slot t (λ j. each (suc j)) one i
