-- Laws of a line's answer.
use Prim.Native.Nat.{ℕ}
use mathlib.Core.List.{List}
use Rattle.hub.specs.declared.Decided.{Decided}
use Rattle.hub.specs.declared.Answered.{Answered}
use Rattle.hub.specs.Line.{Outcome, Decides, Writes, Answers}

-- what was decided, and then written
pub answers : {o : Outcome} {d : Decided} {r : Answered} {store before after : List ℕ}
    → Decides o d store → Writes d before r after → Answers o before r store after
answers decides writes = record { writes = rw decides.result at writes; kept = decides.kept }
