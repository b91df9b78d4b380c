use mathlib.Core.Path.{refl}
use native.Mathlib.Omega.{arith}
use Rattle.laws.proofs.Put.{nothing}
use Rattle.port.specs.Turn.{turn_of}
use Rattle.port.proofs.turn.turn.Goals as goal

pub returns-in-Head : goal.returns-in-Head
unfolding turn_of
returns-in-Head c = rw (← c.part.ensures, c.in-Head.is) (record { moves = c.heads.ensures; kept = refl; joined = refl })

pub returns-in-Piece : goal.returns-in-Piece
unfolding turn_of
returns-in-Piece c = rw (← c.part.ensures, c.in-Piece.is) c.piece.ensures

pub returns-in-Over : goal.returns-in-Over
unfolding turn_of
returns-in-Over c = rw (← c.part.ensures, c.in-Over.is) (record { moves = record { state = c.over.ensures.0; used = c.over.ensures.1; put = rw c.over.ensures.2 (nothing _ _ (omega arith)) }; kept = refl; joined = refl })
