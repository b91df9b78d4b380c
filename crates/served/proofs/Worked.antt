-- The example of docs/PORT-OTHER.md: a request cut in two, with anything of another connection and a wait between its halves.
use Prim.Native.Nat.{ℕ}
use mathlib.Core.Path.{◌≡◌, refl}
use mathlib.Core.List.{List, [], ◌∷◌, ◌++◌, map}
use Rattle.laws.specs.Bytes.{bytes}
use Rattle.meaning.specs.Table as call
use Rattle.lines.specs.Cut.{line_of, lines_of}
use Rattle.served.specs.Events.{piece, waiting, call_of, history_of}

-- it takes place at its CR, behind the lines of the other connection and the wait
pub cut_request : (room n : ℕ) (anything : List ℕ)
    → history_of room (piece 0 (bytes "getver") ∷ piece 1 anything ∷ waiting n ∷ piece 0 (bytes "sion\r") ∷ [])
    ≡ map (call_of 1 room) (lines_of anything) ++ (call.waiting n ∷ call.line 0 room (bytes "getversion") ∷ [])
unfolding line_of
cut_request room n anything = refl
