-- The completions of a wait, of what is known at its start: put in order part by part.
use Prim.Native.Nat.{ℕ}
use mathlib.Core.Path.{◌≡◌, refl}
use mathlib.Core.List.{List, [], ◌∷◌, ◌++◌}
use Rattle.laws.specs.Lists.{gathered}
use Rattle.words.specs.Places.{ports}
use Rattle.meaning.specs.Log.{until}
use Rattle.request.specs.Place.{place_of}
use Rattle.connector.specs.declared.Completion.{Completion}
use Rattle.hub.specs.Completions.{inserted, ordered}
use Rattle.shown.proofs.Known.{Known, due_of}

-- of one connector, in the next n microseconds
abbrev pub due : ℕ → (ℕ → Known) → ℕ → ℕ → List Completion
due t K n port = due_of t n (place_of 1 port) (K port) (until t (K port).sending)

-- of all connectors, ordered by moment, then by port
abbrev pub completions : ℕ → (ℕ → Known) → ℕ → List Completion
completions t K n = ordered [] (gathered (due t K n) ports)

-- those of two lists are put in one after the other
pub ordered_append : (done a b : List Completion) → ordered done (a ++ b) ≡ ordered (ordered done a) b
ordered_append done [] b = refl
ordered_append done (x ∷ a) b = ordered_append (inserted x done) a b
