-- When the next completion is due, exactly: no shorter wait completes anything, and one of just that long does.
use Rattle.std.specs.Prelude.{ℕ, ◌≤◌, ◌<◌, ◌≡◌, Option, Some, None, List, [], ◌∷◌}
use Rattle.pace.specs.declared.Micros.{Micros}
use Rattle.connector.specs.declared.Completion.{Completion}
use Rattle.hub.specs.declared.Hub.{Hub}
use Rattle.hub.specs.Wait.{wait_call}
use Rattle.history.specs.Run.{listed}

-- what a wait completes
abbrev pub completed_in : Hub → ℕ → List Completion
completed_in hub n = listed (wait_call hub n).completions

pub data DueExactly (hub : Hub) : Option Micros → Type 0 where
  not_soon : ((n : ℕ) → n ≤ 1000000000 → completed_in hub n ≡ []) → DueExactly hub None
  soon : {t : Micros} → t.0 ≤ 1000000000 → ((n : ℕ) → n < t.0 → completed_in hub n ≡ []) → (first : Completion) (rest : List Completion)
      → completed_in hub t.0 ≡ first ∷ rest → DueExactly hub (Some t)
