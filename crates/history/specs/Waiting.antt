-- The hub and its store after calls, and two waits in the place of one. Document 01: "Of two waits, the second's moments are counted from
-- its own start; add the first wait to compare."
use Rattle.std.specs.Prelude.{ℕ, ◌+◌, ◌≡◌, List, [], ◌∷◌, ◌++◌, map}
use Rattle.meaning.specs.Table.{Call, waiting}
use Rattle.pace.specs.Pace.{micros}
use Rattle.connector.specs.declared.Answer.TheVariants as answer
use Rattle.connector.specs.declared.Completion.{Completion}
use Rattle.hub.specs.declared.Hub.{Hub}
use Rattle.history.specs.Run.{Called, called, run}

-- a moment counted from earlier
abbrev pub moved_by : ℕ → Completion → Completion
moved_by a c = record { owner = c.owner; moment = micros (a + c.moment.0); place = c.place; id = c.id }

-- the hub and its store after calls
pub record Reached : Type 0 where
  pub hub : Hub
  pub store : List ℕ

abbrev pub reached : Hub → List ℕ → List Call → Reached
reached hub store [] = record { hub = hub; store = store }
reached hub store (call ∷ l) = reached (called hub store call).hub (called hub store call).store l

abbrev pub at : Reached → Call → Called
at r call = called r.hub r.store call

abbrev pub afterwards : Called → Reached
afterwards c = record { hub = c.hub; store = c.store }

-- a wait of a + b, and a wait of a with one of b behind it: the same completions, moments from the first one's start, the same hub, and the
-- same is said to all later calls
pub record Composes (r : Reached) (a b : ℕ) : Type 0 where
  pub completions : (at r (waiting (a + b))).completions
      ≡ (at r (waiting a)).completions ++ map (moved_by a) (at (afterwards (at r (waiting a))) (waiting b)).completions
  pub hub : afterwards (at (afterwards (at r (waiting a))) (waiting b)) ≡ afterwards (at r (waiting (a + b)))
  pub later : (l : List Call)
      → let two = afterwards (at (afterwards (at r (waiting a))) (waiting b)) in
      let one = afterwards (at r (waiting (a + b))) in
      run two.hub two.store l ≡ run one.hub one.store l

-- "A wait of 0 changes nothing.": taken, with the hub and the store as they were, nothing complete, and the same said to all later calls
pub record ChangesNothing (r : Reached) (call : Call) : Type 0 where
  pub accepted : (at r call).answer ≡ answer.Taken
  pub hub : afterwards (at r call) ≡ r
  pub completions : (at r call).completions ≡ []
  pub later : (l : List Call)
      → let after = afterwards (at r call) in
      run after.hub after.store l ≡ run r.hub r.store l
