-- The moments of every transmission in the log of a history: its completion, and the copies finished.
use Prim.Native.Nat.{ℕ, ◌≤◌, ◌<◌}
use mathlib.Core.Path.{◌≡◌, subst}
use mathlib.Core.Bool.{true, false}
use mathlib.Core.List.{List}
use mathlib.Core.Option.{some}
use Rattle.meaning.specs.Time.{Transmission, done, complete, finish, finished}
use Rattle.meaning.specs.Log.{now, last_of}
use Rattle.meaning.specs.Table.{Call, log_of}
use Rattle.waveform.specs.Meaning.{copy_end}
use Rattle.waveform.specs.Paced.{Fit}
use Rattle.waveform.proofs.Meaning.{finish_first, finished_copies, finished_boundary}
use Rattle.shown.proofs.Shown.{FitFor}
use Rattle.shown.proofs.Logged.{logged_fit}

module _ (h : List Call) (port : ℕ) (s : Transmission) (e : last_of port (log_of h) ≡ some s) where
  -- it is one of an accepted command
  fit : Fit s (now (log_of h))
  fit = subst (FitFor (now (log_of h))) e (logged_fit h port)

  -- its completion is at the first whole microsecond at which the fraction reaches the total, and at no earlier one
  pub completion_first : complete s (now (log_of h)) ≡ false
      → (now (log_of h) < finish s) × (complete s (finish s) ≡ true) × ((u : ℕ) → s.start ≤ u → complete s u ≡ true → finish s ≤ u)
  completion_first runs = finish_first fit runs

  -- its finished copies are those whose end is reached
  pub copies_finished : (n : ℕ) → (n ≤ finished s (now (log_of h)) → copy_end s n ≤ done s (now (log_of h)))
      × (copy_end s n ≤ done s (now (log_of h)) → n ≤ finished s (now (log_of h)))
  copies_finished = finished_copies fit

  -- at an exact boundary the copy just ended is finished, and no more
  pub boundary_finished : (n : ℕ) → done s (now (log_of h)) ≡ copy_end s n → finished s (now (log_of h)) ≡ n
  boundary_finished = finished_boundary fit
