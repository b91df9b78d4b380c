-- The carrier of a connector.
use Rattle.std.specs.Prelude.{ℕ, ◌*◌, Bool, true, false, Option, Some, None, List, take}
use Rattle.pace.specs.Pace.{place_of}
use Rattle.meaning.specs.Time.{on_at}
use Rattle.connector.specs.declared.Run.{Run}

-- "for each connector whether its carrier is on now, off where nothing is transmitted": by the counts that it keeps
abbrev pub carrier_of : List ℕ → Option Run → Bool
carrier_of kept None = false
carrier_of kept (Some r) = on_at true (take (2 * r.count) kept) (place_of r.pace)
