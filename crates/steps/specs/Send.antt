-- What a sendir without a fault does to a connector.
use Rattle.std.specs.Prelude.{ℕ, ◌*◌, ◌/◌, Bool, false, not, Option, Some, None, List, [], ◌∷◌, eqb, length, take, drop}
use Rattle.laws.specs.Checks.{◌⇒◌, first}
use Rattle.words.specs.declared.Pair.{Pair}
use Rattle.words.specs.declared.Fields.{Fields}
use Rattle.words.specs.Pairs.{counts_of}
use Rattle.pace.specs.Pace.{periods, periods_of}
use Rattle.pace.specs.Pace as pace
use Rattle.store.specs.Store.{alike}
use Rattle.connector.specs.declared.Owner.{Owner}
use Rattle.connector.specs.declared.Run.{Run}
use Rattle.connector.specs.declared.Connector.{Connector}
use Rattle.connector.specs.Change.{owns}
use Rattle.steps.specs.declared.send.Verdict.{Verdict}
use Rattle.steps.specs.declared.send.Verdict.TheVariants as verdict

-- the pairs before the on count at the offset, and those from it on
abbrev pub lead_of : Fields → List Pair → List Pair
lead_of f ps = take (f.offset / 2) ps

abbrev pub tail_of : Fields → List Pair → List Pair
tail_of f ps = drop (f.offset / 2) ps

unfoldable pub run_of : Fields → List Pair → Run
run_of f ps =
    record {
      fields = f;
      count = length ps;
      pace = pace.started (periods (periods_of (lead_of f ps))) (periods (periods_of (tail_of f ps))) f.repeat;
    }

-- "equal id, freq, capped repeat, offset"
unfoldable pub same_fields : Fields → Fields → Bool
same_fields a b = first
    ((not (eqb a.id b.id) ⇒ false)
    ∷ (not (eqb a.freq b.freq) ⇒ false)
    ∷ (not (eqb a.repeat b.repeat) ⇒ false)
    ∷ []) (eqb a.offset b.offset)

-- "and pairs (plain or lettered alike)": those whose counts the connector keeps
unfoldable pub same_command : List ℕ → Run → Fields → List Pair → Bool
same_command kept r f ps = first
    ((not (same_fields r.fields f) ⇒ false)
    ∷ (not (eqb r.count (length ps)) ⇒ false)
    ∷ []) (alike (take (2 * length ps) kept) (counts_of ps))

-- idle: it starts; "From another connection, or if there is no owner: busyIR"; from the owner, equal: renewed, "with any other field: the
-- old one is dropped without a notice and the new one starts"
abbrev pub verdict_in : List ℕ → Option Run → Owner → ℕ → Fields → List Pair → Verdict
verdict_in kept None owner connection f ps = verdict.Start
verdict_in kept (Some r) owner connection f ps = first
    ((not (owns owner connection) ⇒ verdict.Busy)
    ∷ (same_command kept r f ps ⇒ verdict.Renew)
    ∷ []) verdict.Start

abbrev pub verdict_of : Connector → List ℕ → ℕ → Fields → List Pair → Verdict
verdict_of c kept connection f ps = verdict_in kept c.sending c.owner connection f ps
