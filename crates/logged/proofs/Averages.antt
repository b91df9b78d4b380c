-- The average that a logger makes of a contact is made of readings that were taken.
use Prim.Native.Nat.{ℕ, ◌≤◌}
use mathlib.Core.Path.{◌≡◌, refl, ◌∙◌}
use mathlib.Core.Bool.{true, ◌||◌}
use mathlib.Core.List.{List, [], ◌∷◌}
use native.Mathlib.Omega.{arith}
use borrow.Author.Tests.{eqb-false, ne_eqb, leb-true}
use lib.Dec.{eqb, leb}
use lib.ListN.{length}
use Rattle.laws.specs.Lists.{all}
use Rattle.laws.proofs.Choice.{by_test, and_left, and_right, and_false}
use Rattle.meaning.specs.Table.{Call}
use Rattle.request.specs.declared.Place.{Place}
use Rattle.request.specs.Place.{place_of}
use Rattle.lines.specs.Cut.{Line}
use Rattle.logger.specs.declared.Heard.{Heard}
use Rattle.logger.specs.declared.Heard.TheVariants.{NotReply, State, Complete, Busy, Stop, Mode, Error, Version, Listed, Lamp}
use Rattle.logger.specs.Heard.{is_connector, is_relay, writable}
use Rattle.logger.specs.declared.tally.Tally.{Tally}
use Rattle.logger.specs.Tally.{same_place, tells, most_lines, tallied, average_of, how_many, is_reading}
use Rattle.logger.proofs.Tallies.{tally_counts}
use Rattle.logged.specs.Filed.{states_of, Filed}
use Rattle.logged.specs.Average.{average_in, MadeOfReadings}
use Rattle.logged.proofs.Texts.{says_writable}

-- what a tally counts are the states that were heard
record Counted (place : Place) (rs : List Heard) : Type 0 where
  readings : how_many (is_reading place) rs ≡ length (states_of place rs)
  ones : how_many (tells place 1) rs ≡ how_many (λ v. eqb v 1) (states_of place rs)

counted : (place : Place) (rs : List Heard) → all writable rs ≡ true → Counted place rs
unfolding writable
counted place [] may = record { readings = refl; ones = refl }
counted place (r ∷ rs) may =
    go r (and_left (writable r) (all writable rs) may) (counted place rs (and_right (writable r) (all writable rs) may))
  where
    go : (x : Heard) → writable x ≡ true → Counted place rs → Counted place (x ∷ rs)
    go NotReply e c = record { readings = c.readings; ones = c.ones }
    go (State a v) e c =
        let small = leb-true v 1 (and_left (leb v 1) (is_relay a || is_connector a) e) in
        by_test (same_place a place)
        (λ s.
        by_test (eqb v 1)
        (λ f. record { readings = rw (s, f, c.readings); ones = rw (s, f, c.ones) })
        (λ f.
        let differs = eqb-false v 1 f in
        let zero : v ≡ 0 = omega arith in
        record { readings = rw (s, zero, c.readings); ones = rw (s, zero, c.ones) }))
        (λ s. record { readings = rw (s, and_false, and_false, c.readings); ones = rw (s, and_false, c.ones) })
    go (Complete a id) e c = record { readings = c.readings; ones = c.ones }
    go (Busy a id) e c = record { readings = c.readings; ones = c.ones }
    go (Stop a) e c = record { readings = c.readings; ones = c.ones }
    go (Mode a m) e c = record { readings = c.readings; ones = c.ones }
    go (Error n a) e c = record { readings = c.readings; ones = c.ones }
    go Version e c = record { readings = c.readings; ones = c.ones }
    go (Listed d) e c = record { readings = c.readings; ones = c.ones }
    go (Lamp a level target) e c = record { readings = c.readings; ones = c.ones }

-- the average of a tally that counted some numbers is theirs
average_is : (t : Tally) (values : List ℕ) → t.readings ≡ length values → t.ones ≡ how_many (λ v. eqb v 1) values → average_of t ≡ average_in values
unfolding average_of
average_is t [] readings ones = rw readings
average_is t (v ∷ vs) readings ones = rw (readings, ones, ne_eqb (length (v ∷ vs)) 0 (λ z. omega arith))

-- a tally of all that a connection heard, as many lines as are counted
pub average_of_readings : {h calls : List Call} {connection : ℕ} {texts : List (List ℕ)} {lines : List Line} (f : Filed h calls connection texts lines)
    (p : ℕ) → length f.heard ≤ most_lines → MadeOfReadings h calls connection p (tallied (place_of 1 p) f.heard)
average_of_readings f p few =
    let t = tally_counts (place_of 1 p) f.heard few in
    let c = counted (place_of 1 p) f.heard (says_writable f.said) in
    let readings = t.readings ∙ c.readings in
    let ones = t.ones ∙ c.ones in
    record {
      values = states_of (place_of 1 p) f.heard;
      were_read = f.contacts p;
      readings = readings;
      ones = ones;
      average = average_is (tallied (place_of 1 p) f.heard) (states_of (place_of 1 p) f.heard) readings ones;
    }
