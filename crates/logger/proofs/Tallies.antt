-- A tally stays sound, and over any list of lines it is the count of its place's readings and of all else.
use Prim.Native.Nat.{ℕ, ◌+◌, ◌-◌, ◌≤◌}
use mathlib.Core.Path.{◌≡◌, refl, ◌∙◌}
use mathlib.Core.Bool.{Bool, true, false, not}
use mathlib.Core.Logic.{◌↔◌}
use mathlib.Core.List.{List, [], ◌∷◌, ◌++◌}
use native.Mathlib.Omega.{arith}
use borrow.Author.Tests.{eqb-true, eq-eqb, ne_eqb, eqb-false}
use lib.Dec.{eqb}
use lib.ListN.{length}
use Rattle.laws.proofs.Choice.{by_test, not_both, and_left, and_right}
use Rattle.request.specs.declared.Place.{Place}
use Rattle.logger.specs.declared.Heard.{Heard}
use Rattle.logger.specs.declared.Heard.TheVariants.{NotReply, State, Complete, Busy, Stop, Mode, Error, Version, Listed, Lamp}
use Rattle.logger.specs.declared.tally.Tally.{Tally}
use Rattle.logger.specs.Tally.{same_place, tells, tally, fresh_tally, most_lines, counted, SoundTally, tallied_from, tallied, how_many, is_reading, TallyOf}

-- places are compared part by part
pub same_place_is : (a b : Place) → same_place a b ≡ true → a ≡ b
same_place_is a b e =
    let m = eqb-true a.m b.m (and_left _ _ e) in
    let port = eqb-true a.port b.port (and_right (eqb a.m b.m) _ e) in
    λ i. record { m = m i; port = port i }

-- a state of a place is told by that state's line and by nothing else
pub tells_means : (place : Place) (v : ℕ) (h : Heard) → (tells place v h ≡ true) ↔ (h ≡ State place v)
tells_means place v h = (there h, λ e. rw (e, eq-eqb v v refl, eq-eqb place.m place.m refl, eq-eqb place.port place.port refl))
  where
    there : (x : Heard) → tells place v x ≡ true → x ≡ State place v
    there NotReply e = not_both e refl
    there (State a told) e =
        let is = same_place_is a place (and_right (eqb told v) (same_place a place) e) in
        rw (is, eqb-true told v (and_left _ _ e))
    there (Complete a id) e = not_both e refl
    there (Busy a id) e = not_both e refl
    there (Stop a) e = not_both e refl
    there (Mode a mode) e = not_both e refl
    there (Error number a) e = not_both e refl
    there Version e = not_both e refl
    there (Listed d) e = not_both e refl
    there (Lamp a level target) e = not_both e refl

pub fresh_sound : (place : Place) → SoundTally (fresh_tally place)
fresh_sound place = record { some = omega arith; most = omega arith }

-- one line more, of which it is known whether the tally is full and what the line tells
pub counted_sound : (t : Tally) (h : Heard) → SoundTally t → SoundTally (counted t h)
unfolding counted
counted_sound t h s =
    by_test (eqb t.others (most_lines - t.readings)) (λ e. rw e s) λ e. rw e
    (let room : t.readings + t.others + 1 ≤ most_lines =
    let differs = eqb-false t.others (most_lines - t.readings) e in
    omega (arith, s.most) in
    by_test (tells t.place 1 h) (λ f. rw f (record { some = omega (arith, s.some); most = omega arith })) λ f. rw f
    (by_test (tells t.place 0 h) (λ g. rw g (record { some = omega (arith, s.some); most = omega arith }))
    (λ g. rw g (record { some = s.some; most = omega arith }))))

-- from any tally that has room for all of the lines
record CountsFrom (t : Tally) (l : List Heard) (u : Tally) : Type 0 where
  of : u.place ≡ t.place
  readings : u.readings ≡ t.readings + how_many (is_reading t.place) l
  ones : u.ones ≡ t.ones + how_many (tells t.place 1) l
  others : u.others ≡ t.others + how_many (λ h. not (is_reading t.place h)) l

counts_from : (t : Tally) (l : List Heard) → t.readings + t.others + length l ≤ most_lines → CountsFrom t l (tallied_from t l)
unfolding counted
counts_from t [] room = record { of = refl; readings = omega arith; ones = omega arith; others = omega arith }
counts_from t (h ∷ l) room =
    let unfilled : eqb t.others (most_lines - t.readings) ≡ false = ne_eqb t.others (most_lines - t.readings) (λ e. absurd (omega arith)) in
    rw unfilled
    (by_test (tells t.place 1 h)
    (λ f. rw f (let c = counts_from (tally t.place (t.readings + 1) (t.ones + 1) t.others) l (omega arith) in
    record { of = c.of; readings = rw f (omega (arith, c.readings)); ones = rw f (omega (arith, c.ones)); others = rw f c.others }))
    λ f. rw f
    (by_test (tells t.place 0 h)
    (λ g. rw g (let c = counts_from (tally t.place (t.readings + 1) t.ones t.others) l (omega arith) in
    record { of = c.of; readings = rw (f, g) (omega (arith, c.readings)); ones = rw f c.ones; others = rw (f, g) c.others }))
    (λ g. rw g (let c = counts_from (tally t.place t.readings t.ones (t.others + 1)) l (omega arith) in
    record { of = c.of; readings = rw (f, g) c.readings; ones = rw f c.ones; others = rw (f, g) (omega (arith, c.others)) }))))

-- over any list of lines, as many as are counted
pub tally_counts : (place : Place) (l : List Heard) → length l ≤ most_lines → TallyOf place l (tallied place l)
tally_counts place l room =
    let c = counts_from (fresh_tally place) l (omega arith) in
    record {
      of = c.of;
      readings = omega (arith, c.readings);
      ones = omega (arith, c.ones);
      others = omega (arith, c.others);
    }

-- a full tally stays as it is
full_stays : (t : Tally) (l : List Heard) → t.others ≡ most_lines - t.readings → tallied_from t l ≡ t
unfolding counted
full_stays t [] e = refl
full_stays t (h ∷ l) e = rw (eq-eqb t.others (most_lines - t.readings) e) (full_stays t l e)

tallied_append : (t : Tally) (l k : List Heard) → tallied_from t (l ++ k) ≡ tallied_from (tallied_from t l) k
tallied_append t [] k = refl
tallied_append t (h ∷ l) k = tallied_append (counted t h) l k

others_rest : (test : Heard → Bool) (l : List Heard) → how_many test l + how_many (λ h. not (test h)) l ≡ length l
others_rest test [] = refl
others_rest test (h ∷ l) =
    by_test (test h) (λ e. rw e (omega (arith, others_rest test l))) (λ e. rw e (omega (arith, others_rest test l)))

-- of more lines it is the tally of the first ones, as many as are counted
pub tally_of_first : (place : Place) (l k : List Heard) → length l ≡ most_lines → tallied place (l ++ k) ≡ tallied place l
tally_of_first place l k e =
    let c = tally_counts place l (omega arith) in
    tallied_append (fresh_tally place) l k
    ∙ full_stays (tallied place l) k (omega (arith, c.readings, c.others, others_rest (is_reading place) l))
