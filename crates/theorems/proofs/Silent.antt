-- A connector in SENSOR or in LED_LIGHTING transmits nothing, after every history.
use Prim.Native.Nat.{ℕ}
use mathlib.Core.Path.{◌≡◌, refl}
use mathlib.Core.Bool.{true, or-true}
use mathlib.Core.List.{List, [], ◌∷◌, ◌++◌}
use mathlib.Core.Option.{none}
use borrow.Author.Tests.{eqb-true}
use lib.Dec.{eqb}
use Rattle.laws.proofs.Choice.{by_test, not_both}
use Rattle.meaning.specs.Log.{Deed, now, last_of, on_air}
use Rattle.meaning.specs.Table.{Call, log_of}
use Rattle.theorems.specs.Deeds.{in_sensor, in_lighting, silent, Did, nothing, changes, reads, lights, switches, starts, renews, halts, leaves, passes}
use Rattle.theorems.proofs.Deeds.{did}
use Rattle.theorems.proofs.Times.{last_begun, none_later}

did_silent : (h : List Call) (p : ℕ) (call : Call) (ds : List Deed) → Did (log_of h) call ds
    → (silent p (log_of h) ≡ true → on_air p (log_of h) ≡ none) → silent p (ds ++ log_of h) ≡ true → on_air p (ds ++ log_of h) ≡ none
unfolding on_air
did_silent h p call ds nothing ih e = ih e
did_silent h p call ds (changes r c word _ _ _ _ air) ih e =
    by_test (eqb r p) (λ t. rw (← eqb-true r p t) air) (λ t. ih (rw t at e))
did_silent h p call ds (reads r v _ _ _ _) ih e = ih e
did_silent h p call ds (lights r c target ramp _ _ _ _ _ _) ih e = ih e
did_silent h p call ds (switches r c v _ _ _) ih e = ih e
did_silent h p call ds (starts r c f ps _ _ mode _ _) ih e =
    by_test (eqb r p) (λ t. not_both e (rw (← eqb-true r p t) mode)) (λ t. rw t (ih e))
did_silent h p call ds (renews r c s _ _ mode _ _) ih e =
    by_test (eqb r p) (λ t. not_both e (rw (← eqb-true r p t) mode)) (λ t. rw t (ih e))
did_silent h p call ds (halts r c _ _ _) ih e = by_test (eqb r p) (λ t. rw t) (λ t. rw t (ih e))
did_silent h p call ds (leaves c _ _) ih e = ih e
did_silent h p call ds (passes n _ _) ih e = none_later (now (log_of h)) n (last_of p (log_of h)) (last_begun h p) (ih e)

-- what is silent transmits nothing: its carrier is off
pub silent_is_off : (h : List Call) (p : ℕ) → silent p (log_of h) ≡ true → on_air p (log_of h) ≡ none
unfolding on_air
silent_is_off [] p e = refl
silent_is_off (call ∷ h) p e = did_silent h p call _ (did (log_of h) call) (silent_is_off h p) e

pub sensor_silent : (h : List Call) (p : ℕ) → in_sensor p (log_of h) ≡ true → on_air p (log_of h) ≡ none
sensor_silent h p e = silent_is_off h p (rw e)

-- a ramp is no transmission
pub lamp_silent : (h : List Call) (p : ℕ) → in_lighting p (log_of h) ≡ true → on_air p (log_of h) ≡ none
lamp_silent h p e = silent_is_off h p (rw (e, or-true (in_sensor p (log_of h))))
