-- What the shared words of the meaning mean.
use Prim.Native.Nat.{ℕ, ◌^◌, ◌≤◌, ◌<◌}
use mathlib.Core.Path.{◌≡◌, refl, sym, ap, ◌∙◌}
use mathlib.Core.Bool.{true, false, cond}
use mathlib.Core.List.{List, [], ◌∷◌, ◌++◌}
use mathlib.Core.Logic.{◌↔◌}
use borrow.Author.Tests.{eqb-true, eq-eqb, le-ltb, le-leb}
use lib.Dec.{eqb}
use Rattle.laws.specs.Bytes.{bytes}
use Rattle.laws.specs.Lists.{same}
use Rattle.laws.proofs.Choice.{by_test, not_both}
use Rattle.laws.proofs.Lists.{same_is, same_self}
use Rattle.words.specs.Decimal.{decimal}
use Rattle.words.specs.Digits.{is_digit, worth}
use Rattle.words.specs.Pairs.{same_pair}
use Rattle.words.specs.Places.{ports, ports_of}
use Rattle.words.specs.declared.Pair.{Pair}
use Rattle.text.proofs.Decimals.{decimal_value}
use Rattle.text.proofs.Reading.{digit_range}
use Rattle.meaning.specs.Log.{Deed, mode_of}
use Rattle.meaning.specs.Table.{Call, log_of}
use Rattle.theorems.specs.Deeds.{ModeWord, ir, in_sensor, in_lighting, Did, nothing, changes, reads, lights, switches, starts, renews, halts, leaves, passes}
use Rattle.theorems.proofs.Deeds.{did}

-- two words are the same exactly when they are equal
pub same_means : (a b : List ℕ) → (same a b ≡ true) ↔ (a ≡ b)
same_means a b = (same_is a b, λ e. rw e (same_self b))

-- "module 1 has infrared connectors 1 to 3, module 2 has relays 1 to 3"
pub ports_are : (ports ≡ 1 ∷ 2 ∷ 3 ∷ []) × (ports_of 1 ≡ 3) × (ports_of 2 ≡ 3)
ports_are = (refl, refl, refl)

-- a connector is in SENSOR exactly when that is its word
pub in_sensor_means : (p : ℕ) (log : List Deed) → (in_sensor p log ≡ true) ↔ (mode_of p log ≡ bytes "SENSOR")
in_sensor_means p log = (λ e. sym (same_is _ (mode_of p log) e), λ e. rw e)

-- and in LED_LIGHTING where that is
pub in_lighting_means : (p : ℕ) (log : List Deed) → (in_lighting p log ≡ true) ↔ (mode_of p log ≡ bytes "LED_LIGHTING")
in_lighting_means p log = (λ e. sym (same_is _ (mode_of p log) e), λ e. rw e)

-- a lamp is no contact
pub lamp_no_sensor : (p : ℕ) (log : List Deed) → in_lighting p log ≡ true → in_sensor p log ≡ false
lamp_no_sensor p log e = rw ((in_lighting_means p log).0 e)

-- after every history each connector has one of the four modes
did_mode : (p : ℕ) (log : List Deed) (call : Call) (ds : List Deed) → Did log call ds → ModeWord p (mode_of p log)
    → ModeWord p (mode_of p (ds ++ log))
did_mode p log call ds nothing m = m
did_mode p log call ds (changes r c word _ _ is _ _) m = by_test (eqb r p) (λ t. rw (t, ← eqb-true r p t) is) (λ t. rw t m)
did_mode p log call ds (reads r v _ _ _ _) m = m
did_mode p log call ds (lights r c target ramp _ _ _ _ _ _) m = m
did_mode p log call ds (switches r c v _ _ _) m = m
did_mode p log call ds (starts r c f ps _ _ _ _ _) m = m
did_mode p log call ds (renews r c s _ _ _ _ _) m = m
did_mode p log call ds (halts r c _ _ _) m = m
did_mode p log call ds (leaves c _ _) m = m
did_mode p log call ds (passes n _ _) m = m

pub mode_word_law : (h : List Call) (p : ℕ) → ModeWord p (mode_of p (log_of h))
mode_word_law [] p = ir refl
mode_word_law (call ∷ h) p = did_mode p (log_of h) call _ (did (log_of h) call) (mode_word_law h p)

-- pairs are the same exactly when they are equal
pub same_pair_means : (p q : Pair) → (same_pair p q ≡ true) ↔ (p ≡ q)
unfolding same_pair
same_pair_means p q = (there, λ e. rw (e, eq-eqb q.on q.on refl, eq-eqb q.off q.off refl))
  where
    there : cond (eqb p.on q.on) (eqb p.off q.off) false ≡ true → p ≡ q
    there e =
        by_test (eqb p.on q.on)
        (λ t.
        let a = eqb-true p.on q.on t in
        let b = eqb-true p.off q.off (rw t at e) in
        λ i. record { on = a i; off = b i })
        (λ t. not_both (rw t at e) refl)

-- a digit is a byte from 48, "0", to 57, "9"
pub digit_means : (b : ℕ) → (is_digit b ≡ true) ↔ ((48 ≤ b) × (b ≤ 57))
digit_means b = (digit_range b, λ h. rw (le-ltb b 48 h.0, le-leb b 57 h.1))

-- a written number is worth itself, so different numbers are written differently
pub decimals_differ : (a b : ℕ) → a < 10 ^ 20 → b < 10 ^ 20 → decimal a ≡ decimal b → a ≡ b
decimals_differ a b h k e = sym (decimal_value a h) ∙ ap (worth 0) e ∙ decimal_value b k
