-- A lamp of any connector shows any level with any target: it is turned on its way from 0 to 100, after as many times 10,000 µs as percents.
use Prim.Native.Nat.{ℕ, ◌+◌, ◌-◌, ◌*◌, ◌≤◌}
use mathlib.Core.Path.{◌≡◌, refl, ap, ◌∙◌}
use mathlib.Core.Bool.{true}
use mathlib.Core.List.{List, [], ◌∷◌, ◌++◌}
use native.Mathlib.Nat.{zero-add}
use native.Mathlib.Omega.{arith}
use borrow.Author.Tests.{eq-eqb, le-ltb, ltb-true, ltb-false}
use lib.Dec.{ltb}
use Rattle.laws.specs.Bytes.{bytes}
use Rattle.laws.specs.Checks.{between}
use Rattle.laws.proofs.Choice.{by_test, between_least, between_most}
use Rattle.words.specs.Digits.{Spells}
use Rattle.words.specs.Decimal.{decimal}
use Rattle.words.specs.Places.{connectors}
use Rattle.text.proofs.Decimals.{decimal_spells}
use Rattle.request.specs.Place.{place_of}
use Rattle.meaning.specs.Line as text
use Rattle.meaning.specs.Lamp.{dark, exactly, towards, exact_level, level, turned}
use Rattle.meaning.specs.Log.{Deed, passed, setting, changed, lit, on_air}
use Rattle.meaning.specs.Table.{does, taken, reply, Call, line, waiting, judge, said}
use Rattle.theorems.specs.Deeds.{lighting}
use Rattle.theorems.specs.Spelled.{fields, at, lamp_line}
use Rattle.theorems.proofs.Spelled.{set_ir_spelled, set_led_lighting_spelled, get_led_lighting_spelled}
use Rattle.theorems.proofs.Ramps.{from_exact_level}
use Rattle.logger.specs.declared.Heard.TheVariants as heard
use Rattle.logger.specs.Heard.{line_of}
use Rattle.logged.specs.Written.{Writes}
use Rattle.logged.proofs.Said.{with_last}
use Rattle.logged.proofs.Texts.{alone_written}
use Rattle.logged.proofs.Ids.{next_call, one, heard}

tens : Spells (bytes "10") 10
tens = record { some = omega arith; few = omega arith; decimal = refl; value = refl }

hundred : Spells (bytes "100") 100
hundred = record { some = omega arith; few = omega arith; decimal = refl; value = refl }

-- connector p becomes a lamp, and gets a target
abbrev becomes : ℕ → Call
becomes p = line 0 128 (fields (bytes "set_IR" ∷ at (bytes "1") (decimal p) ∷ bytes "LED_LIGHTING" ∷ []))

abbrev turns : ℕ → ℕ → List ℕ → List ℕ → Call
turns connection p target ramp = line connection 128 (fields (bytes "set_LED_LIGHTING" ∷ at (bytes "1") (decimal p) ∷ target ∷ ramp ∷ []))

abbrev asks : ℕ → Call
asks p = line 1 128 (fields (bytes "get_LED_LIGHTING" ∷ at (bytes "1") (decimal p) ∷ []))

-- what these calls leave
abbrev lamped : ℕ → List Deed
lamped p = setting p (changed (bytes "LED_LIGHTING")) ∷ []

abbrev rising : ℕ → List Deed
rising p = setting p (lit 100 10) ∷ lamped p

abbrev risen : ℕ → ℕ → List Deed
risen p n = passed n ∷ rising p

-- from 0 as far as the way goes
up_to : (goal way : ℕ) → way ≤ goal → towards 0 goal way ≡ way
unfolding towards
up_to goal way h =
    by_test (ltb 0 goal)
    (λ e. rw e (by_test (ltb (0 + way) goal) (λ f. rw f (omega arith)) (λ f. rw f (omega (arith, ltb-false (0 + way) goal f)))))
    (λ e. rw e (by_test (ltb (goal + way) 0) (λ f. absurd (omega (arith, ltb-true (goal + way) 0 f))) (λ f. rw f (omega (arith, ltb-false 0 goal e)))))

module _ (p : ℕ) (port : between 1 connectors p ≡ true) where
  -- it is one of the connectors
  digits : Spells (decimal p) p
  digits = decimal_spells p (omega (arith, between_most 1 connectors p port))

  least : 1 ≤ p
  least = between_least 1 connectors p port

  most : p ≤ connectors
  most = between_most 1 connectors p port

  becomes_judged : judge [] (becomes p) ≡ reply (text.line "IR," 1 p (bytes "LED_LIGHTING")) (lamped p)
  unfolding on_air
  becomes_judged = set_ir_spelled [] 0 128 (heard 0 (omega arith)) digits least most one (lighting refl)

  rising_judged : judge (lamped p) (turns 0 p (bytes "100") (bytes "10"))
      ≡ reply (lamp_line (lamped p) p (turned dark 100 10 0)) (setting p (lit 100 10) ∷ [])
  rising_judged =
      set_led_lighting_spelled (lamped p) 0 128 (heard 0 (omega arith)) digits least most one hundred (omega arith) (omega arith) tens (omega arith)
      ∙ rw (eq-eqb p p refl)

  waiting_judged : (n : ℕ) → n ≤ 1000000 → judge (rising p) (waiting n) ≡ does (taken []) (passed n ∷ [])
  unfolding on_air
  waiting_judged n h = rw (le-ltb 1000000000 n (omega arith))

  -- after so many times 10,000 µs it is at so many percent, and stays there as it is turned
  module _ (percent : ℕ) (small : percent ≤ 100) where
    way : exact_level (turned dark 100 10 0) (percent * 10000) ≡ exactly percent
    unfolding turned exact_level
    way =
        let gone : 10 * (percent * 10000 - 0) ≡ exactly percent = omega arith in
        ap (towards 0 (exactly 100)) gone ∙ up_to (exactly 100) (exactly percent) (omega arith)

    shown : (target : ℕ) → level (turned (turned dark 100 10 0) target 1 (percent * 10000)) (percent * 10000) ≡ percent
    unfolding level
    shown target = rw (from_exact_level (turned dark 100 10 0) target 1 (percent * 10000) (omega arith), way) (omega arith)

    module _ (target : ℕ) (some : 1 ≤ target) (few : target ≤ 100) where
      turned_judged : judge (risen p (percent * 10000)) (turns 1 p (decimal target) (bytes "1"))
          ≡ reply (text.line "LED_LIGHTING," 1 p (decimal percent ++ bytes "," ++ decimal target)) (setting p (lit target 1) ∷ [])
      unfolding turned
      turned_judged =
          set_led_lighting_spelled (risen p (percent * 10000)) 1 128 (heard 1 (omega arith)) digits least most one (decimal_spells target (omega arith))
          some few one (omega arith)
          ∙ rw (eq-eqb p p refl, zero-add)
          (ap (λ (n : ℕ). reply (text.line "LED_LIGHTING," 1 p (decimal n ++ bytes "," ++ decimal target)) (setting p (lit target 1) ∷ [])) (shown target))

      pub lamp_written : Writes (said []) (line_of (heard.Lamp (place_of 1 p) percent target))
      unfolding line_of
      lamp_written =
          let wait = percent * 10000 in
          let up = turns 0 p (bytes "100") (bytes "10") in
          let last = turns 1 p (decimal target) (bytes "1") in
          alone_written (becomes p ∷ up ∷ waiting wait ∷ last ∷ []) 1 (heard.Lamp (place_of 1 p) percent target)
          (next_call 1 [] (becomes p) (up ∷ waiting wait ∷ last ∷ []) _ becomes_judged
          ∙ next_call 1 (lamped p) up (waiting wait ∷ last ∷ []) _ rising_judged
          ∙ next_call 1 (rising p) (waiting wait) (last ∷ []) _ (waiting_judged wait (omega arith))
          ∙ next_call 1 (risen p wait) last [] _ turned_judged
          ∙ ap (λ (words : List ℕ). words ∷ []) (with_last "LED_LIGHTING," (place_of 1 p) (decimal percent ++ bytes "," ++ decimal target)))

  dark_judged : judge (lamped p) (asks p) ≡ reply (text.line "LED_LIGHTING," 1 p (decimal 0 ++ bytes "," ++ decimal 0)) []
  unfolding level exact_level
  dark_judged = get_led_lighting_spelled (lamped p) 1 128 (heard 1 (omega arith)) digits least most one ∙ rw (eq-eqb p p refl)

  pub dark_written : Writes (said []) (line_of (heard.Lamp (place_of 1 p) 0 0))
  unfolding line_of
  dark_written =
      alone_written (becomes p ∷ asks p ∷ []) 1 (heard.Lamp (place_of 1 p) 0 0)
      (next_call 1 [] (becomes p) (asks p ∷ []) _ becomes_judged ∙ next_call 1 (lamped p) (asks p) [] _ dark_judged
      ∙ ap (λ (words : List ℕ). words ∷ []) (with_last "LED_LIGHTING," (place_of 1 p) (decimal 0 ++ bytes "," ++ decimal 0)))
