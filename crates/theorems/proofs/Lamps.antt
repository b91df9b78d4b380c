-- Lamps over logs and histories: each sentence of request 3 of document 02 on what a lamp does is one theorem.
use Prim.Native.Nat.{ℕ, ◌+◌, ◌*◌, ◌≤◌}
use mathlib.Core.Path.{◌≡◌, refl, sym, ap, ◌∙◌}
use mathlib.Core.Bool.{true, false, not}
use mathlib.Core.List.{List, [], ◌∷◌, ◌++◌, map, append-nil}
use mathlib.Core.Option.{none}
use native.Mathlib.Nat.{add_assoc}
use native.Mathlib.Omega.{arith}
use borrow.Author.Tests.{eqb-true, eq-eqb, not-true, le-leb}
use lib.Dec.{leb, eqb}
use Rattle.laws.proofs.Choice.{by_test, cond_case, not_both, and_left, and_right}
use Rattle.laws.specs.Lists.{all}
use Rattle.words.specs.Places.{connectors, ports}
use Rattle.words.specs.Digits.{Spells}
use Rattle.words.specs.Decimal.{decimal}
use Rattle.meaning.specs.Line.{is_number, within, is_address}
use Rattle.meaning.specs.Lamp.{Lamp, exactly, dark, towards, exact_level, level, turned}
use Rattle.meaning.specs.Log.{Deed, passed, setting, switched, event, changed, felt, lit, now, mode_of, lamp_of, on_air}
use Rattle.meaning.specs.Table.{Call, line, deeds_of, judge, logged, log_of, levels, said, set_ir, stopir, set_led_lighting, get_led_lighting, request}
use Rattle.theorems.specs.Deeds.{ModeWord, in_lighting, Did, nothing, changes, reads, lights, switches, starts, renews, halts, leaves, passes}
use Rattle.theorems.specs.Spelled.{Heard, setting_text}
use Rattle.theorems.specs.Lamps.{Moved, LampWithin, is_lighting, LastLit, never, entered, last, Step, session, said_of}
use Rattle.theorems.proofs.Deeds.{did}
use Rattle.theorems.proofs.Commands.{mode_again}
use Rattle.theorems.proofs.Ramps.{instant, moves_exactly, from_exact_level, exact_most, level_most}

-- ---- within the limits, over a history
dark_within : (t : ℕ) → LampWithin dark t
dark_within t = record { from_most = omega arith; target_most = omega arith; ramp_most = omega arith; begun = omega arith; unlit = λ _. refl }

within_later : {x : Lamp} {t u : ℕ} → LampWithin x t → t ≤ u → LampWithin x u
within_later w h =
    record {
      from_most = w.from_most;
      target_most = w.target_most;
      ramp_most = w.ramp_most;
      begun = omega (arith, w.begun);
      unlit = w.unlit;
    }

pub turned_within : {x : Lamp} {t : ℕ} (target ramp : ℕ) → LampWithin x t → 1 ≤ target → target ≤ 100 → ramp ≤ 10 → LampWithin (turned x target ramp t) t
unfolding turned
turned_within {t = t} target ramp w least most low =
    record { from_most = exact_most w t; target_most = most; ramp_most = low; begun = omega arith; unlit = λ e. absurd (omega arith) }

-- what a call did keeps a lamp within the limits
pub did_lamp_within : (p : ℕ) (log : List Deed) (call : Call) (ds : List Deed) → Did log call ds → LampWithin (lamp_of p log) (now log)
    → LampWithin (lamp_of p (ds ++ log)) (now (ds ++ log))
did_lamp_within p log call ds nothing w = w
did_lamp_within p log call ds (changes r c word _ _ _ _ _) w =
    cond_case (λ (x : Lamp). LampWithin x (now log)) (eqb r p) dark (lamp_of p log) (λ _. dark_within (now log)) (λ _. w)
did_lamp_within p log call ds (reads r v _ _ _ _) w = w
did_lamp_within p log call ds (lights r c target ramp _ _ _ least most low) w =
    cond_case (λ (x : Lamp). LampWithin x (now log)) (eqb r p) (turned (lamp_of p log) target ramp (now log)) (lamp_of p log)
    (λ _. turned_within target ramp w least most low) (λ _. w)
did_lamp_within p log call ds (switches r c v _ _ _) w = w
did_lamp_within p log call ds (starts r c f ps _ _ _ _ _) w = w
did_lamp_within p log call ds (renews r c s _ _ _ _ _) w = w
did_lamp_within p log call ds (halts r c _ _ _) w = w
did_lamp_within p log call ds (leaves c _ _) w = w
did_lamp_within p log call ds (passes n _ _) w = within_later w (omega arith)

-- after every history each lamp is within the limits
pub lamp_within : (h : List Call) (p : ℕ) → LampWithin (lamp_of p (log_of h)) (now (log_of h))
lamp_within [] p = dark_within 0
lamp_within (call ∷ h) p = did_lamp_within p (log_of h) call _ (did (log_of h) call) (lamp_within h p)

-- the levels are those of the three connectors, in their order
pub levels_are : (log : List Deed)
    → levels log ≡ level (lamp_of 1 log) (now log) ∷ level (lamp_of 2 log) (now log) ∷ level (lamp_of 3 log) (now log) ∷ []
levels_are log = refl

-- no level is above 100 percent, at any moment
pub level_within : (h : List Call) (p t : ℕ) → level (lamp_of p (log_of h)) t ≤ 100
level_within h p t = level_most (lamp_within h p) t

pub levels_within : (h : List Call) → all (λ n. leb n 100) (levels (log_of h)) ≡ true
levels_within h = go ports
  where
    go : (l : List ℕ) → all (λ n. leb n 100) (map (λ p. level (lamp_of p (log_of h)) (now (log_of h))) l) ≡ true
    go [] = refl
    go (p ∷ l) = rw (le-leb (level (lamp_of p (log_of h)) (now (log_of h))) 100 (level_within h p (now (log_of h)))) (go l)

-- ---- 0 where there is no lamp
pub dark_level : (t : ℕ) → level dark t ≡ 0
unfolding level exact_level
dark_level t = refl

-- a target of 0 stands with a level of 0 alone
pub no_target_no_level : (h : List Call) (p t : ℕ) → (lamp_of p (log_of h)).target ≡ 0 → level (lamp_of p (log_of h)) t ≡ 0
no_target_no_level h p t e = rw ((lamp_within h p).unlit e) (dark_level t)

did_no_lamp : (p : ℕ) (log : List Deed) (call : Call) (ds : List Deed) → Did log call ds → (in_lighting p log ≡ false → lamp_of p log ≡ dark)
    → in_lighting p (ds ++ log) ≡ false → lamp_of p (ds ++ log) ≡ dark
did_no_lamp p log call ds nothing ih e = ih e
did_no_lamp p log call ds (changes r c word _ _ _ _ _) ih e = by_test (eqb r p) (λ t. rw t) (λ t. rw t (ih (rw t at e)))
did_no_lamp p log call ds (reads r v _ _ _ _) ih e = ih e
did_no_lamp p log call ds (lights r c target ramp _ _ mode _ _ _) ih e =
    by_test (eqb r p) (λ t. not_both (rw (← eqb-true r p t) mode) e) (λ t. rw t (ih e))
did_no_lamp p log call ds (switches r c v _ _ _) ih e = ih e
did_no_lamp p log call ds (starts r c f ps _ _ _ _ _) ih e = ih e
did_no_lamp p log call ds (renews r c s _ _ _ _ _) ih e = ih e
did_no_lamp p log call ds (halts r c _ _ _) ih e = ih e
did_no_lamp p log call ds (leaves c _ _) ih e = ih e
did_no_lamp p log call ds (passes n _ _) ih e = ih e

-- a connector that is not in LED_LIGHTING has no lamp, whatever it had before
pub no_lamp : (h : List Call) (p : ℕ) → in_lighting p (log_of h) ≡ false → lamp_of p (log_of h) ≡ dark
no_lamp [] p e = refl
no_lamp (call ∷ h) p e = did_no_lamp p (log_of h) call _ (did (log_of h) call) (no_lamp h p) e

pub no_lamp_no_level : (h : List Call) (p : ℕ) → in_lighting p (log_of h) ≡ false → (t : ℕ) → level (lamp_of p (log_of h)) t ≡ 0
no_lamp_no_level h p e t = rw (no_lamp h p e) (dark_level t)

-- ---- "A connector entering this mode is at 0 with target 0", whatever call changed the mode
pub entering_dark : (log : List Deed) (call : Call) (p : ℕ) → (mode_of p (logged log call) ≡ mode_of p log → ⊥)
    → lamp_of p (logged log call) ≡ dark
entering_dark log call p differs = go (deeds_of (judge log call)) (did log call) differs
  where
    go : (ds : List Deed) → Did log call ds → (mode_of p (ds ++ log) ≡ mode_of p log → ⊥) → lamp_of p (ds ++ log) ≡ dark
    go ds nothing d = absurd (d refl)
    go ds (changes q _ word _ _ _ _ _) d = by_test (eqb q p) (λ t. rw t) (λ t. absurd (d (rw t)))
    go ds (reads q v _ _ _ _) d = absurd (d refl)
    go ds (lights q _ target ramp _ _ _ _ _ _) d = absurd (d refl)
    go ds (switches q _ state _ _ _) d = absurd (d refl)
    go ds (starts q _ f ps _ _ _ _ _) d = absurd (d refl)
    go ds (renews q _ s _ _ _ _ _) d = absurd (d refl)
    go ds (halts q _ _ _ _) d = absurd (d refl)
    go ds (leaves c _ _) d = absurd (d refl)
    go ds (passes n _ _) d = absurd (d refl)

-- only a line turns a lamp or takes it away: no reading, no closing, no wait, refused or not
pub only_lines_turn : (log : List Deed) (call : Call) (p : ℕ) → ((connection room : ℕ) (s : List ℕ) → call ≡ line connection room s → ⊥)
    → lamp_of p (logged log call) ≡ lamp_of p log
only_lines_turn log call p n = go (deeds_of (judge log call)) (did log call)
  where
    go : (ds : List Deed) → Did log call ds → lamp_of p (ds ++ log) ≡ lamp_of p log
    go ds nothing = refl
    go ds (changes q c word by _ _ _ _) = absurd (n c by.room by.text by.is)
    go ds (reads q v _ _ _ _) = refl
    go ds (lights q c target ramp by _ _ _ _ _) = absurd (n c by.room by.text by.is)
    go ds (switches q _ state _ _ _) = refl
    go ds (starts q _ f ps _ _ _ _ _) = refl
    go ds (renews q _ s _ _ _ _ _) = refl
    go ds (halts q _ _ _ _) = refl
    go ds (leaves c _ _) = refl
    go ds (passes m _ _) = refl

-- ---- where a lamp comes from
lit_later : (p : ℕ) (d : Deed) {log : List Deed} {x : Lamp} → is_lighting p d ≡ false → LastLit log p x → LastLit (d ∷ log) p x
lit_later p d e (never a) = never (rw (e, a))
lit_later p d e (entered later earlier mode splits a) = entered (d ∷ later) earlier mode (ap (λ (k : List Deed). d ∷ k) splits) (rw (e, a))
lit_later p d e (last later earlier target ramp splits a) =
    last (d ∷ later) earlier target ramp (ap (λ (k : List Deed). d ∷ k) splits) (rw (e, a))

-- "A new target starts from the exact level": a lamp is made of its last target, its ramp, the moment of it and the exact level then
pub last_target : (log : List Deed) (p : ℕ) → LastLit log p (lamp_of p log)
unfolding turned
last_target [] p = never refl
last_target (passed n ∷ log) p = lit_later p _ refl (last_target log p)
last_target (setting q (changed mode) ∷ log) p =
    by_test (eqb q p)
    (λ t. let g : q ≡ p = eqb-true q p t in rw t (entered [] log mode (rw g) refl))
    (λ t. rw t (lit_later p _ t (last_target log p)))
last_target (setting q (felt value) ∷ log) p = lit_later p _ refl (last_target log p)
last_target (setting q (lit target ramp) ∷ log) p =
    by_test (eqb q p)
    (λ t. let g : q ≡ p = eqb-true q p t in rw t (last [] log target ramp (rw g) refl))
    (λ t. rw t (lit_later p _ t (last_target log p)))
last_target (switched q state ∷ log) p = lit_later p _ refl (last_target log p)
last_target (event x ∷ log) p = lit_later p _ refl (last_target log p)

-- all other deeds leave it as it is
pub unlit_keeps : (p : ℕ) (ds log : List Deed) → all (λ d. not (is_lighting p d)) ds ≡ true → lamp_of p (ds ++ log) ≡ lamp_of p log
unlit_keeps p [] log a = refl
unlit_keeps p (passed n ∷ ds) log a = unlit_keeps p ds log a
unlit_keeps p (setting q (changed mode) ∷ ds) log a =
    rw (not-true (eqb q p) (and_left _ _ a)) (unlit_keeps p ds log (and_right (not (eqb q p)) _ a))
unlit_keeps p (setting q (felt value) ∷ ds) log a = unlit_keeps p ds log a
unlit_keeps p (setting q (lit target ramp) ∷ ds) log a =
    rw (not-true (eqb q p) (and_left _ _ a)) (unlit_keeps p ds log (and_right (not (eqb q p)) _ a))
unlit_keeps p (switched q state ∷ ds) log a = unlit_keeps p ds log a
unlit_keeps p (event x ∷ ds) log a = unlit_keeps p ds log a

-- and it is made of nothing else
pub last_lit_is_lamp : (log : List Deed) (p : ℕ) {x : Lamp} → LastLit log p x → lamp_of p log ≡ x
unfolding turned
last_lit_is_lamp log p (never a) = ap (lamp_of p) (sym (append-nil log)) ∙ unlit_keeps p log [] a
last_lit_is_lamp log p (entered later earlier mode splits a) =
    rw splits (unlit_keeps p later (setting p (changed mode) ∷ earlier) a ∙ rw (eq-eqb p p refl))
last_lit_is_lamp log p (last later earlier target ramp splits a) =
    rw splits (unlit_keeps p later (setting p (lit target ramp) ∷ earlier) a ∙ rw (eq-eqb p p refl))

-- from the exact level that it had when it got its last target, n µs ago, a lamp has moved ramp × n hundred-thousandths of a percent towards it
module _ (p target ramp : ℕ) (later earlier log : List Deed) (splits : log ≡ later ++ (setting p (lit target ramp) ∷ earlier))
    (quiet : all (λ d. not (is_lighting p d)) later ≡ true) where
  lamp_is : lamp_of p log ≡ turned (lamp_of p earlier) target ramp (now earlier)
  unfolding turned
  lamp_is = last_lit_is_lamp log p (last later earlier target ramp splits quiet)

  pub moved_since_target : (n : ℕ) → now log ≡ now earlier + n → 1 ≤ ramp
      → Moved (exact_level (lamp_of p earlier) (now earlier)) (exactly target) (ramp * n) (exact_level (lamp_of p log) (now log))
  unfolding turned
  moved_since_target n e r =
      let x = turned (lamp_of p earlier) target ramp (now earlier) in
      let m = moves_exactly x (now earlier) (omega arith) n r in
      rw (lamp_is, e) (rw (from_exact_level (lamp_of p earlier) target ramp (now earlier) r) at m)

  pub instant_since_target : ramp ≡ 0 → exact_level (lamp_of p log) (now log) ≡ exactly target
  unfolding turned
  instant_since_target z = rw lamp_is (instant (turned (lamp_of p earlier) target ramp (now earlier)) (now log) z)

-- after every history a wait moves each lamp by its ramp × n hundred-thousandths of a percent towards its target
pub wait_moves : (h : List Call) (p n : ℕ)
    → let x = lamp_of p (log_of h) in
    1 ≤ x.ramp
    → Moved (exact_level x (now (log_of h))) (exactly x.target) (x.ramp * n) (exact_level (lamp_of p (passed n ∷ log_of h)) (now (passed n ∷ log_of h)))
wait_moves h p n r = moves_exactly (lamp_of p (log_of h)) (now (log_of h)) (lamp_within h p).begun n r

-- ---- "Demand 3 covers levels from here": two waits and one of their sum
pub levels_compose : (log : List Deed) (n m : ℕ) → levels (passed m ∷ passed n ∷ log) ≡ levels (passed (n + m) ∷ log)
levels_compose log n m = ap (λ (t : ℕ). map (λ p. level (lamp_of p log) t) ports) (add_assoc (now log) n m)

-- "the present mode again changes nothing": so a ramp runs on
pub mode_again_keeps : (log : List Deed) (connection room : ℕ) {dm dp mode : List ℕ} {p : ℕ} → Heard connection room → Spells dm 1 → Spells dp p
    → 1 ≤ p → p ≤ connectors → ModeWord p mode → on_air p log ≡ none → mode_of p log ≡ mode
    → logged log (line connection room (setting_text dm dp mode)) ≡ log
mode_again_keeps log connection room h one port least most word off present =
    ap (λ j. deeds_of j ++ log) (mode_again log connection room h one port least most word off present)

-- ---- worked values: what each call of the session is told, and the levels after it
pub lamps_worked : said [] (map (λ (s : Step). s.call) session) ≡ said_of session
unfolding decimal is_number within is_address towards exact_level level turned on_air set_ir get_led_lighting set_led_lighting stopir request
lamps_worked = refl
