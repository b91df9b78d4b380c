-- Logs that are alike in every look-up are answered alike for ever; so a wait of 0 changes nothing, waits add up, and a call that was refused
-- or answered with an error changes nothing that is said later.
use Prim.Native.Nat.{ℕ, ◌+◌}
use mathlib.Core.Path.{◌≡◌, refl, ap, ap₂, subst}
use mathlib.Core.Bool.{Bool, true, false, cond, not, ◌&&◌}
use mathlib.Core.List.{List, [], ◌∷◌, ◌++◌, map}
use mathlib.Core.Option
use mathlib.Core.Option.{Option, none}
use native.Mathlib.Nat.{add_assoc, add-zero}
use borrow.Author.Tests.{not-true}
use lib.Dec.{ltb, eqb}
use lib.ListN.{take}
use Rattle.laws.specs.Bytes.{bytes}
use Rattle.laws.specs.Checks.{holds}
use Rattle.laws.specs.Lists.{all, same, gathered}
use Rattle.laws.proofs.Choice.{clash, not_both}
use Rattle.laws.proofs.Checks.{first_all}
use Rattle.words.specs.Places.{ports}
use Rattle.meaning.specs.Time.{Transmission, carrier}
use Rattle.meaning.specs.Time as time
use Rattle.meaning.specs.Lamp.{Lamp, dark, level, turned}
use Rattle.meaning.specs.Log.{Deed, passed, setting, switched, event, changed, felt, lit, started, renewed, halted, left, now, mode_of, contact_of, lamp_of, relay_of, last_of, owner_of, on_air, until}
use Rattle.meaning.specs.Table.{refused, taken, replied, Judged, refusal, error, does, Row, no, Call, line, overlong, reading, closing, waiting, answer_of, deeds_of, row_of, judge, logged, due_of, due, ordered, completions, carriers, levels, Said, said, set_ir, get_ir, setstate, getstate, sendir, stopir, set_led_lighting, get_led_lighting, request}
use Rattle.theorems.specs.Later.{Alike}
use Rattle.theorems.specs.Occasion.{says_error}
use Rattle.theorems.proofs.Rows.{by_rows}

module _ (a b : List Deed) (q : Alike a b) where
  -- ---- the same deed keeps them alike
  moments_on : (d : Deed) → now (d ∷ a) ≡ now (d ∷ b)
  moments_on (passed n) = ap (λ (t : ℕ). t + n) q.moments
  moments_on (setting r x) = q.moments
  moments_on (switched r state) = q.moments
  moments_on (event x) = q.moments

  modes_on : (d : Deed) (p : ℕ) → mode_of p (d ∷ a) ≡ mode_of p (d ∷ b)
  modes_on (passed n) p = q.modes p
  modes_on (setting r (changed word)) p = ap (cond (eqb r p) word) (q.modes p)
  modes_on (setting r (felt value)) p = q.modes p
  modes_on (setting r (lit target ramp)) p = q.modes p
  modes_on (switched r state) p = q.modes p
  modes_on (event x) p = q.modes p

  contacts_on : (d : Deed) (p : ℕ) → contact_of p (d ∷ a) ≡ contact_of p (d ∷ b)
  contacts_on (passed n) p = q.contacts p
  contacts_on (setting r (changed word)) p = rw (q.contacts p)
  contacts_on (setting r (felt value)) p = rw (q.contacts p)
  contacts_on (setting r (lit target ramp)) p = q.contacts p
  contacts_on (switched r state) p = q.contacts p
  contacts_on (event x) p = q.contacts p

  lamps_on : (d : Deed) (p : ℕ) → lamp_of p (d ∷ a) ≡ lamp_of p (d ∷ b)
  lamps_on (passed n) p = q.lamps p
  lamps_on (setting r (changed word)) p = ap (cond (eqb r p) dark) (q.lamps p)
  lamps_on (setting r (felt value)) p = q.lamps p
  lamps_on (setting r (lit target ramp)) p =
      ap₂ (λ (t : ℕ) (x : Lamp). cond (eqb r p) (turned x target ramp t) x) q.moments (q.lamps p)
  lamps_on (switched r state) p = q.lamps p
  lamps_on (event x) p = q.lamps p

  relays_on : (d : Deed) (p : ℕ) → relay_of p (d ∷ a) ≡ relay_of p (d ∷ b)
  relays_on (passed n) p = q.relays p
  relays_on (setting r x) p = q.relays p
  relays_on (switched r state) p = ap (cond (eqb r p) state) (q.relays p)
  relays_on (event x) p = q.relays p

  lasts_on : (d : Deed) (p : ℕ) → last_of p (d ∷ a) ≡ last_of p (d ∷ b)
  lasts_on (passed n) p = q.lasts p
  lasts_on (setting r x) p = q.lasts p
  lasts_on (switched r state) p = q.lasts p
  lasts_on (event (started r c f ps)) p = rw (q.moments, q.lasts p)
  lasts_on (event (renewed r)) p =
      ap₂ (λ (t : ℕ) (o : Option Transmission). cond (eqb r p) (Option.map (λ s. time.renewed s t) o) o) q.moments (q.lasts p)
  lasts_on (event (halted r)) p = rw (q.lasts p)
  lasts_on (event (left c)) p = q.lasts p

  owners_on : (d : Deed) (p : ℕ) → owner_of p (d ∷ a) ≡ owner_of p (d ∷ b)
  owners_on (passed n) p = q.owners p
  owners_on (setting r x) p = q.owners p
  owners_on (switched r state) p = q.owners p
  owners_on (event (started r c f ps)) p = rw (q.owners p)
  owners_on (event (renewed r)) p = q.owners p
  owners_on (event (halted r)) p = rw (q.owners p)
  owners_on (event (left c)) p = rw (q.owners p)

  deed_on : (d : Deed) → Alike (d ∷ a) (d ∷ b)
  deed_on d =
      record {
        moments = moments_on d;
        modes = modes_on d;
        contacts = contacts_on d;
        lamps = lamps_on d;
        relays = relays_on d;
        lasts = lasts_on d;
        owners = owners_on d;
      }

  -- ---- and a call is judged the same
  airs : (p : ℕ) → on_air p a ≡ on_air p b
  unfolding on_air
  airs p = ap₂ until q.moments (q.lasts p)

  module _ (c : ℕ) (s : List ℕ) where
    set_ir_same : set_ir a c s ≡ set_ir b c s
    unfolding set_ir
    set_ir_same = rw (airs, q.modes)

    get_ir_same : get_ir a c s ≡ get_ir b c s
    unfolding get_ir
    get_ir_same = simp q.modes

    setstate_same : setstate a c s ≡ setstate b c s
    unfolding setstate
    setstate_same = refl

    getstate_same : getstate a c s ≡ getstate b c s
    unfolding getstate
    getstate_same = rw (q.modes, q.contacts, q.relays)

    sendir_same : sendir a c s ≡ sendir b c s
    unfolding sendir
    sendir_same = rw (q.modes, airs, q.owners)

    stopir_same : stopir a c s ≡ stopir b c s
    unfolding stopir
    stopir_same = rw (q.modes, airs, q.owners)

    set_led_lighting_same : set_led_lighting a c s ≡ set_led_lighting b c s
    unfolding set_led_lighting
    set_led_lighting_same = rw (q.modes, q.lamps, q.moments)

    get_led_lighting_same : get_led_lighting a c s ≡ get_led_lighting b c s
    unfolding get_led_lighting
    get_led_lighting_same = rw (q.modes, q.lamps, q.moments)

    request_same : request a c s ≡ request b c s
    unfolding request
    request_same = rw (
      set_ir_same,
      get_ir_same,
      setstate_same,
      getstate_same,
      sendir_same,
      stopir_same,
      set_led_lighting_same,
      get_led_lighting_same,
    )

  due_same : (n p : ℕ) → due n a p ≡ due n b p
  due_same n p = λ i. due_of n (q.moments i) p (q.owners p i) (airs p i)

  completions_alike : (n : ℕ) → completions n a ≡ completions n b
  completions_alike n = λ i. ordered (gathered (λ p. due_same n p i) ports)

  pub judged_same : (call : Call) → judge a call ≡ judge b call
  judged_same (line c room s) = rw request_same
  judged_same (overlong c room) = refl
  judged_same (reading p value) = rw q.modes
  judged_same (closing c) = refl
  judged_same (waiting n) = λ i. cond (ltb 1000000000 n) (refusal 103) (does (taken (completions_alike n i)) (passed n ∷ []))

  carriers_same : carriers a ≡ carriers b
  carriers_same = λ i. map (λ p. alike p i) ports
    where
      alike : (p : ℕ) → holds (λ s. carrier s (now a)) (on_air p a) ≡ holds (λ s. carrier s (now b)) (on_air p b)
      alike p = ap₂ (λ (t : ℕ) (o : Option Transmission). holds (λ s. carrier s t) o) q.moments (airs p)

  levels_same : levels a ≡ levels b
  levels_same = λ i. map (λ p. level (q.lamps p i) (q.moments i)) ports

deeds_on : (ds a b : List Deed) → Alike a b → Alike (ds ++ a) (ds ++ b)
deeds_on [] a b q = q
deeds_on (d ∷ ds) a b q = deed_on (ds ++ a) (ds ++ b) (deeds_on ds a b q) d

logged_alike : (a b : List Deed) → Alike a b → (call : Call) → Alike (logged a call) (logged b call)
logged_alike a b q call =
    subst (λ (j : Judged). Alike (logged a call) (deeds_of j ++ b)) (judged_same a b q call) (deeds_on (deeds_of (judge a call)) a b q)

-- logs that are alike are answered alike for ever
pub said_same : (a b : List Deed) (l : List Call) → Alike a b → said a l ≡ said b l
said_same a b [] q = refl
said_same a b (call ∷ l) q =
    let next = logged_alike a b q call in
    ap₂ (λ (x : Said) (y : List Said). x ∷ y)
    (λ i. record {
      answer = answer_of (judged_same a b q call i);
      carriers = carriers_same (logged a call) (logged b call) next i;
      levels = levels_same (logged a call) (logged b call) next i;
    })
    (said_same (logged a call) (logged b call) l next)

-- ---- "A wait of 0 changes nothing."
pub wait_of_0 : (log : List Deed) (l : List Call) → said (passed 0 ∷ log) l ≡ said log l
wait_of_0 log l =
    said_same (passed 0 ∷ log) log l
    (record {
      moments = add-zero (now log);
      modes = λ p. refl;
      contacts = λ p. refl;
      lamps = λ p. refl;
      relays = λ p. refl;
      lasts = λ p. refl;
      owners = λ p. refl;
    })

-- two waits and one of their sum
pub waits_add : (log : List Deed) (a b : ℕ) (l : List Call) → said (passed b ∷ passed a ∷ log) l ≡ said (passed (a + b) ∷ log) l
waits_add log a b l =
    said_same (passed b ∷ passed a ∷ log) (passed (a + b) ∷ log) l
    (record {
      moments = add_assoc (now log) a b;
      modes = λ p. refl;
      contacts = λ p. refl;
      lamps = λ p. refl;
      relays = λ p. refl;
      lasts = λ p. refl;
      owners = λ p. refl;
    })

-- ---- "nothing written and nothing changed", "and the hub stays unchanged"

-- what is neither a refusal nor an error is not answered like one
abbrev honest : Judged → Bool
honest (refusal n) = true
honest (error n m p) = true
honest (does (refused n) deeds) = false
honest (does (taken l) deeds) = true
honest (does (replied words told) deeds) = not (same (bytes "ERR_") (take 4 words))

abbrev honest_row : Row → Bool
honest_row r = all (λ k. honest k.gives) r.checks && honest r.otherwise

request_honest : (log : List Deed) (c : ℕ) (s : List ℕ) → honest_row (request log c s) ≡ true
unfolding set_ir get_ir setstate getstate sendir stopir set_led_lighting get_led_lighting
request_honest log c s =
    by_rows log c s (λ r. honest_row r ≡ true) (λ words apart. no_error words apart.error) refl refl refl refl refl refl refl refl refl
  where
    no_error : (words : List ℕ) → says_error (replied words none) ≡ false → not (same (bytes "ERR_") (take 4 words)) ≡ true
    no_error [] e = refl
    no_error (b ∷ words) e = rw e

call_honest : (log : List Deed) (call : Call) → honest (judge log call) ≡ true
call_honest log (line c room s) =
    first_all honest (row_of log (line c room s)).checks (row_of log (line c room s)).otherwise (request_honest log c s)
call_honest log (overlong c room) = first_all honest (row_of log (overlong c room)).checks (no 15) refl
call_honest log (reading p value) = first_all honest (row_of log (reading p value)).checks (row_of log (reading p value)).otherwise refl
call_honest log (closing c) = first_all honest (row_of log (closing c)).checks (row_of log (closing c)).otherwise refl
call_honest log (waiting n) = first_all honest (row_of log (waiting n)).checks (row_of log (waiting n)).otherwise refl

-- a refused call leaves the log as it was, and so all that is said later
pub refused_changes_nothing : (log : List Deed) (call : Call) (n : ℕ) → answer_of (judge log call) ≡ refused n → logged log call ≡ log
refused_changes_nothing log call n e = go (judge log call) (call_honest log call) e
  where
    go : (j : Judged) → honest j ≡ true → answer_of j ≡ refused n → deeds_of j ++ log ≡ log
    go (refusal m) h e = refl
    go (error m r p) h e = refl
    go (does (refused m) deeds) h e = not_both h refl
    go (does (taken l) deeds) h e = clash (cc)
    go (does (replied words told) deeds) h e = clash (cc)

-- and so does a line that is answered with an error
pub error_changes_nothing : (log : List Deed) (call : Call) (words : List ℕ) (told : Option ℕ) → answer_of (judge log call) ≡ replied words told
    → same (bytes "ERR_") (take 4 words) ≡ true → logged log call ≡ log
error_changes_nothing log call words told e s = go (judge log call) (call_honest log call) e
  where
    go : (j : Judged) → honest j ≡ true → answer_of j ≡ replied words told → deeds_of j ++ log ≡ log
    go (refusal m) h e = refl
    go (error m r p) h e = refl
    go (does (refused m) deeds) h e = not_both h refl
    go (does (taken l) deeds) h e = clash (cc)
    go (does (replied text to) deeds) h e = let f : text ≡ words = cc in not_both s (not-true _ (rw f at h))

pub refused_then_same_said : (log : List Deed) (call : Call) (n : ℕ) (l : List Call) → answer_of (judge log call) ≡ refused n
    → said (logged log call) l ≡ said log l
refused_then_same_said log call n l e = ap (λ (k : List Deed). said k l) (refused_changes_nothing log call n e)

pub error_then_same_said : (log : List Deed) (call : Call) (words : List ℕ) (told : Option ℕ) (l : List Call)
    → answer_of (judge log call) ≡ replied words told → same (bytes "ERR_") (take 4 words) ≡ true → said (logged log call) l ≡ said log l
error_then_same_said log call words told l e s = ap (λ (k : List Deed). said k l) (error_changes_nothing log call words told e s)
