-- Each request of the table, spelled with any legal fields, is read as that request.
use Prim.Native.Nat.{ℕ, ◌*◌, ◌%◌, ◌≤◌, ◌<◌}
use mathlib.Core.Path.{◌≡◌, refl, ap, ◌∙◌}
use mathlib.Core.Bool.{Bool, true, false, not, ◌&&◌, ◌||◌}
use mathlib.Core.Logic.{◌⊎◌, inl, inr}
use mathlib.Core.List.{List, [], ◌∷◌, ◌++◌}
use mathlib.Core.Option.{none, some}
use native.Mathlib.Omega.{arith}
use lib.Dec.{leb, eqb}
use lib.ListN.{length, length-append}
use borrow.Author.Tests.{lt-ltb, le-ltb, le-leb, leb-true, eqb-true, eq-eqb, ne_eqb}
use Rattle.laws.specs.Bytes.{bytes}
use Rattle.laws.specs.Checks.{first, between}
use Rattle.laws.specs.Lists.{all, cut, part, behind, free}
use Rattle.laws.proofs.Choice.{by_test, not_both, and_left, and_right, and_true}
use Rattle.laws.proofs.Lists.{all_append, all_weaker}
use Rattle.laws.proofs.Joining.{cut_next, cut_free, cut_joined, behind_joined, all_joined}
use Rattle.words.specs.Digits.{is_digit, Spells}
use Rattle.words.specs.Places.{connectors, relays, ports_of}
use Rattle.words.specs.declared.Pair.{Pair}
use Rattle.words.specs.declared.Fields.{Fields}
use Rattle.text.proofs.Reading.{digit_range}
use Rattle.meaning.specs.Line.{is, number, is_number, within, is_address, is_count, is_letter, Reach, opening, on, off_due, off, spelling, Stride, stop, go, stride, Reading, faulty, sound, after, reads, code_in}
use Rattle.meaning.specs.Log.{Deed}
use Rattle.meaning.specs.Table.{Judged, Row, line, judge, request, set_ir, get_ir, setstate, getstate, sendir, stopir, set_led_lighting, get_led_lighting}
use Rattle.theorems.proofs.Occasions.{within_between, only}
use Rattle.theorems.specs.Deeds.{ModeWord, ir, sensor, blaster, lighting}
use Rattle.theorems.specs.Spelled.{fields, at, Heard, Legal, command, IsSendir, devices_told, version_told, mode_set, mode_told, relay_set, relay_told, contact_told, lamp_set, lamp_told, commanded, stopped}

-- ---- a line that is heard, by its length and its bytes, is judged by its request's row
module _ (log : List Deed) (connection room : ℕ) (s : List ℕ) (h : Heard connection room) (short : length s ≤ 4096)
    (printable : all (between 32 126) s ≡ true) where
  by_row : (r : Row) → request log connection s ≡ r → judge log (line connection room s) ≡ first r.checks r.otherwise
  by_row r e =
      rw (
        le-ltb 7 connection h.known,
        le-ltb room 128 h.enough,
        le-ltb 4096 (length s) short,
        printable,
        e,
      )

-- ---- a sendir without a fault
module _ (log : List Deed) (connection : ℕ) (s : List ℕ) where
  sendir_named : part 44 0 s ≡ bytes "sendir" → request log connection s ≡ sendir log connection s
  unfolding request
  sendir_named e = rw e

module _ (log : List Deed) (connection : ℕ) (s : List ℕ) (p : ℕ) (f : Fields) (ps : List Pair) (x : IsSendir s p f ps) where
  m_one : number (part 58 0 (part 44 1 s)) ≡ 1
  m_one = only 1 _ (within_between 1 1 (part 58 0 (part 44 1 s)) x.infrared)

  sendir_row : first (sendir log connection s).checks (sendir log connection s).otherwise
      ≡ commanded log connection p f ps
  unfolding sendir
  sendir_row =
      rw (
        x.address,
        x.infrared,
        m_one,
        x.port,
        x.asked,
        x.id,
        x.freq,
        x.repeat,
        x.offset,
        x.has_id,
        x.has_freq,
        x.has_repeat,
        x.has_offset,
        ne_eqb (f.offset % 2) 0 (λ e. omega (arith, x.odd)),
        x.code,
        lt-ltb f.offset (2 * length ps) x.inside,
      )

pub sendir_judged : (log : List Deed) (connection room : ℕ) (s : List ℕ) (p : ℕ) (f : Fields) (ps : List Pair) → Heard connection room
    → IsSendir s p f ps
    → judge log (line connection room s) ≡ commanded log connection p f ps
sendir_judged log connection room s p f ps h x =
    by_row log connection room s h x.short x.printable (sendir log connection s) (sendir_named log connection s x.name)
    ∙ sendir_row log connection s p f ps x

-- ---- digits
module _ {ds : List ℕ} {n : ℕ} (d : Spells ds n) where
  digits_number : is_number ds ≡ true
  unfolding is_number
  digits_number = and_true _ _ d.decimal (lt-ltb 0 (length ds) d.some)

  digits_within : (least most : ℕ) → least ≤ n → n ≤ most → within least most ds ≡ true
  unfolding within
  digits_within least most l m =
      rw (digits_number, le-leb (length ds) 6 d.few, d.value, le-leb least n l, le-leb n most m)

  digits_free : (c : ℕ) → (c < 48) ⊎ (57 < c) → free c ds ≡ true
  digits_free c o =
      all_weaker is_digit (λ b. not (eqb b c))
      (λ b e.
      let r = digit_range b e in
      rw (ne_eqb b c (λ (g : b ≡ c). apart o r g)))
      ds d.decimal
    where
      apart : {b : ℕ} → (c < 48) ⊎ (57 < c) → (48 ≤ b) × (b ≤ 57) → b ≡ c → ⊥
      apart (inl h) r g = omega arith
      apart (inr h) r g = omega arith

  digits_visible : all (between 32 126) ds ≡ true
  digits_visible =
      all_weaker is_digit (between 32 126)
      (λ b e. let r = digit_range b e in rw (le-leb 32 b (omega arith), le-leb b 126 (omega arith))) ds d.decimal

-- ---- fields that are short, printable and without a comma
abbrev plain : List ℕ → Bool
plain w = free 44 w && all (between 32 126) w && leb (length w) 16

plain_of : (w : List ℕ) → free 44 w ≡ true → all (between 32 126) w ≡ true → length w ≤ 16 → plain w ≡ true
plain_of w f v l = rw (f, v, le-leb (length w) 16 l)

plain_free : (ws : List (List ℕ)) → all plain ws ≡ true → all (free 44) ws ≡ true
plain_free ws e = all_weaker plain (free 44) (λ w h. and_left _ _ (and_left _ _ h)) ws e

plain_visible : (ws : List (List ℕ)) → all plain ws ≡ true → all (all (between 32 126)) ws ≡ true
plain_visible ws e = all_weaker plain (all (between 32 126)) (λ w h. and_right (free 44 w) _ (and_left _ _ h)) ws e

plain_length : (ws : List (List ℕ)) → all plain ws ≡ true → length (fields ws) ≤ 17 * length ws
plain_length [] e = omega arith
plain_length (w ∷ []) e = omega (arith, leb-true (length w) 16 (and_right (free 44 w && all (between 32 126) w) _ (and_left _ _ e)))
plain_length (w ∷ v ∷ ws) e =
    omega (
      arith,
      length-append w (44 ∷ fields (v ∷ ws)),
      leb-true (length w) 16 (and_right (free 44 w && all (between 32 126) w) _ (and_left _ _ e)),
      plain_length (v ∷ ws) (and_right (plain w) _ e),
    )

plain_cut : (w : List ℕ) (ws : List (List ℕ)) → all plain (w ∷ ws) ≡ true → cut 44 (fields (w ∷ ws)) ≡ w ∷ ws
plain_cut w [] e = cut_free 44 w (and_left _ _ (and_left _ _ (and_left _ _ e)))
plain_cut w (v ∷ ws) e =
    cut_next 44 w (fields (v ∷ ws)) (and_left _ _ (and_left _ _ (and_left _ _ e)))
    ∙ ap (λ (l : List (List ℕ)). w ∷ l) (plain_cut v ws (and_right (plain w) _ e))

-- a line of a few such fields is judged as every line is that is cut into them
module _ (log : List Deed) (connection room : ℕ) (h : Heard connection room) (w : List ℕ) (ws : List (List ℕ)) (j : Judged) where
  spelled : all plain (w ∷ ws) ≡ true → length ws ≤ 10
      → ((s : List ℕ) → cut 44 s ≡ w ∷ ws → first (request log connection s).checks (request log connection s).otherwise ≡ j)
      → judge log (line connection room (fields (w ∷ ws))) ≡ j
  spelled e few row =
      by_row log connection room (fields (w ∷ ws)) h (omega (arith, plain_length (w ∷ ws) e))
      (all_joined 44 (between 32 126) refl (w ∷ ws) (plain_visible (w ∷ ws) e)) (request log connection (fields (w ∷ ws))) refl
      ∙ row (fields (w ∷ ws)) (plain_cut w ws e)

digits_plain : {ds : List ℕ} {n : ℕ} → Spells ds n → plain ds ≡ true
digits_plain {ds} d = plain_of ds (digits_free d 44 (inl (omega arith))) (digits_visible d) (omega (arith, d.few))

-- ---- an address
record IsAt (f : List ℕ) (m p : ℕ) : Type 0 where
  whole : is_address f ≡ true
  module_is : number (part 58 0 f) ≡ m
  port_is : number (part 58 1 f) ≡ p
  from : (least most : ℕ) → least ≤ m → m ≤ most → within least most (part 58 0 f) ≡ true
  port : within 1 (ports_of m) (part 58 1 f) ≡ true
  fair : plain f ≡ true

is_at : {dm dp : List ℕ} {m p : ℕ} → Spells dm m → Spells dp p → 1 ≤ p → p ≤ ports_of m → IsAt (at dm dp) m p
unfolding is_address
is_at {dm} {dp} {m} {p} a b l h =
    let c = cut_joined 58 (dm ∷ []) dp (rw (digits_free a 58 (inr (omega arith)))) ∙ ap (λ (x : List (List ℕ)). dm ∷ x) (cut_free 58 dp (digits_free b 58 (inr (omega arith)))) in
    record {
      whole = rw (c, digits_number a, digits_number b);
      module_is = rw c a.value;
      port_is = rw c b.value;
      from = λ least most g k. rw c (digits_within a least most g k);
      port = rw c (digits_within b 1 (ports_of m) l h);
      fair =
          plain_of (at dm dp)
          (all_append (λ b. not (eqb b 44)) dm (58 ∷ dp) (digits_free a 44 (inl (omega arith))) (digits_free b 44 (inl (omega arith))))
          (all_append (between 32 126) dm (58 ∷ dp) (digits_visible a) (digits_visible b))
          (omega (arith, length-append dm (58 ∷ dp), a.few, b.few));
    }

-- ---- the requests, each with the checks of state that are left
abbrev asked : List Deed → ℕ → List ℕ → Judged
asked log connection s = first (request log connection s).checks (request log connection s).otherwise

-- a mode word
record Worded (p : ℕ) (mode : List ℕ) : Type 0 where
  listed : (is "IR" mode || is "SENSOR" mode || is "IR_BLASTER" mode || is "LED_LIGHTING" mode) ≡ true
  allowed : (is "IR_BLASTER" mode && not (eqb p 3)) ≡ false
  fair : plain mode ≡ true

worded : {p : ℕ} {mode : List ℕ} → ModeWord p mode → Worded p mode
worded (ir w) = rw w (record { listed = refl; allowed = refl; fair = refl })
worded (sensor w) = rw w (record { listed = refl; allowed = refl; fair = refl })
worded {p} (blaster w e) = rw w (record { listed = refl; allowed = rw (eq-eqb p 3 e); fair = refl })
worded (lighting w) = rw w (record { listed = refl; allowed = refl; fair = refl })

module _ (log : List Deed) (connection : ℕ) (s : List ℕ) where
  module _ {f : List ℕ} {p : ℕ} where
    set_ir_row : {mode : List ℕ} → IsAt f 1 p → Worded p mode → cut 44 s ≡ bytes "set_IR" ∷ f ∷ mode ∷ [] → asked log connection s ≡ mode_set log p mode
    unfolding request set_ir
    set_ir_row a w e =
        rw (e, a.whole, a.from 1 1 (omega arith) (omega arith), a.module_is, a.port, a.port_is, w.listed, w.allowed)

    get_ir_row : IsAt f 1 p → cut 44 s ≡ bytes "get_IR" ∷ f ∷ [] → asked log connection s ≡ mode_told log p
    unfolding request get_ir
    get_ir_row a e = rw (e, a.whole, a.from 1 1 (omega arith) (omega arith), a.module_is, a.port, a.port_is) (simp (e, a.port_is))

    setstate_row : {ds : List ℕ} {state : ℕ} → IsAt f 2 p → Spells ds state → state ≤ 1 → cut 44 s ≡ bytes "setstate" ∷ f ∷ ds ∷ []
        → asked log connection s ≡ relay_set p state
    unfolding request setstate
    setstate_row a d l e =
        rw (
          e,
          a.whole,
          a.from 2 2 (omega arith) (omega arith),
          a.module_is,
          a.port,
          a.port_is,
          digits_within d 0 1 (omega arith) l,
          d.value,
        )

    getstate_relay_row : IsAt f 2 p → cut 44 s ≡ bytes "getstate" ∷ f ∷ [] → asked log connection s ≡ relay_told log p
    unfolding request getstate
    getstate_relay_row a e =
        rw (e, a.whole, a.from 1 2 (omega arith) (omega arith), a.module_is, a.port, a.port_is)

    getstate_contact_row : IsAt f 1 p → cut 44 s ≡ bytes "getstate" ∷ f ∷ [] → asked log connection s ≡ contact_told log p
    unfolding request getstate
    getstate_contact_row a e =
        rw (e, a.whole, a.from 1 2 (omega arith) (omega arith), a.module_is, a.port, a.port_is)

    stopir_row : IsAt f 1 p → cut 44 s ≡ bytes "stopir" ∷ f ∷ [] → asked log connection s ≡ stopped log connection p
    unfolding request stopir
    stopir_row a e =
        rw (e, a.whole, a.from 1 1 (omega arith) (omega arith), a.module_is, a.port, a.port_is)

    set_led_lighting_row : {dt dr : List ℕ} {target ramp : ℕ} → IsAt f 1 p → Spells dt target → 1 ≤ target → target ≤ 100 → Spells dr ramp
        → ramp ≤ 10 → cut 44 s ≡ bytes "set_LED_LIGHTING" ∷ f ∷ dt ∷ dr ∷ [] → asked log connection s ≡ lamp_set log p target ramp false
    unfolding request set_led_lighting
    set_led_lighting_row a t l m r n e =
        rw (
          e,
          a.whole,
          a.from 1 1 (omega arith) (omega arith),
          a.module_is,
          a.port,
          a.port_is,
          digits_within t 1 100 l m,
          digits_within r 0 10 (omega arith) n,
          t.value,
          r.value,
        )

    get_led_lighting_row : IsAt f 1 p → cut 44 s ≡ bytes "get_LED_LIGHTING" ∷ f ∷ [] → asked log connection s ≡ lamp_told log p false
    unfolding request get_led_lighting
    get_led_lighting_row a e =
        rw (e, a.whole, a.from 1 1 (omega arith) (omega arith), a.module_is, a.port, a.port_is)

module _ (log : List Deed) (connection room : ℕ) (h : Heard connection room) where
  -- getdevices, getversion
  pub getdevices_spelled : judge log (line connection room (bytes "getdevices")) ≡ devices_told
  unfolding request
  getdevices_spelled = spelled log connection room h (bytes "getdevices") [] devices_told refl (omega arith) (λ s e. rw e)

  pub getversion_spelled : judge log (line connection room (bytes "getversion")) ≡ version_told
  unfolding request
  getversion_spelled = spelled log connection room h (bytes "getversion") [] version_told refl (omega arith) (λ s e. rw e)

  module _ {dm dp : List ℕ} {p : ℕ} (port : Spells dp p) (least : 1 ≤ p) (most : p ≤ connectors) where
    -- set_IR,1:p,mode
    pub set_ir_spelled : {mode : List ℕ} → Spells dm 1 → ModeWord p mode
        → judge log (line connection room (fields (bytes "set_IR" ∷ at dm dp ∷ mode ∷ []))) ≡ mode_set log p mode
    set_ir_spelled {mode} one w =
        let a = is_at one port least most in
        spelled log connection room h (bytes "set_IR") (at dm dp ∷ mode ∷ []) (mode_set log p mode)
        (rw (a.fair, (worded w).fair)) (omega arith) (λ s e. set_ir_row log connection s a (worded w) e)

    -- get_IR,1:p
    pub get_ir_spelled : Spells dm 1 → judge log (line connection room (fields (bytes "get_IR" ∷ at dm dp ∷ []))) ≡ mode_told log p
    get_ir_spelled one =
        let a = is_at one port least most in
        spelled log connection room h (bytes "get_IR") (at dm dp ∷ []) (mode_told log p) (rw a.fair) (omega arith)
        (λ s e. get_ir_row log connection s a e)

    -- getstate,1:p
    pub getstate_contact_spelled : Spells dm 1
        → judge log (line connection room (fields (bytes "getstate" ∷ at dm dp ∷ []))) ≡ contact_told log p
    getstate_contact_spelled one =
        let a = is_at one port least most in
        spelled log connection room h (bytes "getstate") (at dm dp ∷ []) (contact_told log p) (rw a.fair) (omega arith)
        (λ s e. getstate_contact_row log connection s a e)

    -- stopir,1:p
    pub stopir_spelled : Spells dm 1
        → judge log (line connection room (fields (bytes "stopir" ∷ at dm dp ∷ []))) ≡ stopped log connection p
    stopir_spelled one =
        let a = is_at one port least most in
        spelled log connection room h (bytes "stopir") (at dm dp ∷ []) (stopped log connection p) (rw a.fair) (omega arith)
        (λ s e. stopir_row log connection s a e)

    -- set_LED_LIGHTING,1:p,target,ramp
    pub set_led_lighting_spelled : {dt dr : List ℕ} {target ramp : ℕ} → Spells dm 1 → Spells dt target → 1 ≤ target → target ≤ 100
        → Spells dr ramp → ramp ≤ 10
        → judge log (line connection room (fields (bytes "set_LED_LIGHTING" ∷ at dm dp ∷ dt ∷ dr ∷ []))) ≡ lamp_set log p target ramp false
    set_led_lighting_spelled {dt} {dr} {target} {ramp} one t l m r n =
        let a = is_at one port least most in
        spelled log connection room h (bytes "set_LED_LIGHTING") (at dm dp ∷ dt ∷ dr ∷ []) (lamp_set log p target ramp false)
        (rw (a.fair, digits_plain t, digits_plain r)) (omega arith) (λ s e. set_led_lighting_row log connection s a t l m r n e)

    -- get_LED_LIGHTING,1:p
    pub get_led_lighting_spelled : Spells dm 1
        → judge log (line connection room (fields (bytes "get_LED_LIGHTING" ∷ at dm dp ∷ []))) ≡ lamp_told log p false
    get_led_lighting_spelled one =
        let a = is_at one port least most in
        spelled log connection room h (bytes "get_LED_LIGHTING") (at dm dp ∷ []) (lamp_told log p false) (rw a.fair) (omega arith)
        (λ s e. get_led_lighting_row log connection s a e)

  module _ {dm dp : List ℕ} {p : ℕ} (port : Spells dp p) (least : 1 ≤ p) (most : p ≤ relays) where
    -- setstate,2:p,s
    pub setstate_spelled : {ds : List ℕ} {state : ℕ} → Spells dm 2 → Spells ds state → state ≤ 1
        → judge log (line connection room (fields (bytes "setstate" ∷ at dm dp ∷ ds ∷ []))) ≡ relay_set p state
    setstate_spelled {ds} {state} two d l =
        let a = is_at two port least most in
        spelled log connection room h (bytes "setstate") (at dm dp ∷ ds ∷ []) (relay_set p state) (rw (a.fair, digits_plain d))
        (omega arith) (λ s e. setstate_row log connection s a d l e)

    -- getstate,2:p
    pub getstate_relay_spelled : Spells dm 2
        → judge log (line connection room (fields (bytes "getstate" ∷ at dm dp ∷ []))) ≡ relay_told log p
    getstate_relay_spelled two =
        let a = is_at two port least most in
        spelled log connection room h (bytes "getstate") (at dm dp ∷ []) (relay_told log p) (rw a.fair) (omega arith)
        (λ s e. getstate_relay_row log connection s a e)

-- ---- a code that is read without a fault is printable
not_when : (t u : Bool) → (t ≡ true → u ≡ true) → u ≡ false → t ≡ false
not_when true u f e = not_both (f refl) e
not_when false u f e = refl

module _ (b : ℕ) (e : between 32 126 b ≡ false) where
  no_digit : is_digit b ≡ false
  no_digit =
      not_when (is_digit b) (between 32 126 b)
      (λ d. let r = digit_range b d in rw (le-leb 32 b (omega arith), le-leb b 126 (omega arith))) e

  no_letter : is_letter b ≡ false
  no_letter =
      not_when (is_letter b) (between 32 126 b)
      (λ d.
      let l = leb-true 65 b (and_left _ _ d) in
      let m = leb-true b 90 (and_right (leb 65 b) _ d) in
      rw (le-leb 32 b (omega arith), le-leb b 126 (omega arith))) e

  no_comma : eqb b 44 ≡ false
  no_comma = not_when (eqb b 44) (between 32 126 b) (λ d. rw (eqb-true b 44 d)) e

  stride_stops : (freq : ℕ) (ps : List Pair) (reach : Reach) → stride freq ps reach b ≡ stop 9
  stride_stops freq ps opening = rw (no_letter, no_digit)
  stride_stops freq ps (on ds) = by_test (is_count freq ds) (λ t. rw (no_digit, t, no_letter, no_comma)) (λ t. rw (no_digit, t))
  stride_stops freq ps (off_due n) = rw (no_letter, no_digit)
  stride_stops freq ps (off n ds) = by_test (is_count freq ds) (λ t. rw (no_digit, t, no_letter, no_comma)) (λ t. rw (no_digit, t))
  stride_stops freq ps spelling = rw no_digit

not_sound : {A : Type 0} {n : ℕ} {qs : List Pair} → faulty n ≡ sound qs → A
not_sound {n = n} {qs = qs} e =
    let f : some n ≡ none = ap (λ (r : Reading). r.fault) e in
    let z : ◌≡◌ {A = ℕ} 0 1 = cc in
    absurd (omega arith)

reads_printable : (s : List ℕ) (freq : ℕ) (ps : List Pair) (reach : Reach) (qs : List Pair) → reads freq ps reach s ≡ sound qs
    → all (between 32 126) s ≡ true
reads_printable [] freq ps reach qs e = refl
reads_printable (b ∷ s) freq ps reach qs e =
    by_test (between 32 126 b)
    (λ t. and_true _ _ t (further (stride freq ps reach b) (λ rs q f. reads_printable s freq rs q qs f) e))
    (λ t. not_sound (rw (stride_stops b t freq ps reach) at e))
  where
    further : (x : Stride) → ((rs : List Pair) (q : Reach) → reads freq rs q s ≡ sound qs → all (between 32 126) s ≡ true)
        → after x (λ rs q. reads freq rs q s) ≡ sound qs → all (between 32 126) s ≡ true
    further (stop n) next f = not_sound f
    further (go rs q) next f = next rs q f

code_printable : (freq : ℕ) (code : List ℕ) (ps : List Pair) → code_in freq code ≡ sound ps → all (between 32 126) code ≡ true
unfolding code_in
code_printable freq code ps e = reads_printable code freq [] opening ps e

-- ---- sendir,1:p,id,freq,repeat,offset,code
module _ {p id freq repeat offset : ℕ} {ps : List Pair} {did dfreq drepeat doffset : List ℕ} (i : Spells did id) (f : Spells dfreq freq)
    (r : Spells drepeat repeat) (o : Spells doffset offset) (l : Legal id freq repeat offset ps) where
  -- a line that is cut into such fields
  sendir_of : (s address code : List ℕ) (rest : List (List ℕ))
      → cut 44 s ≡ bytes "sendir" ∷ address ∷ did ∷ dfreq ∷ drepeat ∷ doffset ∷ rest → behind 44 6 s ≡ code → IsAt address 1 p
      → length s ≤ 4096 → all (between 32 126) s ≡ true → code_in freq code ≡ sound ps → IsSendir s p (command id freq repeat offset) ps
  sendir_of s address code rest e b a short printable c =
      record {
        short = short;
        printable = printable;
        name = rw e;
        address = rw e a.whole;
        infrared = rw e (a.from 1 1 (omega arith) (omega arith));
        port = rw e a.port;
        asked = rw e a.port_is;
        id = rw e (digits_within i 0 65535 (omega arith) l.most_id);
        freq = rw e (digits_within f 15000 500000 l.least_freq l.most_freq);
        repeat = rw e (digits_within r 1 999999 l.least_repeat l.most_repeat);
        offset = rw e (digits_within o 1 383 (omega (arith, l.odd)) l.most_offset);
        has_id = rw e i.value;
        has_freq = rw e f.value;
        has_repeat = rw (e, r.value);
        has_offset = rw e o.value;
        odd = l.odd;
        code = rw b c;
        inside = l.inside;
      }

  pub sendir_spelled : {dm dp : List ℕ} (code : List ℕ) → Spells dm 1 → Spells dp p → 1 ≤ p → p ≤ connectors → code_in freq code ≡ sound ps
      → length (fields (bytes "sendir" ∷ at dm dp ∷ did ∷ dfreq ∷ drepeat ∷ doffset ∷ code ∷ [])) ≤ 4096
      → IsSendir (fields (bytes "sendir" ∷ at dm dp ∷ did ∷ dfreq ∷ drepeat ∷ doffset ∷ code ∷ [])) p (command id freq repeat offset) ps
  sendir_spelled {dm} {dp} code one port least most c short =
      let a = is_at one port least most in
      let front = bytes "sendir" ∷ at dm dp ∷ did ∷ dfreq ∷ drepeat ∷ doffset ∷ [] in
      let fair : all plain front ≡ true = rw (a.fair, digits_plain i, digits_plain f, digits_plain r, digits_plain o) in
      sendir_of (fields (front ++ (code ∷ []))) (at dm dp) code (cut 44 code) (cut_joined 44 front code (plain_free front fair))
      (behind_joined 44 front code (plain_free front fair)) a short
      (all_joined 44 (between 32 126) refl (front ++ (code ∷ []))
      (all_append (all (between 32 126)) front (code ∷ []) (plain_visible front fair) (rw (code_printable freq code ps c)))) c
