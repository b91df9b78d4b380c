-- A wish of any machine's numbers, written out, is read by the hub as its request, or refused by it as the composer refuses it.
use Prim.Native.Nat.{ℕ, suc, ◌+◌, ◌≤◌, ◌<◌}
use mathlib.Core.Path.{◌≡◌, refl, sym, ap, ◌∙◌}
use mathlib.Core.Bool.{true, false, cond}
use mathlib.Core.List.{List, [], ◌∷◌, ◌++◌, append_assoc}
use native.Mathlib.Omega.{arith}
use borrow.Author.Tests.{le-ltb, lt-leb, ltb-true, ltb-false, eqb-true, eqb-false}
use lib.Dec.{ltb, eqb}
use lib.ListN.{length, length-append}
use Rattle.laws.specs.Bytes.{bytes}
use Rattle.laws.specs.Checks.{between}
use Rattle.laws.specs.Lists.{all, cut, part}
use Rattle.laws.proofs.Choice.{by_test, and_false, between_true}
use Rattle.words.specs.Digits.{worth}
use Rattle.words.specs.Decimal.{decimal}
use Rattle.text.specs.Field.{after_comma}
use Rattle.text.proofs.Decimals.{decimal_most}
use Rattle.meaning.specs.Line.{within}
use Rattle.theorems.specs.Spelled.{fields}
use Rattle.request.specs.declared.Place.{Place}
use Rattle.request.specs.declared.Fixed.{Fixed as FixedKind}
use Rattle.request.specs.declared.Fixed.TheVariants.{Devices, Version}
use Rattle.request.specs.declared.Ask.TheVariants as ask
use Rattle.request.specs.declared.Turn.TheVariants as turn
use Rattle.request.specs.declared.Request.{Request}
use Rattle.request.specs.declared.Request.TheVariants.{Connector, Relay}
use Rattle.request.specs.declared.Request.TheVariants as request
use Rattle.request.specs.declared.name.Name.{Name}
use Rattle.request.specs.declared.name.Name.TheVariants as name
use Rattle.request.specs.declared.mode.Mode.{Mode}
use Rattle.request.specs.declared.mode.Mode.TheVariants.{Ir, Sensor, IrBlaster, LedLighting}
use Rattle.request.specs.Name.{fixed_word, name_of, word_at}
use Rattle.request.specs.Address.{beyond, has_module}
use Rattle.request.specs.Mode.{mode_word, may_have}
use Rattle.request.specs.Request.{alone, set_ir_at, set_state_at, get_state_at, ramp_at, set_lamp_at, at_address, read_request}
use Rattle.reply.specs.Reply.{address_text}
use Rattle.reads.proofs.Cursor.{is_mode, mode_in, Cursor, next, over, within_is, mode_is}
use Rattle.reads.proofs.Rows.{one_module, two_modules}
use Rattle.composer.specs.declared.Wish.{Wish}
use Rattle.composer.specs.declared.Wish.TheVariants.{Fixed, SetMode, GetMode, SetState, GetState, Stop, SetLamp, GetLamp}
use Rattle.composer.specs.Fault.{or_else, place_fault, lamp_fault, wish_fault}
use Rattle.composer.specs.Compose.{wish_text}
use Rattle.readback.specs.Composed.{request_of, Wide, place_in, WideWish, fault_for}
use Rattle.readback.proofs.Counts.{number_back}
use Rattle.readback.proofs.Placed.{decimal_within, place_named, fair, decimal_fair, address_of, Line, line_of, there, ends, line_read}

-- nothing stands behind a request's last field
none_behind : {s : List ℕ} {k at : ℕ} → Cursor s k at → length (cut 44 s) ≡ suc k → ltb (at + length (part 44 k s)) (length s) ≡ false
none_behind {s} {k} {at} c e = rw (over c, e) (le-ltb (suc k) (suc k) (omega arith))

alone_is : (s : List ℕ) (end : ℕ) → ltb end (length s) ≡ false → (r : Request) → alone s end r ≡ r
unfolding alone
alone_is s end e r = rw e

or_none : (fault : ℕ) → or_else fault 0 ≡ fault
or_none fault = by_test (eqb fault 0) (λ e. rw e (sym (eqb-true fault 0 e))) (λ e. rw e)

-- the fault of the address first, then one of what stands behind it
module _ {s : List ℕ} {n : Name} {a : Place} {rest : List (List ℕ)} (l : Line s n a rest) (m : Wide a.m) (port : Wide a.port)
    (short : length s ≤ 4096) (least most : ℕ) (range : (j : ℕ) → has_module n j ≡ between least most j) (small : most < beyond) where
  read_behind : (later : ℕ) (r : Request) → at_address s n a (ends l) ≡ cond (eqb later 0) r (fault_for later a)
      → read_request s ≡ cond (eqb (or_else (place_fault least most a) later) 0) r (fault_for (or_else (place_fault least most a) later) a)
  read_behind later r e =
      rw (line_read l least most range small m port short)
      (by_test (eqb (place_fault least most a) 0)
      (λ f. rw f e)
      (λ f. rw (f, f) (sym (place_named least most a (eqb-false _ 0 f)))))

mode_fair : (mode : Mode) → all fair (mode_word mode) ≡ true
mode_fair Ir = refl
mode_fair Sensor = refl
mode_fair IrBlaster = refl
mode_fair LedLighting = refl

mode_word_law : (mode : Mode) → (is_mode (mode_word mode) ≡ true) × (mode_in (mode_word mode) ≡ mode)
unfolding is_mode mode_in
mode_word_law Ir = (refl, refl)
mode_word_law Sensor = (refl, refl)
mode_word_law IrBlaster = (refl, refl)
mode_word_law LedLighting = (refl, refl)

mode_short : (mode : Mode) → length (mode_word mode) ≤ 12
mode_short Ir = omega arith
mode_short Sensor = omega arith
mode_short IrBlaster = omega arith
mode_short LedLighting = omega arith

fixed_read : (fixed : FixedKind) → read_request (fixed_word fixed) ≡ request.Fixed fixed
unfolding read_request word_at alone
fixed_read Devices = refl
fixed_read Version = refl

module _ (n : Name) (a : Place) (m : Wide a.m) (port : Wide a.port) (name_short : length (name_of n) ≤ 16)
    (least most : ℕ) (range : (j : ℕ) → has_module n j ≡ between least most j) (small : most < beyond) where
  -- ---- an address and some fields behind it
  placed_read : (ws : List (List ℕ)) → all (all fair) ws ≡ true → length (fields (name_of n ∷ address_of a ∷ ws)) ≤ 4096 → (later : ℕ) (r : Request)
      → ((s : List ℕ) (at : ℕ) → Cursor s 1 at → cut 44 s ≡ name_of n ∷ address_of a ∷ ws
      → at_address s n a (at + length (part 44 1 s)) ≡ cond (eqb later 0) r (fault_for later a))
      → read_request (fields (name_of n ∷ address_of a ∷ ws))
      ≡ cond (eqb (or_else (place_fault least most a) later) 0) r (fault_for (or_else (place_fault least most a) later) a)
  placed_read ws fine short later r behind =
      let s = fields (name_of n ∷ address_of a ∷ ws) in
      let l : Line s n a ws = line_of n a ws fine in
      read_behind l m port short least most range small later r (behind s _ (there l) l.cuts)

  -- none
  bare_read : (r : Request) → ((s : List ℕ) (end : ℕ) → ltb end (length s) ≡ false → at_address s n a end ≡ r)
      → read_request (fields (name_of n ∷ address_of a ∷ []))
      ≡ cond (eqb (place_fault least most a) 0) r (fault_for (place_fault least most a) a)
  bare_read r behind =
      let short : length (fields (name_of n ∷ address_of a ∷ [])) ≤ 4096 =
      simp length-append (omega (arith, decimal_most a.m, decimal_most a.port)) in
      rw (or_none (place_fault least most a)) at (placed_read [] refl short 0 r (λ s at c e. behind s _ (none_behind c (rw e))))

  -- one
  more_read : (w : List ℕ) → all fair w ≡ true → length w ≤ 20 → (later : ℕ) (r : Request)
      → ((s : List ℕ) (at : ℕ) → Cursor s 1 at → part 44 2 s ≡ w
      → ltb (after_comma s (at + length (part 44 1 s)) + length (part 44 2 s)) (length s) ≡ false
      → at_address s n a (at + length (part 44 1 s)) ≡ cond (eqb later 0) r (fault_for later a))
      → read_request (fields (name_of n ∷ address_of a ∷ w ∷ []))
      ≡ cond (eqb (or_else (place_fault least most a) later) 0) r (fault_for (or_else (place_fault least most a) later) a)
  more_read w fine word_short later r behind =
      let short : length (fields (name_of n ∷ address_of a ∷ w ∷ [])) ≤ 4096 =
      simp length-append (omega (arith, decimal_most a.m, decimal_most a.port)) in
      placed_read (w ∷ []) (rw fine) short later r (λ s at c e. behind s at c (rw e) (none_behind (next c) (rw e)))

-- a word and an address, as the address is a field, and what stands behind it
address_text_law : (w : List ℕ) (a : Place) → address_text w a ≡ w ++ address_of a
address_text_law w a = simp append_assoc

placed_text : (w : List ℕ) (a : Place) (rest : List ℕ) → address_text w a ++ rest ≡ w ++ (address_of a ++ rest)
placed_text w a rest = ap (λ (t : List ℕ). t ++ rest) (address_text_law w a) ∙ append_assoc w (address_of a) rest

-- what the hub reads of a wish
pub wish_read : (wish : Wish) → WideWish wish
    → read_request (wish_text wish) ≡ cond (eqb (wish_fault wish) 0) (request_of wish) (fault_for (wish_fault wish) (place_in wish))
unfolding wish_text wish_fault lamp_fault set_ir_at set_state_at get_state_at ramp_at set_lamp_at
wish_read (Fixed fixed) w = fixed_read fixed
wish_read (SetMode a mode) w =
    let text : wish_text (SetMode a mode) ≡ fields (name_of name.SetIr ∷ address_of a ∷ mode_word mode ∷ []) = simp append_assoc in
    rw text
    (more_read name.SetIr a w.0 w.1 (omega arith) 1 1 (one_module 1) (omega arith) (mode_word mode) (mode_fair mode)
    (omega (arith, mode_short mode)) _ (Connector a (ask.SetMode mode))
    (λ s at c e none.
    let listed : is_mode (part 44 2 s) ≡ true = rw e (mode_word_law mode).0 in
    let known : mode_in (part 44 2 s) ≡ mode = rw e (mode_word_law mode).1 in
    rw (mode_is (next c), listed, known)
    (by_test (may_have a.port mode) (λ f. rw f (alone_is s _ none (Connector a (ask.SetMode mode)))) (λ f. rw f))))
wish_read (GetMode a) w =
    let text : wish_text (GetMode a) ≡ fields (name_of name.GetIr ∷ address_of a ∷ []) = simp append_assoc in
    rw text
    (bare_read name.GetIr a w.0 w.1 (omega arith) 1 1 (one_module 1) (omega arith) _ (λ s end none. alone_is s end none (Connector a ask.GetMode)))
wish_read (SetState a state) w =
    let text : wish_text (SetState a state) ≡ fields (name_of name.SetState ∷ address_of a ∷ decimal state ∷ []) = simp append_assoc in
    rw text
    (more_read name.SetState a w.0 w.1 (omega arith) 2 2 (one_module 2) (omega arith) (decimal state) (decimal_fair state)
    (decimal_most state) _ (Relay a (turn.Set state))
    (λ s at c e none.
    let inside : within 0 1 (part 44 2 s) ≡ between 0 1 state = rw e (decimal_within state w.2 0 1 (omega arith)) in
    let value : worth 0 (part 44 2 s) ≡ state = rw e (number_back state w.2) in
    rw (within_is (next c) 0 1, inside, value)
    (by_test (ltb 1 state)
    (λ f. rw (f, lt-leb state 1 (ltb-true 1 state f), and_false))
    (λ f. rw (f, between_true 0 1 state (omega arith) (ltb-false 1 state f)) (alone_is s _ none (Relay a (turn.Set state)))))))
wish_read (GetState a) w =
    let text : wish_text (GetState a) ≡ fields (name_of name.GetState ∷ address_of a ∷ []) = simp append_assoc in
    rw text
    (bare_read name.GetState a w.0 w.1 (omega arith) 1 2 two_modules (omega arith) _
    (λ s end none. rw (alone_is s end none (Connector a ask.GetContact), alone_is s end none (Relay a turn.Get))))
wish_read (Stop a) w =
    let text : wish_text (Stop a) ≡ fields (name_of name.StopIr ∷ address_of a ∷ []) = simp append_assoc in
    rw text
    (bare_read name.StopIr a w.0 w.1 (omega arith) 1 1 (one_module 1) (omega arith) _ (λ s end none. alone_is s end none (Connector a ask.Stop)))
wish_read (SetLamp a target ramp) w =
    let text : wish_text (SetLamp a target ramp) ≡ fields (name_of name.SetLamp ∷ address_of a ∷ decimal target ∷ decimal ramp ∷ []) =
    placed_text (bytes "set_LED_LIGHTING,") a _
    ∙ ap (λ (x : List ℕ). bytes "set_LED_LIGHTING," ++ (address_of a ++ (44 ∷ x))) (append_assoc (decimal target) (44 ∷ []) (decimal ramp)) in
    let short : length (fields (name_of name.SetLamp ∷ address_of a ∷ decimal target ∷ decimal ramp ∷ [])) ≤ 4096 =
    simp length-append (omega (arith, decimal_most a.m, decimal_most a.port, decimal_most target, decimal_most ramp)) in
    rw text
    (placed_read name.SetLamp a w.0 w.1 (omega arith) 1 1 (one_module 1) (omega arith) (decimal target ∷ decimal ramp ∷ [])
    (rw (decimal_fair target, decimal_fair ramp)) short _ (Connector a (ask.SetLamp target ramp false))
    (λ s at c e.
    let lit : within 1 100 (part 44 2 s) ≡ between 1 100 target = rw e (decimal_within target w.2 1 100 (omega arith)) in
    let target_is : worth 0 (part 44 2 s) ≡ target = rw e (number_back target w.2) in
    let slow : within 0 10 (part 44 3 s) ≡ between 0 10 ramp = rw e (decimal_within ramp w.3 0 10 (omega arith)) in
    let ramp_is : worth 0 (part 44 3 s) ≡ ramp = rw e (number_back ramp w.3) in
    rw (within_is (next c) 1 100, lit, target_is)
    (by_test (between 1 100 target)
    (λ f. rw (f, within_is (next (next c)) 0 10, slow, ramp_is)
    (by_test (ltb 10 ramp)
    (λ g. rw (g, lt-leb ramp 10 (ltb-true 10 ramp g), and_false))
    (λ g. rw (g, between_true 0 10 ramp (omega arith) (ltb-false 10 ramp g), none_behind (next (next c)) (rw e)))))
    (λ f. rw f))))
wish_read (GetLamp a) w =
    let text : wish_text (GetLamp a) ≡ fields (name_of name.GetLamp ∷ address_of a ∷ []) = address_text_law (bytes "get_LED_LIGHTING,") a in
    rw text
    (bare_read name.GetLamp a w.0 w.1 (omega arith) 1 1 (one_module 1) (omega arith) _ (λ s end none. rw none))
