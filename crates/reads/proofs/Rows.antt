-- Each row of the table gives what the log makes of the request that the line is read as.
use Prim.Native.Nat.{ℕ, suc, ◌+◌, ◌*◌, ◌%◌, ◌<◌}
use mathlib.Core.Path.{◌≡◌, refl, sym, ap, ◌∙◌}
use mathlib.Core.Bool.{true, false, cond, not, ◌&&◌, ◌||◌}
use mathlib.Core.List.{List, [], ◌∷◌}
use mathlib.Core.Option.{get_or}
use Rattle.std.specs.Prelude.{Option, Some, None}
use native.Mathlib.Nat.{zero-add}
use native.Mathlib.Omega.{arith}
use borrow.Author.Tests.{eqb-true, eqb-false, eq-eqb}
use lib.Dec.{eqb, ltb, leb}
use lib.ListN.{length}
use Rattle.laws.specs.Checks.{◌⇒◌, first, between, is_some}
use Rattle.laws.specs.Lists.{all, same, cut, part}
use Rattle.laws.proofs.Choice.{cond_case, by_test, and_left, and_right, same_test, between_true, between_least, between_most, between_is, between_checks}
use Rattle.laws.proofs.Lists.{all_alike, same_is}
use Rattle.laws.proofs.Cutting.{count}
use Rattle.words.specs.Digits.{worth}
use Rattle.words.specs.Places.{connectors, relays, ports_of}
use Rattle.words.specs.declared.Pair.{Pair}
use Rattle.words.specs.declared.Fields.{Fields}
use Rattle.meaning.specs.Line.{is, is_number, within, is_address}
use Rattle.meaning.specs.Log.{Deed}
use Rattle.meaning.specs.Table as table
use Rattle.meaning.specs.Table.{Judged, Row, error, no}
use Rattle.text.specs.Field.{after_comma, field_is}
use Rattle.theorems.specs.Deeds.{silent}
use Rattle.code.specs.Read.{Reading, pairs, fault}
use Rattle.request.specs.declared.name.Name.{Name}
use Rattle.request.specs.declared.name.Name.TheVariants as name
use Rattle.request.specs.declared.name.Word.{Word}
use Rattle.request.specs.declared.name.Word.TheVariants.{Alone, Named}
use Rattle.request.specs.declared.mode.Mode.{Mode}
use Rattle.request.specs.declared.mode.Mode.TheVariants.{Ir, Sensor, IrBlaster, LedLighting}
use Rattle.request.specs.declared.Place.{Place}
use Rattle.request.specs.declared.Fixed.{Fixed}
use Rattle.request.specs.declared.Fixed.TheVariants.{Devices, Version}
use Rattle.request.specs.declared.Ask.TheVariants.{SetMode, GetMode, GetContact, Stop}
use Rattle.request.specs.declared.Turn.TheVariants.{Set, Get}
use Rattle.request.specs.declared.Request.{Request}
use Rattle.request.specs.declared.Request.TheVariants as request
use Rattle.request.specs.Place.{place_of}
use Rattle.request.specs.Name.{fixed_word, name_of, word_of, word_at}
use Rattle.request.specs.Address.{beyond, has_module, address_fault}
use Rattle.request.specs.Mode.{mode_word, may_have}
use Rattle.request.specs.Request.{is_printable, alone, set_ir_at, set_state_at, get_state_at, ramp_at, set_lamp_at, at_address, addressed, worded, asked, read_request}
use Rattle.command.specs.Fields.{capped, fields_at}
use Rattle.command.specs.Read.{code_read, code_at, command_at}
use Rattle.reply.specs.Reply.{fixed_text}
use Rattle.reads.specs.Readings.{reading_of}
use Rattle.reads.specs.Meant.{meant_command, meant_read, meant}
use Rattle.reads.proofs.Cursor.{word_is, is_mode, mode_in, word_back, counts, counts_within_law, Cursor, start, field_is_law, next, over, within_is, address_is_at, mode_is}
use Rattle.reads.proofs.Bytewise.{code_bytewise}

-- ---- the module in the table, as a range
pub one_module : (k m : ℕ) → eqb m k ≡ between k k m
one_module k m =
    same_test (eqb m k) (between k k m)
    (λ e. between_true k k m (omega (arith, eqb-true m k e)) (omega (arith, eqb-true m k e)))
    (λ e. eq-eqb m k (omega (arith, between_least k k m e, between_most k k m e)))

pub two_modules : (m : ℕ) → eqb m 1 || eqb m 2 ≡ between 1 2 m
two_modules m =
    by_test (eqb m 1)
    (λ e. rw e (sym (between_true 1 2 m (omega (arith, eqb-true m 1 e)) (omega (arith, eqb-true m 1 e)))))
    (λ e. rw e
    (same_test (eqb m 2) (between 1 2 m)
    (λ f. between_true 1 2 m (omega (arith, eqb-true m 2 f)) (omega (arith, eqb-true m 2 f)))
    (λ f. eq-eqb m 2 (omega (arith, between_least 1 2 m f, between_most 1 2 m f, eqb-false m 1 e)))))

-- no module has as many ports as a number of over six digits counts as
pub ports_below : (m : ℕ) → ports_of m < beyond
ports_below m = cond_case (λ (n : ℕ). n < beyond) (eqb m 1) connectors relays (λ e. omega arith) (λ e. omega arith)

-- ---- a number in a range
module _ (least most : ℕ) (f : List ℕ) (e : within least most f ≡ true) where
  within_few : leb (length f) 6 ≡ true
  unfolding within
  within_few = and_right (is_number f) (leb (length f) 6) (and_left (is_number f && leb (length f) 6) (between least most (worth 0 f)) e)

  within_range : between least most (worth 0 f) ≡ true
  unfolding within
  within_range = and_right (is_number f && leb (length f) 6) (between least most (worth 0 f)) e

-- the two numbers of an address
module _ (f : List ℕ) (e : is_address f ≡ true) where
  module_number : is_number (part 58 0 f) ≡ true
  unfolding is_address
  module_number =
      let two = eqb (length (cut 58 f)) 2 in
      and_right two (is_number (part 58 0 f)) (and_left (two && is_number (part 58 0 f)) (is_number (part 58 1 f)) e)

  port_number : is_number (part 58 1 f) ≡ true
  unfolding is_address
  port_number = and_right (eqb (length (cut 58 f)) 2 && is_number (part 58 0 f)) (is_number (part 58 1 f)) e

module _ (log : List Deed) (connection : ℕ) (s : List ℕ) where
  abbrev field : ℕ → List ℕ
  field k = part 44 k s

  abbrev m : ℕ
  m = worth 0 (part 58 0 (field 1))

  abbrev p : ℕ
  p = worth 0 (part 58 1 (field 1))

  abbrev place : Place
  place = place_of m p

  -- what is made of a request
  abbrev makes : Request → Judged
  makes r = meant log connection s r

  -- a row gives what is made of a request
  record Agrees (r : Row) (asked : Request) : Type 0 where
    is : first r.checks r.otherwise ≡ makes asked

  -- 017 "anything after a complete request"
  alone_row : {k at : ℕ} → Cursor s k at → (r : Request)
      → makes (alone s (at + length (field k)) r) ≡ cond (ltb (suc k) (length (cut 44 s))) (no 17) (makes r)
  unfolding alone
  alone_row {k} {at} c r = rw (over c) (by_test (ltb (suc k) (length (cut 44 s))) (λ e. rw e) (λ e. rw e))

  -- 017 for the address, 002, 003, and what comes behind
  address_row : (n : Name) (least most : ℕ) {rest : Judged} → name_of n ≡ field 0
      → ((k : ℕ) → has_module n k ≡ between least most k) → most < beyond
      → ((at : ℕ) → Cursor s 1 at → between least most m ≡ true → makes (at_address s n place (at + length (field 1))) ≡ rest)
      → first (table.address log connection s least most []) rest ≡ makes (addressed s n)
  unfolding addressed address_fault
  address_row n least most {rest} name range small go =
      let at = after_comma s (length (name_of n)) in
      let c : Cursor s 1 at = rw (name, ← zero-add (length (field 0))) (next (start s)) in
      rw (address_is_at c)
      (by_test (is_address (field 1)) (λ a.
      rw (
        a,
        range (counts (part 58 0 (field 1))),
        ← counts_within_law least most (part 58 0 (field 1)) small (module_number (field 1) a),
      )
      (by_test (within least most (part 58 0 (field 1))) (λ h.
      rw (
        h,
        within_few least most (part 58 0 (field 1)) h,
        between_checks 1 (ports_of m) (counts (part 58 1 (field 1))),
        ← counts_within_law 1 (ports_of m) (part 58 1 (field 1)) (ports_below m) (port_number (field 1) a),
      )
      (by_test (within 1 (ports_of m) (part 58 1 (field 1)))
      (λ u. rw (u, within_few 1 (ports_of m) (part 58 1 (field 1)) u)
      (sym (go at c (within_range least most (part 58 0 (field 1)) h))))
      (λ u. rw u)))
      (λ h. rw h)))
      (λ a. rw a))

  -- a request that takes one module only
  one_row : (n : Name) (k : ℕ) {rest : Judged} → name_of n ≡ field 0
      → ((j : ℕ) → has_module n j ≡ eqb j k) → k < beyond
      → ((at : ℕ) → Cursor s 1 at → m ≡ k → makes (at_address s n place (at + length (field 1))) ≡ rest)
      → first (table.address log connection s k k []) rest ≡ makes (addressed s n)
  one_row n k e has small go =
      address_row n k k e (λ j. has j ∙ one_module k j) small
      (λ at c h. go at c (omega (arith, between_least k k m h, between_most k k m h)))

  get_ir_row : name_of name.GetIr ≡ field 0 → Agrees (table.get_ir log connection s) (addressed s name.GetIr)
  unfolding table.get_ir
  get_ir_row e = record { is = one_row name.GetIr 1 e (λ j. refl) (omega arith) (λ at c h. alone_row c (request.Connector place GetMode)) }

  stopir_row : name_of name.StopIr ≡ field 0 → Agrees (table.stopir log connection s) (addressed s name.StopIr)
  unfolding table.stopir
  stopir_row e = record { is = one_row name.StopIr 1 e (λ j. refl) (omega arith) (λ at c h. rw h (alone_row c (request.Connector (place_of 1 p) Stop))) }

  getstate_row : name_of name.GetState ≡ field 0 → Agrees (table.getstate log connection s) (addressed s name.GetState)
  unfolding table.getstate get_state_at
  getstate_row e =
      record {
        is =
            address_row name.GetState 1 2 e two_modules (omega arith)
            (λ at c h. by_test (eqb m 1)
            (λ f. rw (eqb-true m 1 f) (alone_row c (request.Connector (place_of 1 p) GetContact)))
            (λ f. rw (f, two f h) (alone_row c (request.Relay place Get))));
      }
    where
      two : eqb m 1 ≡ false → between 1 2 m ≡ true → eqb m 2 ≡ true
      two f h = eq-eqb m 2 (omega (arith, between_least 1 2 m h, between_most 1 2 m h, eqb-false m 1 f))

  setstate_row : name_of name.SetState ≡ field 0 → Agrees (table.setstate log connection s) (addressed s name.SetState)
  unfolding table.setstate set_state_at
  setstate_row e =
      record {
        is =
            one_row name.SetState 2 e (λ j. refl) (omega arith)
            (λ at c h. rw (h, within_is (next c) 0 1)
            (by_test (within 0 1 (field 2))
            (λ f. rw f (alone_row (next c) (request.Relay (place_of 2 p) (Set (worth 0 (field 2))))))
            (λ f. rw f)));
      }

  may_have_law : is_mode (field 2) ≡ true → may_have p (mode_in (field 2)) ≡ not (is "IR_BLASTER" (field 2) && not (eqb p 3))
  may_have_law e = go (mode_in (field 2)) ∙ ap (λ (w : List ℕ). not (is "IR_BLASTER" w && not (eqb p 3))) (word_back (field 2) e)
    where
      go : (mode : Mode) → may_have p mode ≡ not (is "IR_BLASTER" (mode_word mode) && not (eqb p 3))
      go Ir = refl
      go Sensor = refl
      go IrBlaster = by_test (eqb p 3) (λ f. rw f) (λ f. rw f)
      go LedLighting = refl

  set_ir_row : name_of name.SetIr ≡ field 0 → Agrees (table.set_ir log connection s) (addressed s name.SetIr)
  unfolding table.set_ir set_ir_at is_mode
  set_ir_row e =
      record {
        is =
            one_row name.SetIr 1 e (λ j. refl) (omega arith)
            (λ at c h. rw (h, mode_is (next c))
            (by_test (is_mode (field 2))
            (λ f. rw (f, may_have_law f)
            (by_test (is "IR_BLASTER" (field 2) && not (eqb p 3))
            (λ g. rw g)
            (λ g. rw g (alone_row (next c) (request.Connector (place_of 1 p) (SetMode (mode_in (field 2)))) ∙ rw (word_back (field 2) f)))))
            (λ f. rw f)));
      }

  -- 017 stands behind a 023 that only the log knows of: the request says whether there is more
  set_led_lighting_row : name_of name.SetLamp ≡ field 0 → Agrees (table.set_led_lighting log connection s) (addressed s name.SetLamp)
  unfolding table.set_led_lighting set_lamp_at ramp_at
  set_led_lighting_row e =
      record {
        is =
            one_row name.SetLamp 1 e (λ j. refl) (omega arith)
            (λ at c h. rw (h, within_is (next c) 1 100)
            (by_test (within 1 100 (field 2)) (λ f. rw (f, within_is (next (next c)) 0 10)
            (by_test (within 0 10 (field 3)) (λ g. rw (g, over (next (next c)))) (λ g. rw g)))
            (λ f. rw f)));
      }

  get_led_lighting_row : name_of name.GetLamp ≡ field 0 → Agrees (table.get_led_lighting log connection s) (addressed s name.GetLamp)
  unfolding table.get_led_lighting
  get_led_lighting_row e = record { is = one_row name.GetLamp 1 e (λ j. refl) (omega arith) (λ at c h. rw (h, over c)) }

  -- what is made of pairs whose offset is yet to be judged
  abbrev meant_pairs : Fields → List Pair → Judged
  meant_pairs f ps = cond (not (ltb f.offset (2 * length ps))) (error 7 1 p) (meant_command log connection p f ps)

  -- a code that was read, as checks
  code_row : (f : Fields) (code : Reading)
      → meant_read log connection p (code_read f code)
      ≡ cond (is_some (reading_of code).fault) (error (get_or (reading_of code).fault 0) 1 p) (meant_pairs f (reading_of code).pairs)
  code_row f (pairs ps) = by_test (ltb f.offset (2 * length ps)) (λ e. rw e) (λ e. rw e)
  code_row f (fault n ps) = refl

  sendir_row : name_of name.SendIr ≡ field 0 → Agrees (table.sendir log connection s) (addressed s name.SendIr)
  unfolding table.sendir command_at code_at fields_at capped
  sendir_row e =
      record {
        is = one_row name.SendIr 1 e (λ j. refl) (omega arith) (λ at c h. rw (h, within_is (next c) 0 65535)
            (by_test (silent p log) (λ z. rw z) λ z. rw z
            (by_test (within 0 65535 (field 2)) (λ i. rw (i, within_is (next (next c)) 15000 500000)
            (by_test (within 15000 500000 (field 3)) (λ q. rw (q, within_is (next (next (next c))) 1 999999)
            (by_test (within 1 999999 (field 4)) (λ r. rw (r, within_is (next (next (next (next c)))) 1 383)
            (by_test (within 1 383 (field 5)) (λ o. rw o
            (by_test (eqb (worth 0 (field 5) % 2) 0) (λ v. rw v)
            λ v. rw (v, ← (next (next (next (next (next c))))).stands, ← code_bytewise, code_row)))
            (λ o. rw o))) (λ r. rw r))) (λ q. rw q))) (λ i. rw i))));
      }

  -- ---- the whole line
  name_is : (w : List ℕ) → count 44 w ≡ 0 → field_is w s ≡ same w (field 0)
  name_is w n = word_is w s n ∙ ap (same w) (field_is_law (start s))

  first_row : (r : Request) (w : List ℕ) → w ≡ field 0 → cond (ltb 1 (length (cut 44 s))) (no 17) (makes r) ≡ makes (alone s (length w) r)
  first_row r w e =
      sym (alone_row (start s) r) ∙ ap (λ (n : ℕ). makes (alone s n r)) (zero-add (length (field 0)) ∙ ap length (sym e))

  -- a request without an address, whichever it is, in the words of its reply
  fixed_row : (fixed : Fixed) → fixed_word fixed ≡ field 0
      → Agrees (table.fixed log connection s (fixed_text fixed)) (worded s (Alone fixed))
  fixed_row fixed e = record { is = first_row (request.Fixed fixed) (fixed_word fixed) e }

  -- one word more
  record AgreesWord (r : Row) (w : Option Word) : Type 0 where
    is : Agrees r (asked s w)

  by_word : (w : Word) {r q : Row} {other : Option Word} → count 44 (word_of w) ≡ 0 → (word_of w ≡ field 0 → Agrees r (worded s w))
      → AgreesWord q other → AgreesWord (cond (same (word_of w) (field 0)) r q) (cond (field_is (word_of w) s) (Some w) other)
  by_word w n f g =
      rw (name_is (word_of w) n)
      (by_test (same (word_of w) (field 0)) (λ t. rw t (record { is = f (same_is (word_of w) (field 0) t) })) (λ t. rw t g))

  -- 001 "the name up to the first comma is unknown"
  unknown : AgreesWord (table.row [] (no 1)) None
  unknown = record { is = record { is = refl } }

  request_row : ltb 4096 (length s) ≡ false → all (between 32 126) s ≡ true → Agrees (table.request log connection s) (read_request s)
  unfolding table.request read_request word_at
  request_row short plain =
      rw (short, all_alike is_printable (between 32 126) (between_is 32 126) s, plain)
      (by_word (Alone Devices) refl (fixed_row Devices)
      (by_word (Alone Version) refl (fixed_row Version)
      (by_word (Named name.SetIr) refl set_ir_row
      (by_word (Named name.GetIr) refl get_ir_row
      (by_word (Named name.SetState) refl setstate_row
      (by_word (Named name.GetState) refl getstate_row
      (by_word (Named name.SendIr) refl sendir_row
      (by_word (Named name.StopIr) refl stopir_row
      (by_word (Named name.SetLamp) refl set_led_lighting_row
      (by_word (Named name.GetLamp) refl get_led_lighting_row unknown)))))))))).is

  -- 015, and 001 for a byte
  too_long : ltb 4096 (length s) ≡ true → makes (read_request s) ≡ no 15
  unfolding read_request
  too_long long = rw long

  unprintable : ltb 4096 (length s) ≡ false → all (between 32 126) s ≡ false → makes (read_request s) ≡ no 1
  unfolding read_request
  unprintable short other = rw (short, all_alike is_printable (between 32 126) (between_is 32 126) s, other)

  -- the table's judgement of a line is what is made of the request that the line is read as
  pub line_is : first
      ((ltb 4096 (length s) ⇒ no 15)
      ∷ (not (all (between 32 126) s) ⇒ no 1)
      ∷ (table.request log connection s).checks) (table.request log connection s).otherwise
      ≡ meant log connection s (read_request s)
  line_is =
      by_test (ltb 4096 (length s)) (λ e. rw e (sym (too_long e))) λ e. rw e
      (by_test (all (between 32 126) s) (λ a. rw a (request_row e a).is) (λ a. rw a (sym (unprintable e a))))
