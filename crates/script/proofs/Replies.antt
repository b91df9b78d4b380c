-- Laws of replies: all but the device list are one line, and how long each is where it is printed.
use Prim.Native.Nat.{ℕ, ◌+◌, ◌*◌, ◌/◌, ◌%◌, ◌≤◌}
use mathlib.Core.Path.{◌≡◌, refl, sym, ap, ◌∙◌}
use mathlib.Core.Bool.{Bool, true, not}
use mathlib.Core.List.{List, [], ◌∷◌, ◌++◌, append_assoc, append-nil}
use native.Mathlib.Omega.{arith}
use borrow.Author.Tests.{ne_eqb}
use lib.Dec.{eqb}
use lib.ListN.{length, set, length-append}
use Rattle.laws.specs.Bytes.{bytes}
use Rattle.laws.specs.Put.{over, Put}
use Rattle.laws.specs.Lists.{cut, free}
use Rattle.laws.proofs.Choice.{not_both}
use Rattle.laws.proofs.Joining.{cut_next}
use Rattle.laws.proofs.Lists.{all_append, all_weaker}
use Rattle.words.specs.Digits.{is_digit}
use Rattle.words.specs.Decimal.{decimal, three_digits}
use Rattle.text.proofs.Decimals.{decimal_small, decimal_digits, decimal_some, decimal_most}
use Rattle.text.proofs.Reading.{digit_range}
use Rattle.request.specs.declared.Place.{Place}
use Rattle.request.specs.declared.Fixed.TheVariants.{Devices, Version}
use Rattle.request.specs.declared.mode.Mode.{Mode as ModeKind}
use Rattle.request.specs.declared.mode.Mode.TheVariants.{Ir, Sensor, IrBlaster, LedLighting}
use Rattle.request.specs.Mode.{mode_word}
use Rattle.reply.specs.declared.Reply.{Reply}
use Rattle.reply.specs.declared.Reply.TheVariants.{Fixed, Error, Mode, State, Complete, Busy, Stopped, Lamp}
use Rattle.reply.specs.Reply.{address_text, reply_text}
use Rattle.reply.proofs.Lengths.{devices_66, reply_fits}
use Rattle.connector.specs.declared.Owner.{Owner}
use Rattle.connector.specs.declared.Owner.TheVariants.{Nobody, Connection}
use Rattle.connector.specs.declared.Completion.{Completion}
use Rattle.script.specs.Output.{line_for, lines_for, printed_reply, who_text, printed_completion, is_one_line}
use Rattle.script.proofs.Putting.{around}

-- ---- a text that one CR ends
pub record OneLine (text : List ℕ) : Type 0 where
  pub front : List ℕ
  pub is : text ≡ front ++ (13 ∷ [])
  pub clear : free 13 front ≡ true

abbrev clear : ℕ → Bool
clear b = not (eqb b 13)

digit_clear : (b : ℕ) → is_digit b ≡ true → clear b ≡ true
digit_clear b e = let d = digit_range b e in rw (ne_eqb b 13 (λ same. absurd (omega arith)))

decimal_clear : (n : ℕ) → free 13 (decimal n) ≡ true
decimal_clear n = all_weaker is_digit clear digit_clear (decimal n) (decimal_digits n)

three_clear : (n : ℕ) → free 13 (three_digits n) ≡ true
three_clear n =
    rw (
      ne_eqb (48 + n / 100 % 10) 13 (λ same. absurd (omega arith)),
      ne_eqb (48 + n / 10 % 10) 13 (λ same. absurd (omega arith)),
      ne_eqb (48 + n % 10) 13 (λ same. absurd (omega arith)),
    )

mode_clear : (mode : ModeKind) → free 13 (mode_word mode) ≡ true
mode_clear Ir = refl
mode_clear Sensor = refl
mode_clear IrBlaster = refl
mode_clear LedLighting = refl

pair_clear : (a b : ℕ) → free 13 (decimal a ++ bytes "," ++ decimal b) ≡ true
pair_clear a b =
    all_append clear (decimal a ++ bytes ",") (decimal b) (all_append clear (decimal a) (bytes ",") (decimal_clear a) refl) (decimal_clear b)

address_clear : (w : List ℕ) (place : Place) → free 13 w ≡ true → free 13 (address_text w place) ≡ true
address_clear w place e =
    all_append clear ((w ++ decimal place.m) ++ bytes ":") (decimal place.port)
    (all_append clear (w ++ decimal place.m) (bytes ":") (all_append clear w (decimal place.m) e (decimal_clear place.m)) refl)
    (decimal_clear place.port)

-- a word with its address, a comma, another word and the CR
with_last : (w : List ℕ) (place : Place) (last : List ℕ) → free 13 w ≡ true → free 13 last ≡ true
    → OneLine (address_text w place ++ (bytes "," ++ last ++ bytes "\r"))
with_last w place last e f =
    record {
      front = address_text w place ++ (bytes "," ++ last);
      is = sym (append_assoc (address_text w place) (bytes "," ++ last) (13 ∷ []));
      clear = all_append clear (address_text w place) (bytes "," ++ last) (address_clear w place e) f;
    }

pub one_line : (r : Reply) → is_one_line r ≡ true → OneLine (reply_text r)
unfolding reply_text
one_line (Fixed Devices) e = not_both e refl
one_line (Fixed Version) e = record { front = bytes "LH-01"; is = refl; clear = refl }
one_line (Error number place) e = with_last (bytes "ERR_") place (three_digits number) refl (three_clear number)
one_line (Mode place mode) e = with_last (bytes "IR,") place (mode_word mode) refl (mode_clear mode)
one_line (State place state) e = with_last (bytes "state,") place (decimal state) refl (decimal_clear state)
one_line (Complete place id) e = with_last (bytes "completeir,") place (decimal id) refl (decimal_clear id)
one_line (Busy place id) e = with_last (bytes "busyIR,") place (decimal id) refl (decimal_clear id)
one_line (Stopped place) e =
    record { front = address_text (bytes "stopir,") place; is = refl; clear = address_clear (bytes "stopir,") place refl }
one_line (Lamp place level target) e =
    with_last (bytes "LED_LIGHTING,") place (decimal level ++ bytes "," ++ decimal target) refl (pair_clear level target)

-- ---- printed
module _ (who : List ℕ) where
  pub printed_one : {text : List ℕ} (o : OneLine text) → printed_reply who text ≡ line_for who o.front
  unfolding printed_reply
  printed_one {text} o =
      ap (λ (l : List ℕ). lines_for who (cut 13 l)) o.is
      ∙ ap (lines_for who) (cut_next 13 o.front [] o.clear)
      ∙ append-nil (line_for who o.front)

  one_length : {text : List ℕ} → OneLine text → length (printed_reply who text) ≡ length who + 1 + length text
  one_length {text} o =
      ap length (printed_one o)
      ∙ simp length-append (omega (arith, ap length o.is ∙ length-append o.front (13 ∷ [])))

  devices_length : length (printed_reply who (reply_text (Fixed Devices))) ≡ 66 + 4 * (length who + 1)
  unfolding printed_reply reply_text
  devices_length = simp length-append (omega arith)

  -- between so many bytes
  pub record Sized (text : List ℕ) : Type 0 where
    pub least : length who + 1 + length text ≤ length (printed_reply who text)
    pub most : length (printed_reply who text) ≤ 132 + 4 * length who

  one_sized : {text : List ℕ} → OneLine text → length text ≤ 128 → Sized text
  one_sized o h = record { least = omega (arith, one_length o); most = omega (arith, one_length o) }

  pub sized : (r : Reply) → Sized (reply_text r)
  sized (Fixed Devices) =
      record { least = omega (arith, devices_length, devices_66); most = omega (arith, devices_length) }
  sized (Fixed Version) = one_sized (one_line (Fixed Version) refl) (reply_fits (Fixed Version))
  sized (Error number place) = one_sized (one_line (Error number place) refl) (reply_fits (Error number place))
  sized (Mode place mode) = one_sized (one_line (Mode place mode) refl) (reply_fits (Mode place mode))
  sized (State place state) = one_sized (one_line (State place state) refl) (reply_fits (State place state))
  sized (Complete place id) = one_sized (one_line (Complete place id) refl) (reply_fits (Complete place id))
  sized (Busy place id) = one_sized (one_line (Busy place id) refl) (reply_fits (Busy place id))
  sized (Stopped place) = one_sized (one_line (Stopped place) refl) (reply_fits (Stopped place))
  sized (Lamp place level target) = one_sized (one_line (Lamp place level target) refl) (reply_fits (Lamp place level target))

-- ---- for whom
pub who_some : (who : Owner) → 1 ≤ length (who_text who)
unfolding who_text
who_some Nobody = omega arith
who_some (Connection number) = decimal_some number

pub who_most : (who : Owner) → length (who_text who) ≤ 20
unfolding who_text
who_most Nobody = omega arith
who_most (Connection number) = decimal_most number

pub reply_most : (who : Owner) (r : Reply) → length (printed_reply (who_text who) (reply_text r)) ≤ 212
reply_most who r = omega (arith, (sized (who_text who) r).most, who_most who)

pub completion_most : (c : Completion) → length (printed_completion c) ≤ 256
unfolding printed_completion
completion_most c =
    simp length-append (omega (arith, decimal_most c.moment.0, reply_most c.owner (Complete c.place c.id)))

-- ---- a reply of one line where its bytes stand already
pub around_reply : (b : List ℕ) (at connection : ℕ) (r : Reply) (size : ℕ) → is_one_line r ≡ true → connection ≤ 7
    → size ≡ length (reply_text r) → at + 1024 ≤ length b → b ≡ over b (at + 2) (reply_text r)
    → Put b at (printed_reply (decimal connection) (reply_text r))
    (set (set (set b at (48 + connection)) (at + 1) 32) (at + 1 + size) 10) (at + 2 + size)
around_reply b at connection r size one few e room stands =
    let o = one_line r one in
    let n : size ≡ length o.front + 1 = omega (arith, ap length o.is ∙ length-append o.front (13 ∷ [])) in
    let digit : 48 + connection % 10 ≡ 48 + connection = omega arith in
    rw (printed_one (decimal connection) o, decimal_small connection (omega arith), digit)
    (around b at (48 + connection) o.front size n (omega (arith, reply_fits r)) (stands ∙ ap (over b (at + 2)) o.is))

pub one_some : (r : Reply) → is_one_line r ≡ true → 1 ≤ length (reply_text r)
one_some r one = let o = one_line r one in omega (arith, ap length o.is ∙ length-append o.front (13 ∷ []))
