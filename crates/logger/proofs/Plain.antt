-- The line of a reply has no CR and is short, so that the lines of a stream of replies are theirs, one for one.
use Prim.Native.Nat.{ℕ, ◌+◌, ◌/◌, ◌%◌, ◌≤◌}
use Prim.Native.String.{String}
use mathlib.Core.Path.{◌≡◌, refl, ap, ◌∙◌}
use mathlib.Core.Bool.{true}
use mathlib.Core.List.{List, [], ◌∷◌, ◌++◌, map}
use native.Mathlib.Omega.{arith}
use borrow.Author.Tests.{le-leb, ne_eqb}
use lib.ListN.{length, length-append}
use Rattle.laws.specs.Bytes.{bytes}
use Rattle.laws.specs.Lists.{all}
use Rattle.laws.proofs.Lists.{all_append, all_weaker}
use Rattle.words.specs.Digits.{is_digit}
use Rattle.words.specs.Decimal.{decimal, three_digits}
use Rattle.text.proofs.Reading.{digit_range}
use Rattle.text.proofs.Decimals.{decimal_digits, decimal_most}
use Rattle.meaning.specs.Line.{addressed}
use Rattle.request.specs.declared.Place.{Place}
use Rattle.request.specs.declared.mode.Mode as mode
use Rattle.request.specs.declared.mode.Mode.TheVariants.{Ir, Sensor, IrBlaster, LedLighting}
use Rattle.request.specs.Mode.{mode_word}
use Rattle.lines.specs.Cut.{Divided, divided, whole, lines_of, no_cr, stream_of}
use Rattle.lines.specs.Cut as cut
use Rattle.lines.proofs.Cutting.{divided_one, lines_are}
use Rattle.logger.specs.declared.Device as device
use Rattle.logger.specs.declared.Device.TheVariants.{Ethernet, Infrared, Relays, End}
use Rattle.logger.specs.declared.Heard.{Heard}
use Rattle.logger.specs.declared.Heard.TheVariants.{NotReply, State, Complete, Busy, Stop, Mode, Error, Version, Listed, Lamp}
use Rattle.logger.specs.Heard.{at, device_line, line_of}

-- ---- the line of a reply
pub record Plain (s : List ℕ) : Type 0 where
  pub clear : all no_cr s ≡ true
  pub short : length s ≤ 96

high : (b : ℕ) → 48 ≤ b → no_cr b ≡ true
high b h = rw (ne_eqb b 13 (λ e. absurd (omega arith)))

digits_clear : (n : ℕ) → all no_cr (decimal n) ≡ true
digits_clear n = all_weaker is_digit no_cr (λ b e. high b (digit_range b e).0) (decimal n) (decimal_digits n)

number_short : (n : ℕ) → length (decimal n) ≤ 41
number_short n = omega (arith, decimal_most n)

-- a level, a comma and a target
level_plain : (level target : ℕ) → (all no_cr (decimal level ++ bytes "," ++ decimal target) ≡ true) × (length (decimal level ++ bytes "," ++ decimal target) ≤ 41)
level_plain level target = (
  all_append no_cr (decimal level ++ bytes ",") (decimal target)
      (all_append no_cr (decimal level) (bytes ",") (digits_clear level) refl) (digits_clear target),
  rw (length-append, length-append) (omega (arith, decimal_most level, decimal_most target)),
)

three_plain : (n : ℕ) → Plain (three_digits n)
three_plain n =
    record {
      clear = rw (high (48 + n / 100 % 10) (omega arith), high (48 + n / 10 % 10) (omega arith), high (48 + n % 10) (omega arith));
      short = omega arith;
    }

-- a word of at most 13 bytes and m:p
record Addressed (word : String) (a : Place) : Type 0 where
  clear : all no_cr (addressed word a.m a.port) ≡ true
  short : length (addressed word a.m a.port) ≤ 54

addressed_plain : (word : String) (a : Place) → all no_cr (bytes word) ≡ true → length (bytes word) ≤ 13 → Addressed word a
addressed_plain word a clear short =
    let named = all_append no_cr (bytes word) (decimal a.m) clear (digits_clear a.m) in
    record {
      clear =
          all_append no_cr (bytes word ++ decimal a.m ++ bytes ":") (decimal a.port)
          (all_append no_cr (bytes word ++ decimal a.m) (bytes ":") named refl) (digits_clear a.port);
      short = rw (length-append, length-append, length-append) (omega (arith, decimal_most a.m, decimal_most a.port));
    }

-- and what stands behind a comma
at_plain : (word : String) (a : Place) (last : List ℕ) → all no_cr (bytes word) ≡ true → length (bytes word) ≤ 13 → all no_cr last ≡ true
    → length last ≤ 41 → Plain (at word a last)
at_plain word a last clear short ends few =
    let front = addressed_plain word a clear short in
    record {
      clear = all_append no_cr (addressed word a.m a.port) (bytes "," ++ last) front.clear ends;
      short = rw length-append (omega (arith, front.short));
    }

mode_plain : (m : mode.Mode) → (all no_cr (mode_word m) ≡ true) × (length (mode_word m) ≤ 41)
mode_plain Ir = (refl, omega arith)
mode_plain Sensor = (refl, omega arith)
mode_plain IrBlaster = (refl, omega arith)
mode_plain LedLighting = (refl, omega arith)

device_plain : (d : device.Device) → Plain (device_line d)
device_plain Ethernet = record { clear = refl; short = omega arith }
device_plain Infrared = record { clear = refl; short = omega arith }
device_plain Relays = record { clear = refl; short = omega arith }
device_plain End = record { clear = refl; short = omega arith }

pub line_plain : (r : Heard) → Plain (line_of r)
unfolding line_of
line_plain NotReply = record { clear = refl; short = omega arith }
line_plain (State a v) = at_plain "state," a (decimal v) refl (omega arith) (digits_clear v) (number_short v)
line_plain (Complete a id) = at_plain "completeir," a (decimal id) refl (omega arith) (digits_clear id) (number_short id)
line_plain (Busy a id) = at_plain "busyIR," a (decimal id) refl (omega arith) (digits_clear id) (number_short id)
line_plain (Stop a) =
    let front = addressed_plain "stopir," a refl (omega arith) in
    record { clear = front.clear; short = omega (arith, front.short) }
line_plain (Mode a m) = at_plain "IR," a (mode_word m) refl (omega arith) (mode_plain m).0 (mode_plain m).1
line_plain (Error n a) = at_plain "ERR_" a (three_digits n) refl (omega arith) (three_plain n).clear (omega arith)
line_plain Version = record { clear = refl; short = omega arith }
line_plain (Listed d) = device_plain d
line_plain (Lamp a level target) =
    let last = level_plain level target in
    at_plain "LED_LIGHTING," a (decimal level ++ bytes "," ++ decimal target) refl (omega arith) last.0 last.1

-- ---- the lines of a stream of replies
clear_lines : (rs : List Heard) → all (all no_cr) (map line_of rs) ≡ true
clear_lines [] = refl
clear_lines (r ∷ rs) = rw ((line_plain r).clear, clear_lines rs)

whole_lines : (rs : List Heard) → map cut.line_of (map line_of rs) ≡ map (λ r. whole (line_of r)) rs
unfolding cut.line_of
whole_lines [] = refl
whole_lines (r ∷ rs) = rw (le-leb (length (line_of r)) 4096 (omega (arith, (line_plain r).short)), whole_lines rs)

pub lines_spoken : (rs : List Heard) → lines_of (stream_of (map line_of rs) []) ≡ map (λ r. whole (line_of r)) rs
lines_spoken rs = lines_are (map line_of rs) [] (clear_lines rs) refl ∙ whole_lines rs

pub parts_spoken : (rs : List Heard) → (divided [] (stream_of (map line_of rs) [])).parts ≡ map line_of rs
parts_spoken rs = ap (λ (d : Divided). d.parts) (divided_one (map line_of rs) [] (clear_lines rs) refl)
