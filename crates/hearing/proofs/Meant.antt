-- The text of a reply is the lines that it is heard as, with a CR behind each, and so the assembler hands them on.
use Prim.Native.Nat.{ℕ, ◌-◌}
use mathlib.Core.Path.{◌≡◌, refl, sym, ap, ◌∙◌}
use mathlib.Core.List.{List, [], ◌∷◌, ◌++◌, map, append_assoc}
use native.Mathlib.Omega.{arith}
use lib.ListN.{length, length-append}
use lib.Seq.{take-append_seam}
use Rattle.laws.specs.Bytes.{bytes}
use Rattle.words.specs.Decimal.{decimal, three_digits}
use Rattle.lines.specs.Cut.{whole, lines_of, stream_of}
use Rattle.request.specs.declared.Fixed.TheVariants.{Devices, Version}
use Rattle.request.specs.Mode.{mode_word}
use Rattle.reply.specs.declared.Reply.{Reply}
use Rattle.reply.specs.declared.Reply.TheVariants.{Fixed, Error, Mode, State, Complete, Busy, Stopped, Lamp}
use Rattle.reply.specs.Reply.{address_text, reply_text}
use Rattle.logger.specs.declared.Heard.{Heard}
use Rattle.logger.specs.Heard.{line_of}
use Rattle.hearing.specs.Guess.{without_cr}
use Rattle.hearing.specs.Meant.{heard_as}
use Rattle.logger.proofs.Plain.{lines_spoken}

-- an address, a comma and a word
one_line : (head word : List ℕ) → head ++ (bytes "," ++ word ++ bytes "\r") ≡ (head ++ (bytes "," ++ word)) ++ (13 ∷ [])
one_line head word = sym (append_assoc head (bytes "," ++ word) (13 ∷ []))

text_of : (r : Reply) → reply_text r ≡ stream_of (map line_of (heard_as r)) []
unfolding reply_text line_of
text_of (Fixed Devices) = refl
text_of (Fixed Version) = refl
text_of (Error number place) = one_line (address_text (bytes "ERR_") place) (three_digits number)
text_of (Mode place mode) = one_line (address_text (bytes "IR,") place) (mode_word mode)
text_of (State place state) = one_line (address_text (bytes "state,") place) (decimal state)
text_of (Complete place id) = one_line (address_text (bytes "completeir,") place) (decimal id)
text_of (Busy place id) = one_line (address_text (bytes "busyIR,") place) (decimal id)
text_of (Stopped place) = refl
text_of (Lamp place level target) = one_line (address_text (bytes "LED_LIGHTING,") place) (decimal level ++ bytes "," ++ decimal target)

-- a reply of one line, without its CR
pub line_is : (r : Reply) (h : Heard) → heard_as r ≡ h ∷ [] → without_cr (reply_text r) ≡ line_of h
line_is r h e =
    let t : reply_text r ≡ line_of h ++ (13 ∷ []) = text_of r ∙ ap (λ (l : List Heard). stream_of (map line_of l) []) e in
    let k : length (reply_text r) - 1 ≡ length (line_of h) = omega (arith, ap length t ∙ length-append (line_of h) (13 ∷ [])) in
    rw (k, t) (take-append_seam (line_of h) (13 ∷ []))

-- every reply is read back as meant, the device list through its four lines
pub heard_back : (r : Reply) → lines_of (reply_text r) ≡ map (λ h. whole (line_of h)) (heard_as r)
heard_back r = ap lines_of (text_of r) ∙ lines_spoken (heard_as r)
