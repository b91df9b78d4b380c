-- Time on a connector, in microseconds from the start of the history: all copies written out, nothing rounded and nothing carried on.
use Rattle.std.specs.Prelude.{ℕ, zero, suc, ◌+◌, ◌-◌, ◌*◌, ◌/◌, Bool, true, false, cond, not, List, [], ◌∷◌, ◌++◌, ltb, leb, drop}
use Rattle.laws.specs.Lists.{times}
use Rattle.words.specs.declared.Pair.{Pair}
use Rattle.words.specs.declared.Fields.{Fields}
use Rattle.words.specs.Pairs.{counts_of}

-- what counts last, in carrier periods
abbrev pub lasts : List ℕ → ℕ
lasts [] = 0
lasts (x ∷ xs) = x + lasts xs

-- a tick is a millionth of a carrier period: in a microsecond as many pass as the frequency has hertz
abbrev pub in_ticks : ℕ → ℕ
in_ticks periods = periods * 1000000

-- a command, the moment at which it was started, and how many copies of it are sent in all
pub record Transmission : Type 0 where
  pub fields : Fields
  pub pairs : List Pair
  pub start : ℕ
  pub copies : ℕ

-- "The first copy is all pairs; each further copy runs from the on count at the offset." The first count has offset 1.
abbrev pub further_copy : Fields → List Pair → List ℕ
further_copy f ps = drop (f.offset - 1) (counts_of ps)

abbrev pub waveform : Fields → List Pair → ℕ → List ℕ
waveform f ps zero = []
waveform f ps (suc n) = counts_of ps ++ times n (further_copy f ps)

unfoldable pub total : Transmission → ℕ
total s = in_ticks (lasts (waveform s.fields s.pairs s.copies))

-- "After t microseconds a transmission has done t × freq / 1,000,000 periods, an exact fraction": its ticks, at a moment
unfoldable pub done : Transmission → ℕ → ℕ
done s t = (t - s.start) * s.fields.freq

-- "complete at the first whole microsecond when the fraction reaches the total", and that moment
unfoldable pub complete : Transmission → ℕ → Bool
complete s t = leb (total s) (done s t)

unfoldable pub first_micro : ℕ → ℕ → ℕ
first_micro ticks freq = (ticks + (freq - 1)) / freq

unfoldable pub finish : Transmission → ℕ
finish s = s.start + first_micro (total s) s.fields.freq

-- "The carrier is on where that lies in an on count, its start included and its end not." Counts take turns, the first on or not.
abbrev pub on_at : Bool → List ℕ → ℕ → Bool
on_at on [] place = false
on_at on (x ∷ xs) place = cond (ltb place (in_ticks x)) on (on_at (not on) xs (place - in_ticks x))

unfoldable pub carrier : Transmission → ℕ → Bool
carrier s t = on_at true (waveform s.fields s.pairs s.copies) (done s t)

-- the copies finished at a moment: none within the first, then that one and as many further ones as fit; document 02, request 2: "at an
-- exact boundary the copy just ended is finished"
unfoldable pub finished : Transmission → ℕ → ℕ
finished s t =
    let first = in_ticks (lasts (counts_of s.pairs)) in
    cond (ltb (done s t) first) 0 (1 + (done s t - first) / in_ticks (lasts (further_copy s.fields s.pairs)))

-- "sendir to an idle connector starts"; "the transmission is renewed", and by request 2 "the total becomes copies finished plus repeat"
unfoldable pub started : Fields → List Pair → ℕ → Transmission
started f ps t = record { fields = f; pairs = ps; start = t; copies = f.repeat }

unfoldable pub renewed : Transmission → ℕ → Transmission
renewed s t = record { fields = s.fields; pairs = s.pairs; start = s.start; copies = finished s t + s.fields.repeat }
