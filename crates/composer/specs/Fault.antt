-- What is wrong with a request that is to be composed. Document 02: "request fields out of 01's limits get that field's number, in 01's order
-- (014 too)". The number is 0 where nothing is wrong. That it is the number that the hub's own reading gives to the request spelled out are the
-- theorems `refused_as_read` and `sendir_refused_as_read` of proofs/Refused.antt.
use Rattle.std.specs.Prelude.{ℕ, ◌%◌, not, List, [], ◌∷◌, ltb, leb, eqb, length, take, cond, Result, Ok, Err}
use Rattle.laws.specs.Checks.{◌⇒◌, first, between}
use Rattle.laws.specs.Lists.{all}
use Rattle.words.specs.Places.{ports_of}
use Rattle.code.specs.Limits.{legal, most_id, least_freq, most_freq, most_repeat, most_offset, most_counts}
use Rattle.request.specs.declared.Place.{Place}
use Rattle.request.specs.Mode.{may_have}
use Rattle.command.specs.declared.given.Given.{Given}
use Rattle.command.specs.declared.given.Command.{Command}
use Rattle.composer.specs.declared.Wish.{Wish}
use Rattle.composer.specs.declared.Wish.TheVariants.{Fixed, SetMode, GetMode, SetState, GetState, Stop, SetLamp, GetLamp}

-- how the code answers a number: it is the refusal, and 0 is none
abbrev pub judged : ℕ → Result Unit ℕ
judged fault = cond (eqb fault 0) (Ok tt) (Err fault)

-- the one that is first: 0 is none
abbrev pub or_else : ℕ → ℕ → ℕ
or_else fault next = first ((not (eqb fault 0) ⇒ fault) ∷ []) next

-- 002 "module not the one in the table for this request", which takes least to most; 003 "port not 1 to 3"
unfoldable pub place_fault : ℕ → ℕ → Place → ℕ
place_fault least most a = first
    ((not (between least most a.m) ⇒ 2)
    ∷ (not (between 1 (ports_of a.m) a.port) ⇒ 3)
    ∷ []) 0

-- 004, 005, 006, 007 "id, freq, repeat, offset .. out of range"; the offset is odd
unfoldable pub fields_fault : Given → ℕ
fields_fault f = first
    ((not (between 0 most_id f.id) ⇒ 4)
    ∷ (not (between least_freq most_freq f.freq) ⇒ 5)
    ∷ (not (between 1 most_repeat f.repeat) ⇒ 6)
    ∷ (not (between 1 most_offset f.offset) ⇒ 7)
    ∷ (eqb (f.offset % 2) 0 ⇒ 7)
    ∷ []) 0

-- the counts, "the first from the left": 009 no count, or one out of limits among the first 520; 020 a 521st; 010 the last is an on count
unfoldable pub counts_fault : ℕ → List ℕ → ℕ
counts_fault freq counts = first
    ((eqb (length counts) 0 ⇒ 9)
    ∷ (not (all (legal freq) (take most_counts counts)) ⇒ 9)
    ∷ (ltb most_counts (length counts) ⇒ 20)
    ∷ (not (eqb (length counts % 2) 0) ⇒ 10)
    ∷ []) 0

-- "sendir .. 004, 005, 006, 007, code faults, 007 for an offset beyond the code"
unfoldable pub sendir_fault : Command → List ℕ → ℕ
sendir_fault c counts =
    or_else (place_fault 1 1 c.place)
    (or_else (fields_fault c.fields)
    (or_else (counts_fault c.fields.freq counts)
    (first ((leb (length counts) c.fields.offset ⇒ 7) ∷ []) 0)))

-- "set_LED_LIGHTING takes a target of 1 to 100 and a ramp of 0 to 10"; "023 for a bad target, bad ramp"
unfoldable pub lamp_fault : ℕ → ℕ → ℕ
lamp_fault target ramp = first ((not (between 1 100 target) ⇒ 23) ∷ (ltb 10 ramp ⇒ 23) ∷ []) 0

-- "set_IR 023, 014", "setstate 023"; "getstate takes 1 or 2"
unfoldable pub wish_fault : Wish → ℕ
wish_fault (Fixed fixed) = 0
wish_fault (SetMode a mode) = or_else (place_fault 1 1 a) (first ((not (may_have a.port mode) ⇒ 14) ∷ []) 0)
wish_fault (GetMode a) = place_fault 1 1 a
wish_fault (SetState a state) = or_else (place_fault 2 2 a) (first ((ltb 1 state ⇒ 23) ∷ []) 0)
wish_fault (GetState a) = place_fault 1 2 a
wish_fault (Stop a) = place_fault 1 1 a
wish_fault (SetLamp a target ramp) = or_else (place_fault 1 1 a) (lamp_fault target ramp)
wish_fault (GetLamp a) = place_fault 1 1 a
