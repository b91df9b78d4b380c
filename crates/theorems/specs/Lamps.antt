-- What the theorems on lamps speak of: a level that moves, a lamp within its limits, its last target, a line that asks a lamp.
use Rattle.std.specs.Prelude.{ℕ, ◌+◌, ◌≤◌, ◌≡◌, Bool, true, false, not, List, [], ◌∷◌, ◌++◌, map, eqb, length}
use Prim.Native.String.{String}
use Rattle.std.proofs.Math.Option.{Option, none}
use Rattle.laws.specs.Bytes.{bytes}
use Rattle.laws.specs.Checks.{between}
use Rattle.laws.specs.Lists.{all, part}
use Rattle.words.specs.Places.{connectors}
use Rattle.meaning.specs.Line.{number, within, is_address}
use Rattle.meaning.specs.Lamp.{Lamp, exactly, dark, exact_level}
use Rattle.meaning.specs.Log.{Deed, passed, setting, switched, event, changed, felt, lit, now, lamp_of}
use Rattle.meaning.specs.Table.{Answer, taken, replied, Call, line, waiting, Said}
use Rattle.theorems.specs.Deeds.{Port, in_lighting}
use Rattle.theorems.specs.Spelled.{lamp_line}

-- from a level towards a goal some way up or down, "and stops at the target": the level after it
pub record Moved (from goal way to : ℕ) : Type 0 where
  pub rises : from + way ≤ goal → to ≡ from + way
  pub falls : goal + way ≤ from → to + way ≡ from
  pub risen : from ≤ goal → goal ≤ from + way → to ≡ goal
  pub fallen : goal ≤ from → from ≤ goal + way → to ≡ goal

-- a lamp at a moment not before its last target: "a target of 1 to 100 and a ramp of 0 to 10"; "A connector entering this mode is at 0 with
-- target 0", and no other has that
pub record LampWithin (x : Lamp) (t : ℕ) : Type 0 where
  pub from_most : x.from ≤ exactly 100
  pub target_most : x.target ≤ 100
  pub ramp_most : x.ramp ≤ 10
  pub begun : x.since ≤ t
  pub unlit : x.target ≡ 0 → x ≡ dark

-- a target for the lamp of connector p, or a change of its mode
abbrev pub is_lighting : ℕ → Deed → Bool
is_lighting p (passed n) = false
is_lighting p (setting q (changed mode)) = eqb q p
is_lighting p (setting q (felt value)) = false
is_lighting p (setting q (lit target ramp)) = eqb q p
is_lighting p (switched q state) = false
is_lighting p (event x) = false

-- where a lamp comes from: neither a target nor a change of mode is in the log; or behind the last change there is no target; or behind its
-- last target there is no other, and no change
pub data LastLit (log : List Deed) (p : ℕ) : Lamp → Type 0 where
  never : all (λ d. not (is_lighting p d)) log ≡ true → LastLit log p dark
  entered : (later earlier : List Deed) (mode : List ℕ) → log ≡ later ++ (setting p (changed mode) ∷ earlier)
      → all (λ d. not (is_lighting p d)) later ≡ true → LastLit log p dark
  last : (later earlier : List Deed) (target ramp : ℕ) → log ≡ later ++ (setting p (lit target ramp) ∷ earlier)
      → all (λ d. not (is_lighting p d)) later ≡ true
      → LastLit log p (record { from = exact_level (lamp_of p earlier) (now earlier); target = target; ramp = ramp; since = now earlier })

-- a line of this name to connector 1:p that is heard, with anything behind its address
pub record AsksLamp (name : String) (p connection room : ℕ) (s : List ℕ) : Type 0 where
  pub connection_most : connection ≤ 7
  pub room_least : 128 ≤ room
  pub size_most : length s ≤ 4096
  pub printed : all (between 32 126) s ≡ true
  pub named : part 44 0 s ≡ bytes name
  pub address : is_address (part 44 1 s) ≡ true
  pub infrared : within 1 1 (part 58 0 (part 44 1 s)) ≡ true
  pub port : within 1 connectors (part 58 1 (part 44 1 s)) ≡ true
  pub asked : number (part 58 1 (part 44 1 s)) ≡ p

-- a reply is the lamp line of a connector in LED_LIGHTING, to the asker alone: "present level, target", as they are after the call
pub record LampShown (log after : List Deed) (words : List ℕ) (told : Option ℕ) : Type 0 where
  pub p : ℕ
  pub port : Port connectors p
  pub lighting : in_lighting p log ≡ true
  pub shows : words ≡ lamp_line after p (lamp_of p after)
  pub alone : told ≡ none

-- ---- worked values, as a session of connection 0 with connector 1: each call with what it is told and the level after it
pub record Step : Type 0 where
  pub call : Call
  pub told : Answer
  pub shown : ℕ

abbrev asks : String → String → ℕ → Step
asks request reply shown = record { call = line 0 128 (bytes request); told = replied (bytes reply) none; shown = shown }

abbrev waits : ℕ → ℕ → Step
waits n shown = record { call = waiting n; told = taken []; shown = shown }

abbrev pub session : List Step
session =
    asks "set_IR,1:1,LED_LIGHTING" "IR,1:1,LED_LIGHTING\r" 0
    ∷ asks "get_LED_LIGHTING,1:1" "LED_LIGHTING,1:1,0,0\r" 0
    ∷ asks "set_LED_LIGHTING,1:1,100,3" "LED_LIGHTING,1:1,0,100\r" 0
    ∷ waits 100000 3
    ∷ waits 33333 3
    ∷ waits 1 4
    ∷ asks "get_LED_LIGHTING,1:1" "LED_LIGHTING,1:1,4,100\r" 4
    ∷ waits 3199999 99
    ∷ waits 1 100
    ∷ asks "set_LED_LIGHTING,1:1,1,10" "LED_LIGHTING,1:1,100,1\r" 100
    ∷ waits 1 99
    ∷ waits 989999 1
    ∷ asks "set_IR,1:1,IR" "IR,1:1,IR\r" 0
    ∷ asks "get_LED_LIGHTING,1:1,x" "ERR_1:1,023\r" 0
    ∷ asks "set_IR,1:1,LED_LIGHTING" "IR,1:1,LED_LIGHTING\r" 0
    ∷ asks "get_LED_LIGHTING,1:1,x" "ERR_0:0,017\r" 0
    ∷ asks "set_LED_LIGHTING,1:1,100,3" "LED_LIGHTING,1:1,0,100\r" 0
    ∷ waits 133333 3
    ∷ asks "set_LED_LIGHTING,1:1,1,1" "LED_LIGHTING,1:1,3,1\r" 3
    ∷ waits 99999 3
    ∷ waits 1 2
    ∷ asks "set_LED_LIGHTING,1:1,50,0" "LED_LIGHTING,1:1,50,50\r" 50
    ∷ asks "set_LED_LIGHTING,1:1,50,1," "ERR_0:0,017\r" 50
    ∷ asks "set_LED_LIGHTING,1:1,101,1," "ERR_1:1,023\r" 50
    ∷ asks "stopir,1:1" "ERR_1:1,013\r" 50
    ∷ []

-- what is said of a session: its carriers are off, and the other connectors have no lamp
abbrev pub said_of : List Step → List Said
said_of l = map (λ (s : Step). record { answer = s.told; carriers = false ∷ false ∷ false ∷ []; levels = s.shown ∷ 0 ∷ 0 ∷ [] }) l
