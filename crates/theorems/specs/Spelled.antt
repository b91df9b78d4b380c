-- Each request of the table written out, with any digits that its numbers may have.
use Rattle.std.specs.Prelude.{ℕ, ◌*◌, ◌%◌, ◌≤◌, ◌<◌, ◌≡◌, Bool, true, cond, not, ◌&&◌, List, [], ◌∷◌, ◌++◌, ltb, length}
use Rattle.std.proofs.Math.Option.{Option, none, get_or}
use Rattle.laws.specs.Bytes.{bytes}
use Rattle.laws.specs.Checks.{◌⇒◌, first, between, holds, is_some}
use Rattle.laws.specs.Lists.{all, same, part, behind, joined}
use Rattle.words.specs.Decimal.{decimal}
use Rattle.words.specs.Places.{connectors}
use Rattle.words.specs.declared.Pair.{Pair}
use Rattle.words.specs.declared.Fields.{Fields}
use Rattle.meaning.specs.Line as text
use Rattle.meaning.specs.Line.{number, within, is_address, addressed, sound, code_in}
use Rattle.meaning.specs.Lamp.{Lamp, level, turned}
use Rattle.meaning.specs.Log.{Deed, setting, switched, event, changed, lit, started, renewed, halted, now, mode_of, contact_of, lamp_of, relay_of, owner_of, is_owner, on_air}
use Rattle.meaning.specs.Table.{Judged, error, no, does, taken, replied, reply, is_same}
use Rattle.theorems.specs.Deeds.{in_sensor, in_lighting, silent}

-- fields with commas between them; an address m:p
abbrev pub fields : List (List ℕ) → List ℕ
fields l = joined 44 l

abbrev pub at : List ℕ → List ℕ → List ℕ
at m p = joined 58 (m ∷ p ∷ [])

-- "set_IR,m:p,mode"
abbrev pub setting_text : List ℕ → List ℕ → List ℕ → List ℕ
setting_text m p mode = fields (bytes "set_IR" ∷ at m p ∷ mode ∷ [])

-- who may be heard: 102, 101
pub record Heard (connection room : ℕ) : Type 0 where
  pub known : connection ≤ 7
  pub enough : 128 ≤ room

-- "repeat 1 to 999999, and above 20 is taken as 20"
abbrev pub capped : ℕ → ℕ
capped repeat = cond (ltb 20 repeat) 20 repeat

-- "id 0 to 65535; freq 15000 to 500000 Hz; repeat 1 to 999999 ..; offset odd, 1 to 383"; "The offset is at most twice the number of pairs, less one"
pub record Legal (id freq repeat offset : ℕ) (ps : List Pair) : Type 0 where
  pub most_id : id ≤ 65535
  pub least_freq : 15000 ≤ freq
  pub most_freq : freq ≤ 500000
  pub least_repeat : 1 ≤ repeat
  pub most_repeat : repeat ≤ 999999
  pub odd : offset % 2 ≡ 1
  pub most_offset : offset ≤ 383
  pub inside : offset < 2 * length ps

abbrev pub command : ℕ → ℕ → ℕ → ℕ → Fields
command id freq repeat offset = record { id = id; freq = freq; repeat = capped repeat; offset = offset }

-- a sendir line without a fault, to connector 1:p, with these fields and pairs: each check of its row before busyIR lets it pass, but 013
pub record IsSendir (s : List ℕ) (p : ℕ) (f : Fields) (ps : List Pair) : Type 0 where
  pub short : length s ≤ 4096
  pub printable : all (between 32 126) s ≡ true
  pub name : part 44 0 s ≡ bytes "sendir"
  pub address : is_address (part 44 1 s) ≡ true
  pub infrared : within 1 1 (part 58 0 (part 44 1 s)) ≡ true
  pub port : within 1 connectors (part 58 1 (part 44 1 s)) ≡ true
  pub asked : number (part 58 1 (part 44 1 s)) ≡ p
  pub id : within 0 65535 (part 44 2 s) ≡ true
  pub freq : within 15000 500000 (part 44 3 s) ≡ true
  pub repeat : within 1 999999 (part 44 4 s) ≡ true
  pub offset : within 1 383 (part 44 5 s) ≡ true
  pub has_id : number (part 44 2 s) ≡ f.id
  pub has_freq : number (part 44 3 s) ≡ f.freq
  pub has_repeat : capped (number (part 44 4 s)) ≡ f.repeat
  pub has_offset : number (part 44 5 s) ≡ f.offset
  pub odd : f.offset % 2 ≡ 1
  pub code : code_in f.freq (behind 44 6 s) ≡ sound ps
  pub inside : f.offset < 2 * length ps

-- ---- what the log makes of each request, once its fields are read

abbrev pub devices_told : Judged
devices_told = reply (bytes "device,0,0 ETHERNET\rdevice,1,3 IR\rdevice,2,3 RELAY\rendlistdevices\r") []

abbrev pub version_told : Judged
version_told = reply (bytes "LH-01\r") []

abbrev pub mode_set : List Deed → ℕ → List ℕ → Judged
mode_set log p mode = first
    ((is_some (on_air p log) ⇒ error 29 1 p)
    ∷ []) (reply (text.line "IR," 1 p mode) (cond (same (mode_of p log) mode) [] (setting p (changed mode) ∷ [])))

abbrev pub mode_told : List Deed → ℕ → Judged
mode_told log p = reply (text.line "IR," 1 p (mode_of p log)) []

abbrev pub relay_set : ℕ → ℕ → Judged
relay_set p state = reply (text.line "state," 2 p (decimal state)) (switched p state ∷ [])

abbrev pub relay_told : List Deed → ℕ → Judged
relay_told log p = reply (text.line "state," 2 p (decimal (relay_of p log))) []

abbrev pub contact_told : List Deed → ℕ → Judged
contact_told log p = first
    ((not (in_sensor p log) ⇒ error 18 1 p)
    ∷ (not (is_some (contact_of p log)) ⇒ error 28 1 p)
    ∷ []) (reply (text.line "state," 1 p (decimal (get_or (contact_of p log) 0))) [])

-- `LED_LIGHTING`, address, "present level, target"
abbrev pub lamp_line : List Deed → ℕ → Lamp → List ℕ
lamp_line log p x = text.line "LED_LIGHTING," 1 p (decimal (level x (now log)) ++ bytes "," ++ decimal x.target)

-- "023 for a bad target, bad ramp or a connector not in this mode, then 017 for a surplus": what is left of it once target and ramp are read, and
-- `more` is whether something stands behind them
abbrev pub lamp_set : List Deed → ℕ → ℕ → ℕ → Bool → Judged
lamp_set log p target ramp more = first
    ((not (in_lighting p log) ⇒ error 23 1 p)
    ∷ (more ⇒ no 17)
    ∷ []) (reply (lamp_line log p (turned (lamp_of p log) target ramp (now log))) (setting p (lit target ramp) ∷ []))

abbrev pub lamp_told : List Deed → ℕ → Bool → Judged
lamp_told log p more = first ((not (in_lighting p log) ⇒ error 23 1 p) ∷ (more ⇒ no 17) ∷ []) (reply (lamp_line log p (lamp_of p log)) [])

abbrev pub starts : ℕ → ℕ → Fields → List Pair → Judged
starts connection p f ps = does (taken []) (event (started p connection f ps) ∷ [])

-- a command to a connector that may transmit
abbrev pub sent : List Deed → ℕ → ℕ → Fields → List Pair → Judged
sent log connection p f ps = first
    ((not (is_some (on_air p log)) ⇒ starts connection p f ps)
    ∷ (not (is_owner connection (owner_of p log)) ⇒ reply (text.line "busyIR," 1 p (decimal f.id)) [])
    ∷ (holds (is_same f ps) (on_air p log) ⇒ does (taken []) (event (renewed p) ∷ []))
    ∷ []) (starts connection p f ps)

abbrev pub commanded : List Deed → ℕ → ℕ → Fields → List Pair → Judged
commanded log connection p f ps = first ((silent p log ⇒ error 13 1 p) ∷ []) (sent log connection p f ps)

-- whom else a stopir is told: "the owner of a halted transmission, if another connection"
abbrev pub told_of : List Deed → ℕ → ℕ → Option ℕ
told_of log connection p = cond (is_some (on_air p log) && not (is_owner connection (owner_of p log))) (owner_of p log) none

abbrev pub stopped : List Deed → ℕ → ℕ → Judged
stopped log connection p = first
    ((silent p log ⇒ error 13 1 p)
    ∷ []) (does (replied (addressed "stopir," 1 p ++ bytes "\r") (told_of log connection p)) (event (halted p) ∷ []))
