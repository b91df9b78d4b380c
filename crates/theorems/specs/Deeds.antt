-- What a call may have done, and what held when it was done.
use Rattle.std.specs.Prelude.{ℕ, ◌*◌, ◌%◌, ◌≤◌, ◌<◌, ◌≡◌, Bool, true, false, ◌&&◌, ◌||◌, List, [], ◌∷◌, ◌⊎◌, leb, length}
use Rattle.std.proofs.Math.Option.{none, some}
use Rattle.laws.specs.Bytes.{bytes}
use Rattle.laws.specs.Checks.{between}
use Rattle.laws.specs.Lists.{all}
use Rattle.words.specs.declared.Pair.{Pair}
use Rattle.words.specs.declared.Fields.{Fields}
use Rattle.words.specs.Places.{connectors, relays}
use Rattle.meaning.specs.Line.{is}
use Rattle.meaning.specs.Time.{Transmission}
use Rattle.meaning.specs.Log.{Deed, passed, setting, switched, event, changed, felt, lit, started, renewed, halted, left, mode_of, owner_of, on_air}
use Rattle.meaning.specs.Table.{Call, line, reading, closing, waiting}

-- one of so many ports: "connectors 1 to 3", "relays 1 to 3"
pub record Port (count p : ℕ) : Type 0 where
  pub least : 1 ≤ p
  pub most : p ≤ count

-- "modes IR, SENSOR, IR_BLASTER", the last on connector 3 alone; by request 3 of document 02 LED_LIGHTING, "on any connector"
pub data ModeWord (p : ℕ) (word : List ℕ) : Type 0 where
  ir : word ≡ bytes "IR" → ModeWord p word
  sensor : word ≡ bytes "SENSOR" → ModeWord p word
  blaster : word ≡ bytes "IR_BLASTER" → p ≡ 3 → ModeWord p word
  lighting : word ≡ bytes "LED_LIGHTING" → ModeWord p word

-- "Each count is 4 to 50000 and lasts at least 80 µs: 12,500 × count is at least freq."
abbrev pub count_fits : ℕ → ℕ → Bool
count_fits freq n = between 4 50000 n && leb freq (12500 * n)

abbrev pub pair_fits : ℕ → Pair → Bool
pair_fits freq x = count_fits freq x.on && count_fits freq x.off

-- "id 0 to 65535; freq 15000 to 500000 Hz; repeat 1 to 999999, and above 20 is taken as 20; offset odd, 1 to 383";
-- "1 to 260 pairs"; "The offset is at most twice the number of pairs, less one"
pub record Limits (f : Fields) (ps : List Pair) : Type 0 where
  pub id_most : f.id ≤ 65535
  pub freq_least : 15000 ≤ f.freq
  pub freq_most : f.freq ≤ 500000
  pub repeat_least : 1 ≤ f.repeat
  pub repeat_most : f.repeat ≤ 20
  pub offset_least : 1 ≤ f.offset
  pub offset_most : f.offset ≤ 383
  pub offset_odd : f.offset % 2 ≡ 1
  pub offset_within_law : f.offset < 2 * length ps
  pub pairs_most : length ps ≤ 260
  pub pairs_fit : all (pair_fits f.freq) ps ≡ true

abbrev pub in_sensor : ℕ → List Deed → Bool
in_sensor p log = is "SENSOR" (mode_of p log)

abbrev pub in_lighting : ℕ → List Deed → Bool
in_lighting p log = is "LED_LIGHTING" (mode_of p log)

-- a connector that sends no infrared: 013 "sendir or stopir to a connector in SENSOR", and by request 3 to one in LED_LIGHTING
abbrev pub silent : ℕ → List Deed → Bool
silent p log = in_sensor p log || in_lighting p log

-- a call is a line of this connection, one of 0 to 7
pub record LineOf (connection : ℕ) (call : Call) : Type 0 where
  pub room : ℕ
  pub text : List ℕ
  pub is : call ≡ line connection room text
  pub most : connection ≤ 7

-- the deeds of a call over a log: none, or one of the following
pub data Did (log : List Deed) (call : Call) : List Deed → Type 0 where
  nothing : Did log call []
  -- a line gave connector p another mode, while it transmitted nothing
  changes : (p connection : ℕ) (word : List ℕ) → LineOf connection call → Port connectors p → ModeWord p word → (mode_of p log ≡ word → ⊥)
      → on_air p log ≡ none → Did log call (setting p (changed word) ∷ [])
  -- contact p was read 0 or 1 in SENSOR
  reads : (p value : ℕ) → call ≡ reading p value → Port connectors p → in_sensor p log ≡ true → value ≤ 1 → Did log call (setting p (felt value) ∷ [])
  -- a line gave the lamp of connector p, in LED_LIGHTING, "a target of 1 to 100 and a ramp of 0 to 10"
  lights : (p connection target ramp : ℕ) → LineOf connection call → Port connectors p → in_lighting p log ≡ true → 1 ≤ target → target ≤ 100
      → ramp ≤ 10 → Did log call (setting p (lit target ramp) ∷ [])
  -- a line switched relay p to 0 or 1
  switches : (p connection state : ℕ) → LineOf connection call → Port relays p → state ≤ 1 → Did log call (switched p state ∷ [])
  -- a line of this connection started a command within the limits on connector p, which is not silent, where nothing was on air or
  -- the connection itself owned it
  starts : (p connection : ℕ) (f : Fields) (ps : List Pair) → LineOf connection call → Port connectors p → silent p log ≡ false → Limits f ps
      → (on_air p log ≡ none) ⊎ (owner_of p log ≡ some connection) → Did log call (event (started p connection f ps) ∷ [])
  -- a line of its owner renewed what connector p transmits
  renews : (p connection : ℕ) (s : Transmission) → LineOf connection call → Port connectors p → silent p log ≡ false → on_air p log ≡ some s
      → owner_of p log ≡ some connection → Did log call (event (renewed p) ∷ [])
  -- a line halted connector p, which is not silent
  halts : (p connection : ℕ) → LineOf connection call → Port connectors p → silent p log ≡ false → Did log call (event (halted p) ∷ [])
  -- a connection was closed; a time passed
  leaves : (connection : ℕ) → call ≡ closing connection → connection ≤ 7 → Did log call (event (left connection) ∷ [])
  passes : (n : ℕ) → call ≡ waiting n → n ≤ 1000000000 → Did log call (passed n ∷ [])
