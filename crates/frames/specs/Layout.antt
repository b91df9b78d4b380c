-- What a frame is, apart from how one is taken apart: docs/PORT-OTHER.md.
use Rattle.std.specs.Prelude.{ℕ, ◌+◌, ◌*◌, ◌/◌, ◌%◌, ◌^◌, ◌≤◌, ◌<◌, ◌&&◌, List, [], ◌∷◌, ◌++◌, map, eqb, leb, length, get_or}
use Prim.Native.String.{String}
use Rattle.laws.specs.Bytes.{bytes}
use Rattle.laws.specs.Checks.{◌⇒◌, first}
use Rattle.pace.specs.Pace.{micros}
use Rattle.frames.specs.declared.Event.{Event}
use Rattle.frames.specs.declared.Event.TheVariants.{Closed, Reading, Wait, Carriers, Levels, Due, Refused}

-- ---- "Every number of several bytes has its high byte first."
abbrev pub low_byte : ℕ → ℕ
low_byte n = n % 256

abbrev pub two_bytes : ℕ → List ℕ
two_bytes n = low_byte (n / 256) ∷ low_byte n ∷ []

abbrev pub four_bytes : ℕ → List ℕ
four_bytes n = two_bytes (n / 65536) ++ two_bytes n

-- the number that bytes make behind one that there is, and by themselves
abbrev pub number_behind : ℕ → List ℕ → ℕ
number_behind n [] = n
number_behind n (b ∷ s) = number_behind (n * 256 + b) s

abbrev pub number_of : List ℕ → ℕ
number_of s = number_behind 0 s

-- ---- a frame: "kind, a letter or a sign of ASCII", "connection", "length of what follows", "that many bytes"
abbrev pub letter : String → ℕ
letter s = get_or (bytes s) 0 0

abbrev pub frame_of : ℕ → ℕ → List ℕ → List ℕ
frame_of kind connection s = kind ∷ connection ∷ two_bytes (length s) ++ s

-- ---- what goes in

-- what a frame says: a byte of a connection's stream, or an event
pub data Said : Type 0 where
  stream : ℕ → ℕ → Said
  event : Event → Said

abbrev pub refused : ℕ → ℕ → List Said
refused connection number = event (Refused connection number) ∷ []

-- any frame, by its kind, and then "A frame of another form (another kind, or another number of bytes than its kind has) gets the error frame with
-- number 0"
unfoldable pub said_by : ℕ → ℕ → List ℕ → List Said
said_by kind connection s = first
    (((eqb kind (letter "b") && leb connection 7) ⇒ map (stream connection) s)
    ∷ (eqb kind (letter "b") ⇒ refused connection 102)
    ∷ ((eqb kind (letter "x") && eqb (length s) 0) ⇒ event (Closed connection) ∷ [])
    ∷ ((eqb kind (letter "r") && eqb (length s) 1) ⇒ event (Reading connection (number_of s)) ∷ [])
    ∷ ((eqb kind (letter "w") && eqb (length s) 4) ⇒ event (Wait connection (micros (number_of s))) ∷ [])
    ∷ ((eqb kind (letter "c") && eqb (length s) 0) ⇒ event Carriers ∷ [])
    ∷ ((eqb kind (letter "l") && eqb (length s) 0) ⇒ event Levels ∷ [])
    ∷ ((eqb kind (letter "d") && eqb (length s) 0) ⇒ event Due ∷ [])
    ∷ []) (refused connection 0)

-- ---- the other way: what a socket has to say, and the frame that says it. Where the connection is not looked at, it is any.
pub data Input : Type 0 where
  piece : ℕ → List ℕ → Input
  closed : ℕ → Input
  reading : ℕ → ℕ → Input
  wait : ℕ → ℕ → Input
  carriers : ℕ → Input
  levels : ℕ → Input
  due : ℕ → Input

unfoldable pub encoded : Input → List ℕ
encoded (piece connection s) = frame_of (letter "b") connection s
encoded (closed connection) = frame_of (letter "x") connection []
encoded (reading port value) = frame_of (letter "r") port (value ∷ [])
encoded (wait any n) = frame_of (letter "w") any (four_bytes n)
encoded (carriers any) = frame_of (letter "c") any []
encoded (levels any) = frame_of (letter "l") any []
encoded (due any) = frame_of (letter "d") any []

-- what it says, where it can be said: a piece is one of the eight connections', and its bytes and a wait's microseconds are within what a
-- frame can count
unfoldable pub meant : Input → List Said
meant (piece connection s) = map (stream connection) s
meant (closed connection) = event (Closed connection) ∷ []
meant (reading port value) = event (Reading port value) ∷ []
meant (wait any n) = event (Wait any (micros n)) ∷ []
meant (carriers any) = event Carriers ∷ []
meant (levels any) = event Levels ∷ []
meant (due any) = event Due ∷ []

abbrev pub Sayable : Input → Type 0
Sayable (piece connection s) = (connection ≤ 7) × (length s ≤ 65535)
Sayable (closed connection) = Unit
Sayable (reading port value) = Unit
Sayable (wait any n) = n < 256 ^ 4
Sayable (carriers any) = Unit
Sayable (levels any) = Unit
Sayable (due any) = Unit

-- inputs one after the other
abbrev pub encoded_all : List Input → List ℕ
encoded_all [] = []
encoded_all (i ∷ l) = encoded i ++ encoded_all l

abbrev pub meant_all : List Input → List Said
meant_all [] = []
meant_all (i ∷ l) = meant i ++ meant_all l

abbrev pub SayableAll : List Input → Type 0
SayableAll [] = Unit
SayableAll (i ∷ l) = Sayable i × SayableAll l
