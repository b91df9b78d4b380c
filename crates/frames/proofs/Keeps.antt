-- A frame in hand stays sound.
use Prim.Native.Nat.{ℕ, suc, ◌+◌, ◌*◌, ◌^◌, ◌≤◌, ◌<◌}
use mathlib.Core.List.{List, [], ◌∷◌}
use native.Mathlib.Nat.{pow-succ', pow-le-pow_right}
use native.Mathlib.Numerals.{add-one}
use native.Mathlib.Omega.{arith}
use lib.Dec.{eqb, ltb}
use lib.ListN.{length, get_or}
use borrow.Author.Tests.{eqb-false, ltb-false}
use Rattle.laws.proofs.Choice.{cond_case}
use Rattle.frames.specs.declared.Frame.{Frame}
use Rattle.frames.specs.declared.Frame.TheVariants as frame
use Rattle.frames.specs.declared.Step.{Step}
use Rattle.frames.specs.declared.Read.{Read}
use Rattle.frames.specs.Layout.{letter}
use Rattle.frames.specs.Read.{SoundFrame, piece_of, passing, whole, piece_step, wait_step, head_step, next_step}
use Rattle.frames.specs.Read.{goes_on, reading, counting, read_of}

-- the number of three bytes of a wait at most
pub wait_small : (come number : ℕ) → come ≤ 3 → number < 256 ^ come → number < 16777216
wait_small come number few small = omega (arith, pow-le-pow_right {n = 256} (omega arith) few)

pub between_sound : SoundFrame frame.Between
between_sound = tt

-- a piece of one of the eight connections, with any number of bytes to come
pub piece_sound : (connection left : ℕ) → connection ≤ 7 → SoundFrame (piece_of connection left)
unfolding piece_of
piece_sound connection left h =
    cond_case SoundFrame (eqb left 0) frame.Between (frame.Piece connection left) (λ _. tt)
    (λ f. (h, let ne = eqb-false left 0 f in omega arith))

pub passing_sound : (left : ℕ) → SoundFrame (passing left)
unfolding passing
passing_sound left =
    cond_case SoundFrame (eqb left 0) frame.Between (frame.Over left) (λ _. tt) (λ f. let ne = eqb-false left 0 f in omega arith)

abbrev SoundStep : Step → Type 0
SoundStep s = SoundFrame s.frame

whole_sound : (step : Step) (due connection length : ℕ) → SoundStep step → SoundStep (whole step due connection length)
unfolding whole
whole_sound step due connection length s =
    cond_case SoundStep (eqb length due) step _ (λ _. s) (λ _. passing_sound length)

piece_step_sound : (connection length : ℕ) → SoundStep (piece_step connection length)
unfolding piece_step
piece_step_sound connection length =
    cond_case SoundStep (ltb 7 connection) _ _ (λ _. passing_sound length)
    (λ f. piece_sound connection length (omega (arith, ltb-false 7 connection f)))

wait_step_sound : (connection come number : ℕ) → come ≤ 4 → number < 256 ^ come → SoundStep (wait_step connection come number)
unfolding wait_step
wait_step_sound connection come number few small =
    cond_case SoundStep (eqb come 4) _ _ (λ _. tt) (λ f. (let ne = eqb-false come 4 f in omega arith, small))

head_sound : (kind connection length : ℕ) → SoundStep (head_step kind connection length)
unfolding head_step
head_sound kind connection length =
    cond_case SoundStep (eqb kind (letter "b")) _ _ (λ _. piece_step_sound connection length) λ _.
    cond_case SoundStep (eqb kind (letter "x")) _ _ (λ _. whole_sound _ 0 connection length tt) λ _.
    cond_case SoundStep (eqb kind (letter "r")) _ _ (λ _. whole_sound _ 1 connection length tt) λ _.
    cond_case SoundStep (eqb kind (letter "w")) _ _ (λ _. whole_sound _ 4 connection length (wait_step_sound connection 0 0 (omega arith) (omega arith))) λ _.
    cond_case SoundStep (eqb kind (letter "c")) _ _ (λ _. whole_sound _ 0 connection length tt) λ _.
    cond_case SoundStep (eqb kind (letter "l")) _ _ (λ _. whole_sound _ 0 connection length tt) λ _.
    cond_case SoundStep (eqb kind (letter "d")) _ _ (λ _. whole_sound _ 0 connection length tt) λ _.
    passing_sound length

-- one byte more
pub next_sound : (f : Frame) (b : ℕ) → b < 256 → SoundFrame f → SoundStep (next_step f b)
unfolding next_step
next_sound frame.Between b h s = tt
next_sound (frame.Kind kind) b h s = tt
next_sound (frame.Connection kind connection) b h s = tt
next_sound (frame.High kind connection high) b h s = head_sound kind connection (high * 256 + b)
next_sound (frame.Piece connection left) b h s = piece_sound connection _ s.0
next_sound (frame.Reading port) b h s = tt
next_sound (frame.Wait connection come number) b h s =
    wait_step_sound connection (come + 1) (number * 256 + b) (omega (arith, s.0)) (rw (add-one, pow-succ') (omega (arith, s.1)))
next_sound (frame.Over left) b h s = passing_sound _

-- ---- a run of bytes of heads and numbers

read_case : (P : Read → Type 0) (f : Frame) (b : ℕ) (s : List ℕ) → P (counting 1 (read_of (next_step f b).frame s)) → P (reading (next_step f b) 1)
    → P (read_of f (b ∷ s))
read_case P f b s on stop = cond_case P (goes_on (next_step f b)) _ _ (λ _. on) (λ _. stop)

pub read_sound : (f : Frame) (s : List ℕ) → ((i : ℕ) → get_or s i 0 < 256) → SoundFrame f → SoundFrame (read_of f s).frame
read_sound f [] bytes k = k
read_sound f (b ∷ s) bytes k =
    let next = next_sound f b (bytes 0) k in
    read_case (λ (r : Read). SoundFrame r.frame) f b s (read_sound (next_step f b).frame s (λ i. bytes (suc i)) next) next

-- it uses no more than there is, and where there is something, something
pub read_within : (f : Frame) (s : List ℕ) → (read_of f s).used ≤ length s
read_within f [] = omega arith
read_within f (b ∷ s) =
    let rest = read_within (next_step f b).frame s in
    read_case (λ (r : Read). r.used ≤ suc (length s)) f b s (omega arith) (omega arith)

pub read_some : (f : Frame) (s : List ℕ) → 0 < length s → 0 < (read_of f s).used
read_some f [] h = absurd (omega arith)
read_some f (b ∷ s) h = read_case (λ (r : Read). 0 < r.used) f b s (omega arith) (omega arith)
