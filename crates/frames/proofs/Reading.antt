-- The bytes of any frame, fed one by one from between two frames, say exactly what the frame says, and the next frame is read behind them. So the
-- frames of any inputs say these inputs.
use Prim.Native.Nat.{ℕ, suc, ◌+◌, ◌-◌, ◌*◌, ◌/◌, ◌%◌, ◌^◌, ◌≤◌, ◌<◌}
use mathlib.Core.Path.{◌≡◌, refl, ap, ◌∙◌}
use mathlib.Core.Bool.{true, cond}
use mathlib.Core.List.{List, [], ◌∷◌, ◌++◌, map, append-nil, append_assoc}
use native.Mathlib.Omega.{arith}
use lib.Dec.{eqb, leb, ltb}
use lib.ListN.{length, drop, get_or}
use borrow.Author.Tests.{eqb-true, ltb-true, ltb-false, ne_eqb, lt-leb, le-leb}
use Rattle.laws.proofs.Choice.{by_test}
use Rattle.laws.proofs.Lists.{drop_next}
use Rattle.pace.specs.Pace.{micros}
use Rattle.frames.specs.declared.Frame.{Frame}
use Rattle.frames.specs.declared.Frame.TheVariants as frame
use Rattle.frames.specs.declared.Event.{Event}
use Rattle.frames.specs.declared.Event.TheVariants as event
use Rattle.frames.specs.declared.Step.{Step}
use Rattle.frames.specs.Layout.{letter, four_bytes, number_of, frame_of, Said, stream, event as says, refused, said_by}
use Rattle.frames.specs.Layout.{Input, piece, closed, reading, wait, carriers, levels, due, encoded, meant, Sayable, encoded_all, meant_all, SayableAll}
use Rattle.frames.specs.Read.{piece_of, passing, more, gives, other, whole, piece_step, wait_step, head_step, next_step}
use Rattle.frames.specs.Read.{SoundFrame, goes_on, counting, read_of}
use Rattle.frames.proofs.Keeps.{next_sound}
use Rattle.frames.specs.Feed.{told, Heard, heard}

-- so much was said, and the frame is at its end
abbrev ended : List Said → Heard
ended l = record { says = l; frame = frame.Between }

-- what a frame's head says, and then its bytes
abbrev behind_head : Step → List ℕ → Heard
behind_head step s =
    let rest = heard step.frame s in
    record { says = told step.event ++ rest.says; frame = rest.frame }

-- ---- the bytes of each kind of frame

less_one : (n : ℕ) → suc n - 1 ≡ n
less_one n = omega arith

passing_none : passing 0 ≡ frame.Between
unfolding passing
passing_none = refl

piece_none : (connection : ℕ) → piece_of connection 0 ≡ frame.Between
unfolding piece_of
piece_none connection = refl

passing_more : (n : ℕ) → passing (suc n) ≡ frame.Over (suc n)
unfolding passing
passing_more n = rw (ne_eqb (suc n) 0 (λ e. omega arith))

piece_more : (connection n : ℕ) → piece_of connection (suc n) ≡ frame.Piece connection (suc n)
unfolding piece_of
piece_more connection n = rw (ne_eqb (suc n) 0 (λ e. omega arith))

passing_read : (s : List ℕ) → heard (passing (length s)) s ≡ ended []
unfolding next_step
passing_read [] = rw passing_none
passing_read (b ∷ s) = rw (passing_more (length s), less_one (length s)) (passing_read s)

piece_read : (connection : ℕ) (s : List ℕ) → heard (piece_of connection (length s)) s ≡ ended (map (stream connection) s)
unfolding next_step
piece_read connection [] = rw piece_none
piece_read connection (b ∷ s) = rw (piece_more connection (length s), less_one (length s), piece_read connection s)

other_read : (connection number : ℕ) (s : List ℕ) → behind_head (other connection number (length s)) s ≡ ended (refused connection number)
other_read connection number s = rw (passing_read s)

reading_read : (port : ℕ) (s : List ℕ) → length s ≡ 1 → behind_head (more (frame.Reading port)) s ≡ ended (says (event.Reading port (number_of s)) ∷ [])
unfolding next_step
reading_read port [] h = absurd (omega arith)
reading_read port (a ∷ []) h =
    let e : a ≡ number_of (a ∷ []) = omega arith in
    ap (λ n. ended (says (event.Reading port n) ∷ [])) e
reading_read port (a ∷ b ∷ s) h = absurd (omega arith)

wait_read : (connection : ℕ) (s : List ℕ) → length s ≡ 4
    → behind_head (wait_step connection 0 0) s ≡ ended (says (event.Wait connection (micros (number_of s))) ∷ [])
unfolding next_step wait_step
wait_read connection [] h = absurd (omega arith)
wait_read connection (a ∷ []) h = absurd (omega arith)
wait_read connection (a ∷ b ∷ []) h = absurd (omega arith)
wait_read connection (a ∷ b ∷ d ∷ []) h = absurd (omega arith)
wait_read connection (a ∷ b ∷ d ∷ e ∷ []) h = refl
wait_read connection (a ∷ b ∷ d ∷ e ∷ g ∷ s) h = absurd (omega arith)

gives_read : (e : Event) (s : List ℕ) → length s ≡ 0 → behind_head (gives e) s ≡ ended (says e ∷ [])
gives_read e [] h = rw append-nil
gives_read e (b ∷ s) h = absurd (omega arith)

-- a frame whose kind has so many bytes
whole_read : (step : Step) (size connection : ℕ) (s : List ℕ) (l : List Said) → (length s ≡ size → behind_head step s ≡ ended l)
    → behind_head (whole step size connection (length s)) s ≡ ended (cond (eqb (length s) size) l (refused connection 0))
unfolding whole
whole_read step size connection s l h =
    by_test (eqb (length s) size) (λ t. rw t (h (eqb-true _ _ t))) (λ f. rw f (other_read connection 0 s))

-- ---- any frame

piece_head_read : (connection : ℕ) (s : List ℕ)
    → behind_head (piece_step connection (length s)) s ≡ ended (cond (leb connection 7) (map (stream connection) s) (refused connection 102))
unfolding piece_step
piece_head_read connection s =
    by_test (ltb 7 connection)
    (λ t. rw (t, lt-leb connection 7 (ltb-true _ _ t)) (other_read connection 102 s))
    (λ f. rw (f, le-leb connection 7 (ltb-false _ _ f)) (piece_read connection s))

head_read : (kind connection : ℕ) (s : List ℕ) → behind_head (head_step kind connection (length s)) s ≡ ended (said_by kind connection s)
unfolding head_step said_by
head_read kind connection s =
    by_test (eqb kind (letter "b")) (λ t. rw (eqb-true kind 98 t) (piece_head_read connection s)) λ b.
    by_test (eqb kind (letter "x")) (λ t. rw (eqb-true kind 120 t) (whole_read _ 0 connection s _ (gives_read (event.Closed connection) s))) λ x.
    by_test (eqb kind (letter "r")) (λ t. rw (eqb-true kind 114 t) (whole_read _ 1 connection s _ (reading_read connection s))) λ r.
    by_test (eqb kind (letter "w")) (λ t. rw (eqb-true kind 119 t) (whole_read _ 4 connection s _ (wait_read connection s))) λ w.
    by_test (eqb kind (letter "c")) (λ t. rw (eqb-true kind 99 t) (whole_read _ 0 connection s _ (gives_read event.Carriers s))) λ c.
    by_test (eqb kind (letter "l")) (λ t. rw (eqb-true kind 108 t) (whole_read _ 0 connection s _ (gives_read event.Levels s))) λ l.
    by_test (eqb kind (letter "d")) (λ t. rw (eqb-true kind 100 t) (whole_read _ 0 connection s _ (gives_read event.Due s))) λ d.
    rw (b, x, r, w, c, l, d) (other_read connection 0 s)

pub frame_read : (kind connection : ℕ) (s : List ℕ) → length s ≤ 65535
    → heard frame.Between (frame_of kind connection s) ≡ record { says = said_by kind connection s; frame = frame.Between }
unfolding next_step
frame_read kind connection s most =
    let e : length s / 256 % 256 * 256 + length s % 256 ≡ length s = omega arith in
    rw e (head_read kind connection s)

-- ---- the frames of inputs

four_read : (n : ℕ) → n < 256 ^ 4 → number_of (four_bytes n) ≡ n
four_read n small = omega arith

input_read : (i : Input) → Sayable i → heard frame.Between (encoded i) ≡ ended (meant i)
unfolding encoded meant said_by
input_read (piece connection s) h = frame_read (letter "b") connection s h.1 ∙ rw (le-leb connection 7 h.0)
input_read (closed connection) h = frame_read (letter "x") connection [] (omega arith)
input_read (reading port value) h =
    let e : number_of (value ∷ []) ≡ value = omega arith in
    frame_read (letter "r") port (value ∷ []) (omega arith) ∙ rw e
input_read (wait any n) h = frame_read (letter "w") any (four_bytes n) (omega arith) ∙ rw (four_read n h)
input_read (carriers any) h = frame_read (letter "c") any [] (omega arith)
input_read (levels any) h = frame_read (letter "l") any [] (omega arith)
input_read (due any) h = frame_read (letter "d") any [] (omega arith)

-- bytes behind others
pub heard_append : (f : Frame) (s t : List ℕ)
    → heard f (s ++ t) ≡ record { says = (heard f s).says ++ (heard (heard f s).frame t).says; frame = (heard (heard f s).frame t).frame }
heard_append f [] t = refl
heard_append f (b ∷ s) t = rw (heard_append (next_step f b).frame s t, append_assoc)

pub inputs_read : (l : List Input) → SayableAll l → heard frame.Between (encoded_all l) ≡ record { says = meant_all l; frame = frame.Between }
inputs_read [] h = refl
inputs_read (i ∷ l) h = heard_append frame.Between (encoded i) (encoded_all l) ∙ rw (input_read i h.0, inputs_read l h.1)

-- ---- a run of bytes until something is complete

-- the next byte
read_next : (f : Frame) (s : List ℕ) (i : ℕ) → i < length s
    → read_of f (drop i s) ≡ read_of f (get_or s i 0 ∷ drop (i + 1) s)
read_next f s i less = ap (read_of f) (drop_next s i 0 less)

-- so far: what is left gives the same
pub record Runs (begun : Frame) (s : List ℕ) (f : Frame) (i : ℕ) : Type 0 where
  pub sound : SoundFrame f
  pub within : i ≤ length s
  pub same : counting i (read_of f (drop i s)) ≡ read_of begun s

pub runs_on : {begun : Frame} {s : List ℕ} {f : Frame} {i : ℕ} → Runs begun s f i → {x : Step} → x ≡ next_step f (get_or s i 0) → i < length s
    → get_or s i 0 < 256 → goes_on x ≡ true → Runs begun s x.frame (i + 1)
runs_on {begun} {s} {f} {i} now is less byte on =
    let rest = read_of (next_step f (get_or s i 0)).frame (drop (i + 1) s) in
    let t : goes_on (next_step f (get_or s i 0)) ≡ true = rw is at on in
    let e : i + (1 + rest.used) ≡ i + 1 + rest.used = omega arith in
    record {
      sound = rw is (next_sound f (get_or s i 0) byte now.sound);
      within = omega arith;
      same = rw is (rw (read_next f s i less, t, e) at now.same);
    }
