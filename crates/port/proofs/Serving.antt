-- Over the frames of any inputs, however their bytes are cut, the port writes what the inputs are answered, one by one.
use Prim.Native.Nat.{ℕ, zero, suc, ◌+◌, ◌-◌, ◌*◌, ◌/◌, ◌%◌, ◌^◌, ◌≤◌, ◌<◌}
use mathlib.Core.Path.{◌≡◌, refl, sym, ap, subst, ◌∙◌}
use mathlib.Core.List.{List, [], ◌∷◌, ◌++◌, flatten}
use native.Mathlib.Nat.{zero-add}
use native.Mathlib.Omega.{arith}
use lib.ListN.{length, drop, length-drop}
use lib.Seq.{take-length, get_or-drop}
use borrow.Author.Tests.{le-ltb}
use Rattle.std.specs.Prelude.{Option, Some, None}
use Rattle.laws.proofs.Choice.{by_test}
use Rattle.pace.specs.Pace.{micros}
use Rattle.server.specs.declared.Server.{Server}
use Rattle.server.specs.Record.{all_buffers}
use Rattle.server.specs.Piece.{piece_step}
use Rattle.frames.specs.declared.Event.{Event}
use Rattle.frames.specs.declared.Event.TheVariants as event
use Rattle.frames.specs.declared.Frame.{Frame}
use Rattle.frames.specs.declared.Frame.TheVariants as frame
use Rattle.frames.specs.Layout.{letter, two_bytes, four_bytes, number_of, Input, piece, closed, reading, wait, carriers, levels, due}
use Rattle.frames.specs.Layout.{encoded, Sayable, encoded_all, SayableAll}
use Rattle.frames.specs.Read.{more, piece_of, head_step, next_step, goes_on, read_of}
use Rattle.frames.specs.Read as read
use Rattle.frames.proofs.Keeps.{piece_sound}
use Rattle.port.specs.Event.{event_of}
use Rattle.port.specs.Turn.{fresh_state, state_of, Whole, whole, Turn, leaving, after, served, piece_turn, turn_of}
use Rattle.port.specs.Bytes.{Written, writes, onward, written, OverBlocks}
use Rattle.port.specs.Serve.{between, piece_written, input_written, inputs_written}
use Rattle.port.proofs.Turning.{turn_keeps}
use Rattle.port.proofs.Cutting.{Held, Bytes, AllBytes, turn_held, piece_on, turn_written, written_append, turn_at, fresh_held, bytes_alone}

-- ---- a turn over the bytes of a head

-- what is read of it, and the event answered
head_turn : (s : Server) (store buffers : List ℕ) (bytes : List ℕ) (f : Frame) (e : Option Event) (n : ℕ)
    → read_of frame.Between bytes ≡ record { frame = f; event = e; used = n }
    → turn_of (between s store buffers) bytes
    ≡ leaving (between s store buffers) (record { state = state_of (event_of s store e).server f; used = n; text = (event_of s store e).text })
unfolding turn_of
head_turn s store buffers bytes f e n r = rw r

-- a run of bytes that is read whole
head_written : (s : Server) (store buffers : List ℕ) (b : ℕ) (rest : List ℕ) (f : Frame) (e : Option Event) → Held (between s store buffers) → Bytes (b ∷ rest)
    → read_of frame.Between (b ∷ rest) ≡ record { frame = f; event = e; used = length (b ∷ rest) }
    → written (b ∷ rest) (between s store buffers) ≡ writes (event_of s store e).text (whole (state_of (event_of s store e).server f) store buffers)
head_written s store buffers b rest f e h bytes r =
    let w = between s store buffers in
    let turn = head_turn s store buffers (b ∷ rest) f e (length (b ∷ rest)) r in
    rw (turn, take-length rest) at (turn_written rest w b h bytes)

-- ---- a piece's head
piece_none : (connection : ℕ) → piece_of connection 0 ≡ frame.Between
unfolding piece_of
piece_none connection = refl

piece_head : (connection length : ℕ) → connection ≤ 7 → head_step (letter "b") connection length ≡ more (piece_of connection length)
unfolding head_step read.piece_step
piece_head connection length c = rw (le-ltb 7 connection c)

-- the last byte of it
last_read : (kind connection high low : ℕ) (f : Frame) → head_step kind connection (high * 256 + low) ≡ more f
    → read_of (frame.High kind connection high) (low ∷ []) ≡ record { frame = f; event = None; used = 1 }
unfolding next_step
last_read kind connection high low f e = rw e (by_test (goes_on (more f)) (λ t. rw t) (λ t. rw t))

piece_read : (connection : ℕ) (s : List ℕ) → connection ≤ 7 → length s ≤ 65535
    → read_of frame.Between (letter "b" ∷ connection ∷ two_bytes (length s))
    ≡ record { frame = piece_of connection (length s); event = None; used = 4 }
unfolding next_step
piece_read connection s c most =
    let e : length s / 256 % 256 * 256 + length s % 256 ≡ length s = omega arith in
    let head : head_step (letter "b") connection (length s / 256 % 256 * 256 + length s % 256) ≡ more (piece_of connection (length s)) =
    rw e (piece_head connection (length s) c) in
    rw (last_read (letter "b") connection (length s / 256 % 256) (length s % 256) (piece_of connection (length s)) head)

-- ---- a piece's bytes
abbrev inside : Server → ℕ → List ℕ → List ℕ → List ℕ → Whole
inside s connection rest store buffers = whole (state_of s (piece_of connection (length rest))) store buffers

piece_turn_law : (s : Server) (connection b : ℕ) (rest store buffers : List ℕ)
    → turn_of (inside s connection (b ∷ rest) store buffers) (b ∷ rest)
    ≡ served connection (suc (length rest)) (piece_step s store buffers connection (b ∷ rest) 128)
unfolding turn_of piece_turn
piece_turn_law s connection b rest store buffers = rw (piece_on connection (length rest), take-length rest)

pieces_written : (calls : ℕ) (bytes : List ℕ) (s : Server) (connection : ℕ) (store buffers : List ℕ) → length bytes ≤ calls
    → Held (inside s connection bytes store buffers) → Bytes bytes
    → written bytes (inside s connection bytes store buffers) ≡ piece_written connection calls bytes (between s store buffers)
pieces_written zero [] s connection store buffers few h each = rw piece_none
pieces_written zero (b ∷ rest) s connection store buffers few h each = absurd (omega arith)
pieces_written (suc calls) [] s connection store buffers few h each = rw piece_none
pieces_written (suc calls) (b ∷ rest) s connection store buffers few h each =
    let w = inside s connection (b ∷ rest) store buffers in
    let x = piece_step s store buffers connection (b ∷ rest) 128 in
    let turn = piece_turn_law s connection b rest store buffers in
    let keeps = turn_keeps w (b ∷ rest) h.sound h.long each in
    let used : x.served.used ≡ (turn_of w (b ∷ rest)).move.used = ap (λ (t : Turn). t.move.used) (sym turn) in
    let left : suc (length rest) - x.served.used ≡ length (drop x.served.used (b ∷ rest)) = sym (length-drop x.served.used (b ∷ rest)) in
    let short : length (drop x.served.used (b ∷ rest)) ≤ calls = omega (arith, used, left, keeps.some (omega arith)) in
    let behind : Held (inside x.served.server connection (drop x.served.used (b ∷ rest)) x.store x.buffers) =
    rw (turn, left) at (turn_held w (b ∷ rest) h each) in
    let later = pieces_written calls (drop x.served.used (b ∷ rest)) x.served.server connection x.store x.buffers short behind
    (λ k. rw get_or-drop (each (x.served.used + k))) in
    turn_at (b ∷ rest) 0 w h each (omega arith) ∙ rw (turn, zero-add, left, later)

piece_written_law : (connection : ℕ) (s : List ℕ) (server : Server) (store buffers : List ℕ) → connection ≤ 7 → length s ≤ 65535
    → Held (between server store buffers) → Bytes (encoded (piece connection s))
    → written (encoded (piece connection s)) (between server store buffers) ≡ piece_written connection (length s) s (between server store buffers)
unfolding encoded event_of
piece_written_law connection s server store buffers c most h each =
    let head = head_written server store buffers (letter "b") (connection ∷ two_bytes (length s)) (piece_of connection (length s)) None h
    (front_bytes connection s each) (piece_read connection s c most) in
    let held : Held (inside server connection s store buffers) =
    record { sound = record { server = h.sound.server; frame = piece_sound connection (length s) c }; long = h.long; many = h.many } in
    written_append (letter "b" ∷ connection ∷ two_bytes (length s)) s (between server store buffers)
    ∙ ap (λ (x : Written). onward x (written s)) head
    ∙ pieces_written (length s) s server connection store buffers (omega arith) held (λ k. each (suc (suc (suc (suc k)))))
  where
    front_bytes : (connection : ℕ) (s : List ℕ) → Bytes (letter "b" ∷ connection ∷ two_bytes (length s) ++ s) → Bytes (letter "b" ∷ connection ∷ two_bytes (length s))
    front_bytes connection s each zero = each 0
    front_bytes connection s each (suc zero) = each 1
    front_bytes connection s each (suc (suc zero)) = each 2
    front_bytes connection s each (suc (suc (suc zero))) = each 3
    front_bytes connection s each (suc (suc (suc (suc k)))) = omega arith

-- ---- any input
four_read : (n : ℕ) → n < 256 ^ 4 → number_of (four_bytes n) ≡ n
four_read n small = omega arith

input_written_law : (i : Input) (s : Server) (store buffers : List ℕ) → Sayable i → Held (between s store buffers) → Bytes (encoded i)
    → written (encoded i) (between s store buffers) ≡ input_written i (between s store buffers)
unfolding encoded next_step head_step read.whole read.wait_step
input_written_law (piece connection bytes) s store buffers k h each = piece_written_law connection bytes s store buffers k.0 k.1 h each
input_written_law (closed connection) s store buffers k h each = head_written s store buffers (letter "x") (connection ∷ 0 ∷ 0 ∷ []) frame.Between (Some (event.Closed connection)) h each refl
input_written_law (reading port value) s store buffers k h each = head_written s store buffers (letter "r") (port ∷ 0 ∷ 1 ∷ value ∷ []) frame.Between (Some (event.Reading port value)) h each refl
input_written_law (wait any n) s store buffers k h each =
    head_written s store buffers (letter "w") (any ∷ 0 ∷ 4 ∷ four_bytes n) frame.Between (Some (event.Wait any (micros n))) h each
    (ap (λ m. record { frame = frame.Between; event = Some (event.Wait any (micros m)); used = 8 }) (four_read n k))
input_written_law (carriers any) s store buffers k h each = head_written s store buffers (letter "c") (any ∷ 0 ∷ 0 ∷ []) frame.Between (Some event.Carriers) h each refl
input_written_law (levels any) s store buffers k h each = head_written s store buffers (letter "l") (any ∷ 0 ∷ 0 ∷ []) frame.Between (Some event.Levels) h each refl
input_written_law (due any) s store buffers k h each = head_written s store buffers (letter "d") (any ∷ 0 ∷ 0 ∷ []) frame.Between (Some event.Due) h each refl

-- what an input leaves is between two frames again
pieces_left : (connection calls : ℕ) (bytes : List ℕ) (w : Whole) → w.state.frame ≡ frame.Between
    → (piece_written connection calls bytes w).left.state.frame ≡ frame.Between
pieces_left connection zero bytes w b = b
pieces_left connection (suc calls) [] w b = b
pieces_left connection (suc calls) (a ∷ bytes) w b =
    let x = piece_step w.state.server w.store w.buffers connection (a ∷ bytes) 128 in
    pieces_left connection calls (drop x.served.used (a ∷ bytes)) (between x.served.server x.store x.buffers) refl

input_left : (i : Input) (w : Whole) → w.state.frame ≡ frame.Between → (input_written i w).left.state.frame ≡ frame.Between
input_left (piece connection bytes) w b = pieces_left connection (length bytes) bytes w b
input_left (closed connection) w b = refl
input_left (reading port value) w b = refl
input_left (wait any n) w b = refl
input_left (carriers any) w b = refl
input_left (levels any) w b = refl
input_left (due any) w b = refl

-- ---- inputs one after the other

bytes_front : (s t : List ℕ) → Bytes (s ++ t) → Bytes s
bytes_front [] t each k = omega arith
bytes_front (b ∷ s) t each zero = each 0
bytes_front (b ∷ s) t each (suc k) = bytes_front s t (λ i. each (suc i)) k

bytes_back : (s t : List ℕ) → Bytes (s ++ t) → Bytes t
bytes_back [] t each = each
bytes_back (b ∷ s) t each = bytes_back s t (λ i. each (suc i))

bytes_both : (s t : List ℕ) → Bytes s → Bytes t → Bytes (s ++ t)
bytes_both [] t first second k = second k
bytes_both (b ∷ s) t first second zero = first 0
bytes_both (b ∷ s) t first second (suc k) = bytes_both s t (λ i. first (suc i)) second k

blocks_bytes : (blocks : List (List ℕ)) → AllBytes blocks → Bytes (flatten blocks)
unfolding flatten
blocks_bytes [] each k = omega arith
blocks_bytes (block ∷ blocks) each k = bytes_both block (flatten blocks) each.0 (blocks_bytes blocks each.1) k

written_held : (s : List ℕ) (w : Whole) → Held w → Bytes s → Held (written s w).left
written_held [] w h each = h
written_held (b ∷ s) w h each =
    written_held s (after (turn_of w (b ∷ []))) (turn_held w (b ∷ []) h (bytes_front (b ∷ []) s each)) (λ k. each (suc k))

inputs_written_law : (l : List Input) (s : Server) (store buffers : List ℕ) → SayableAll l → Held (between s store buffers) → Bytes (encoded_all l)
    → written (encoded_all l) (between s store buffers) ≡ inputs_written l (between s store buffers)
inputs_written_law [] s store buffers k h each = refl
inputs_written_law (i ∷ l) s store buffers k h each =
    let w = between s store buffers in
    let here = input_written_law i s store buffers k.0 h (bytes_front (encoded i) (encoded_all l) each) in
    let v = (input_written i w).left in
    let whole_again : v ≡ between v.state.server v.store v.buffers =
    λ j. whole (state_of v.state.server (input_left i w refl j)) v.store v.buffers in
    let held : Held v = subst (λ (x : Written). Held x.left) here (written_held (encoded i) w h (bytes_front (encoded i) (encoded_all l) each)) in
    let later = inputs_written_law l v.state.server v.store v.buffers k.1 (subst Held whole_again held) (bytes_back (encoded i) (encoded_all l) each) in
    let rest : written (encoded_all l) v ≡ inputs_written l v =
    ap (written (encoded_all l)) whole_again ∙ later ∙ ap (inputs_written l) (sym whole_again) in
    written_append (encoded i) (encoded_all l) w
    ∙ ap (λ (x : Written). onward x (written (encoded_all l))) here
    ∙ ap (onward' (input_written i w).text) rest
  where
    onward' : List ℕ → Written → Written
    onward' text x = writes (text ++ x.text) x.left

-- ---- the theorem: from a fresh server, with any content of the lent memory
pub port_serves : (l : List Input) → SayableAll l → {blocks : List (List ℕ)} {text : List ℕ} {v : Whole} (store buffers : List ℕ)
    → length buffers ≡ all_buffers → AllBytes blocks → flatten blocks ≡ encoded_all l
    → OverBlocks blocks (whole fresh_state store buffers) text v
    → inputs_written l (whole fresh_state store buffers) ≡ writes text v
port_serves l k {blocks} store buffers long each same over =
    let w = whole fresh_state store buffers in
    sym (inputs_written_law l fresh_state.server store buffers k (fresh_held store buffers long) (subst Bytes same (blocks_bytes blocks each)))
    ∙ ap (λ (s : List ℕ). written s w) (sym same)
    ∙ bytes_alone store buffers long each over
