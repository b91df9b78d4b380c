-- However the bytes are cut into blocks, and whatever room each run has, the frames that are written are those of the bytes one by one.
use Prim.Native.Nat.{ℕ, zero, suc, ◌+◌, ◌-◌, ◌≤◌, ◌<◌}
use mathlib.Core.Path.{◌≡◌, refl, sym, ap, ◌∙◌}
use mathlib.Core.Bool.{true}
use mathlib.Core.List.{List, [], ◌∷◌, ◌++◌, append-nil, append_assoc, flatten}
use native.Mathlib.Omega.{arith}
use lib.Dec.{eqb, ltb}
use lib.ListN.{length, take, drop, get_or, length-set, take-append-drop, drop_of_length-le}
use lib.Seq.{drop-drop, get_or-drop}
use borrow.Author.Tests.{le-ltb, eq-eqb, ne_eqb, eqb-true, eqb-false}
use Rattle.std.specs.Prelude.{Option, Some, None, is_none}
use Rattle.laws.proofs.Choice.{cond_case, by_test, and_right, not_both}
use Rattle.laws.proofs.Lists.{drop_next}
use Rattle.server.specs.declared.Server.{Server}
use Rattle.server.specs.declared.Served.{Served}
use Rattle.server.specs.Record.{all_buffers, connections}
use Rattle.server.specs.Piece.{PieceStep, served_step, piece_step}
use Rattle.server.specs.Calls.{closed_call}
use Rattle.server.proofs.Keeps.{piece_case}
use Rattle.frames.specs.declared.Event.{Event}
use Rattle.frames.specs.declared.Event.TheVariants as event
use Rattle.frames.specs.declared.Frame.{Frame}
use Rattle.frames.specs.declared.Frame.TheVariants as frame
use Rattle.frames.specs.declared.Part.{Part}
use Rattle.frames.specs.declared.Part.TheVariants as part
use Rattle.frames.specs.Read.{piece_of, passing, part_of, is_head, next_step, goes_on, read_of}
use Rattle.output.specs.Output.{answer_frames, change_frames}
use Rattle.port.specs.Event.{event_of}
use Rattle.port.specs.Turn.{SoundState, fresh_state, state_of, Whole, whole, Turn, after, served, piece_turn, turn_of}
use Rattle.port.specs.Run.{Runs, stops, turns}
use Rattle.port.specs.Bytes.{Written, writes, onward, written, OverBlock, ended, fed, OverBlocks, none, next}
use Rattle.port.proofs.Turning.{fresh_state_law, turn_keeps}
use Rattle.port.proofs.Bytes.{further_piece, Steady, begun, laid, laid_long, served_one, served_more, served_cr}

-- ---- what a turn needs, and keeps
pub record Held (w : Whole) : Type 0 where
  pub sound : SoundState w.state
  pub long : length w.buffers ≡ all_buffers
  pub many : length w.state.server.assemblers ≡ connections

steady : {w : Whole} → Held w → Steady w.state.server w.buffers
steady h = record { sound = h.sound.server; long = h.long; many = h.many }

abbrev pub Bytes : List ℕ → Type 0
Bytes s = (k : ℕ) → get_or s k 0 < 256

event_many : (s : Server) (store : List ℕ) (e : Option Event) → length (event_of s store e).server.assemblers ≡ length s.assemblers
unfolding event_of closed_call
event_many s store None = refl
event_many s store (Some (event.Closed connection)) =
    cond_case (λ (x : Served). length x.server.assemblers ≡ length s.assemblers) (ltb 7 connection) _ _ (λ _. refl)
    (λ _. length-set s.assemblers connection _)
event_many s store (Some (event.Reading port value)) = refl
event_many s store (Some (event.Wait connection n)) = refl
event_many s store (Some event.Carriers) = refl
event_many s store (Some event.Levels) = refl
event_many s store (Some event.Due) = refl
event_many s store (Some (event.Refused connection number)) = refl

piece_many : (s : Server) (store buffers : List ℕ) (connection : ℕ) (p : List ℕ) (room : ℕ)
    → length (piece_step s store buffers connection p room).served.server.assemblers ≡ length s.assemblers
unfolding served_step
piece_many s store buffers connection p room =
    piece_case s store buffers connection p room (λ (x : PieceStep). length x.served.server.assemblers ≡ length s.assemblers)
    (λ number. refl) (λ c h. length-set s.assemblers connection _)

turn_many : (s : Server) (f : Frame) (store buffers block : List ℕ)
    → length (turn_of (whole (state_of s f) store buffers) block).move.state.server.assemblers ≡ length s.assemblers
unfolding turn_of piece_turn
turn_many s frame.Between store buffers block = event_many s store (read_of frame.Between block).event
turn_many s (frame.Kind kind) store buffers block = event_many s store (read_of (frame.Kind kind) block).event
turn_many s (frame.Connection kind connection) store buffers block = event_many s store (read_of (frame.Connection kind connection) block).event
turn_many s (frame.High kind connection high) store buffers block = event_many s store (read_of (frame.High kind connection high) block).event
turn_many s (frame.Piece connection left) store buffers block = piece_many s store buffers connection (take left block) 128
turn_many s (frame.Reading port) store buffers block = event_many s store (read_of (frame.Reading port) block).event
turn_many s (frame.Wait connection come number) store buffers block = event_many s store (read_of (frame.Wait connection come number) block).event
turn_many s (frame.Over left) store buffers block = refl

pub turn_held : (w : Whole) (block : List ℕ) → Held w → Bytes block → Held (after (turn_of w block))
turn_held w block h bytes =
    let k = turn_keeps w block h.sound h.long bytes in
    record {
      sound = k.sound;
      long = k.long ∙ h.long;
      many = turn_many w.state.server w.state.frame w.store w.buffers block ∙ h.many;
    }

-- ---- the first byte of a turn, and the rest of it

abbrev further_turn : Turn → Turn
further_turn x =
    record {
      move = record { state = x.move.state; used = 1 + x.move.used; text = x.move.text };
      store = x.store;
      buffers = x.buffers;
    }

-- the turn ends with its first byte; or that says nothing, and the turn is what the rest makes behind it
data First (w : Whole) (b : ℕ) (block : List ℕ) : Type 0 where
  alone : turn_of w (b ∷ block) ≡ turn_of w (b ∷ []) → First w b block
  more : turn_of w (b ∷ block) ≡ further_turn (turn_of (after (turn_of w (b ∷ []))) block) → (turn_of w (b ∷ [])).move.text ≡ [] → First w b block

head_is : (p : Part) → is_head p ≡ true → p ≡ part.Head
head_is part.Head e = refl
head_is (part.Piece connection left) e = not_both e refl
head_is (part.Over left) e = not_both e refl

head_first : (s : Server) (f : Frame) (store buffers : List ℕ) (b : ℕ) (block : List ℕ) → part_of f ≡ part.Head
    → First (whole (state_of s f) store buffers) b block
unfolding turn_of event_of
head_first s f store buffers b block head =
    by_test (goes_on (next_step f b))
    (λ on.
    let still = head_is (part_of (next_step f b).frame) (and_right (is_none (next_step f b).event) (is_head (part_of (next_step f b).frame)) on) in
    more (rw (head, on, still)) (rw (head, on)))
    (λ stop. alone (rw (head, stop)))

-- ---- a piece, and a frame that is passed over

passing_on : (m : ℕ) → passing (suc m) ≡ frame.Over (suc m)
unfolding passing
passing_on m = rw (ne_eqb (suc m) 0 (λ e. omega arith))

pub piece_on : (connection m : ℕ) → piece_of connection (suc m) ≡ frame.Piece connection (suc m)
unfolding piece_of
piece_on connection m = rw (ne_eqb (suc m) 0 (λ e. omega arith))

over_first : (s : Server) (left : ℕ) (store buffers : List ℕ) (b : ℕ) (block : List ℕ) → 0 < left
    → First (whole (state_of s (frame.Over left)) store buffers) b block
unfolding turn_of
over_first s zero store buffers b block some = absurd (omega arith)
over_first s (suc zero) store buffers b block some = alone refl
over_first s (suc (suc m)) store buffers b block some =
    let used = length (take (suc m) block) in
    let one : suc (suc m) - 1 ≡ suc m = omega arith in
    let rest : suc (suc m) - suc used ≡ suc m - used = omega arith in
    let count : 1 + used ≡ suc used = omega arith in
    more (rw (one, passing_on m, rest, count)) refl

is_served : (s : Server) (store buffers : List ℕ) (connection : ℕ) (p : List ℕ) → connection ≤ 7 → length buffers ≡ all_buffers
    → piece_step s store buffers connection p 128 ≡ served_step s store buffers connection p 128
unfolding piece_step
is_served s store buffers connection p c long =
    rw (le-ltb 7 connection c, eq-eqb (length buffers) all_buffers long)

-- a turn within a piece
turn_is : (s : Server) (store buffers : List ℕ) (connection left : ℕ) (block : List ℕ) → connection ≤ 7 → length buffers ≡ all_buffers
    → turn_of (whole (state_of s (frame.Piece connection left)) store buffers) block
    ≡ served connection left (served_step s store buffers connection (take left block) 128)
unfolding turn_of piece_turn
turn_is s store buffers connection left block c long = ap (served connection left) (is_served s store buffers connection (take left block) c long)

served_further : (connection m : ℕ) (x : PieceStep) → served connection (suc (suc m)) (further_piece 1 x) ≡ further_turn (served connection (suc m) x)
served_further connection m x =
    let e : suc (suc m) - (1 + x.served.used) ≡ suc m - x.served.used = omega arith in
    rw e

module _ (s : Server) (store buffers : List ℕ) (connection : ℕ) (k : Steady s buffers) (c : connection ≤ 7) (b : ℕ) where
  abbrev within : ℕ → Whole
  within left = whole (state_of s (frame.Piece connection left)) store buffers

  abbrev is : (left : ℕ) (block : List ℕ) → turn_of (within left) block ≡ served connection left (served_step s store buffers connection (take left block) 128)
  is left block = turn_is s store buffers connection left block c k.long

  -- behind a byte that ends nothing
  abbrev further : ℕ → Whole
  further m = whole (state_of (begun s store buffers connection 128 k c) (frame.Piece connection (suc m))) store (laid s store buffers connection 128 k c b)

  one_left : (m : ℕ) → (b ≡ 13 → ⊥) → after (turn_of (within (suc (suc m))) (b ∷ [])) ≡ further m
  one_left m ne =
      let one : suc (suc m) - 1 ≡ suc m = omega arith in
      ap after (is (suc (suc m)) (b ∷ []) ∙ ap (served connection (suc (suc m))) (served_one s store buffers connection 128 k c b ne))
      ∙ rw (one, piece_on connection m)

  one_text : (m : ℕ) → (b ≡ 13 → ⊥) → (turn_of (within (suc (suc m))) (b ∷ [])).move.text ≡ []
  unfolding answer_frames change_frames
  one_text m ne =
      ap (λ (x : Turn). x.move.text)
      (is (suc (suc m)) (b ∷ []) ∙ ap (served connection (suc (suc m))) (served_one s store buffers connection 128 k c b ne))

  rest_is : (m : ℕ) (block : List ℕ) → (b ≡ 13 → ⊥) → turn_of (within (suc (suc m))) (b ∷ block) ≡ further_turn (turn_of (further m) block)
  rest_is m block ne =
      let start = begun s store buffers connection 128 k c in
      let rest = laid s store buffers connection 128 k c b in
      is (suc (suc m)) (b ∷ block)
      ∙ ap (served connection (suc (suc m))) (served_more s store buffers connection 128 k c b (take (suc m) block) ne)
      ∙ served_further connection m (served_step start store rest connection (take (suc m) block) 128)
      ∙ ap further_turn (sym (turn_is start store rest connection (suc m) block c (laid_long s store buffers connection 128 k c b)))

  cr_is : (m : ℕ) (block : List ℕ) → b ≡ 13 → turn_of (within (suc (suc m))) (b ∷ block) ≡ turn_of (within (suc (suc m))) (b ∷ [])
  cr_is m block cr =
      let same : served_step s store buffers connection (b ∷ take (suc m) block) 128 ≡ served_step s store buffers connection (b ∷ []) 128 =
      rw cr (served_cr s store buffers connection 128 k c (take (suc m) block)) in
      is (suc (suc m)) (b ∷ block) ∙ ap (served connection (suc (suc m))) same ∙ sym (is (suc (suc m)) (b ∷ []))

  piece_first : (left : ℕ) (block : List ℕ) → 0 < left → First (within left) b block
  piece_first zero block some = absurd (omega arith)
  piece_first (suc zero) block some = alone (is 1 (b ∷ block) ∙ sym (is 1 (b ∷ [])))
  piece_first (suc (suc m)) block some =
      by_test (eqb b 13)
      (λ t. alone (cr_is m block (eqb-true b 13 t)))
      (λ f.
      let ne = eqb-false b 13 f in
      more (rest_is m block ne ∙ ap (λ (v : Whole). further_turn (turn_of v block)) (sym (one_left m ne))) (one_text m ne))

-- ---- any turn

first : (s : Server) (f : Frame) (store buffers : List ℕ) (b : ℕ) (block : List ℕ) → Held (whole (state_of s f) store buffers)
    → First (whole (state_of s f) store buffers) b block
first s frame.Between store buffers b block h = head_first s frame.Between store buffers b block refl
first s (frame.Kind kind) store buffers b block h = head_first s (frame.Kind kind) store buffers b block refl
first s (frame.Connection kind connection) store buffers b block h = head_first s (frame.Connection kind connection) store buffers b block refl
first s (frame.High kind connection high) store buffers b block h = head_first s (frame.High kind connection high) store buffers b block refl
first s (frame.Piece connection left) store buffers b block h =
    piece_first s store buffers connection (steady h) h.sound.frame.0 b left block h.sound.frame.1
first s (frame.Reading port) store buffers b block h = head_first s (frame.Reading port) store buffers b block refl
first s (frame.Wait connection come number) store buffers b block h = head_first s (frame.Wait connection come number) store buffers b block refl
first s (frame.Over left) store buffers b block h = over_first s left store buffers b block h.sound.frame

-- one byte alone
one_written : (w : Whole) (b : ℕ) → written (b ∷ []) w ≡ writes (turn_of w (b ∷ [])).move.text (after (turn_of w (b ∷ [])))
one_written w b = rw append-nil

one_bytes : (b : ℕ) → b < 256 → Bytes (b ∷ [])
one_bytes b byte zero = byte
one_bytes b byte (suc k) = omega arith

one_used : (w : Whole) (b : ℕ) → Held w → b < 256 → (turn_of w (b ∷ [])).move.used ≡ 1
one_used w b h byte =
    let k = turn_keeps w (b ∷ []) h.sound h.long (one_bytes b byte) in
    omega (arith, k.within, k.some (omega arith))

alone_written : (w : Whole) (b : ℕ) (rest : List ℕ) → Held w → b < 256 → turn_of w (b ∷ rest) ≡ turn_of w (b ∷ [])
    → written (take (turn_of w (b ∷ rest)).move.used (b ∷ rest)) w ≡ writes (turn_of w (b ∷ rest)).move.text (after (turn_of w (b ∷ rest)))
alone_written w b rest h byte e = rw (e, one_used w b h byte) (one_written w b)

pub turn_written : (rest : List ℕ) (w : Whole) (b : ℕ) → Held w → Bytes (b ∷ rest)
    → written (take (turn_of w (b ∷ rest)).move.used (b ∷ rest)) w ≡ writes (turn_of w (b ∷ rest)).move.text (after (turn_of w (b ∷ rest)))
turn_written [] w b h bytes = alone_written w b [] h (bytes 0) refl
turn_written (a ∷ rest) w b h bytes =
    by_first (first w.state.server w.state.frame w.store w.buffers b (a ∷ rest) h)
    (turn_written rest (after (turn_of w (b ∷ []))) a (turn_held w (b ∷ []) h (one_bytes b (bytes 0))) (λ k. bytes (suc k)))
  where
    by_first : First w b (a ∷ rest)
        → (let v = after (turn_of w (b ∷ [])) in
        written (take (turn_of v (a ∷ rest)).move.used (a ∷ rest)) v ≡ writes (turn_of v (a ∷ rest)).move.text (after (turn_of v (a ∷ rest))))
        → written (take (turn_of w (b ∷ a ∷ rest)).move.used (b ∷ a ∷ rest)) w
        ≡ writes (turn_of w (b ∷ a ∷ rest)).move.text (after (turn_of w (b ∷ a ∷ rest)))
    by_first (alone e) later = alone_written w b (a ∷ rest) h (bytes 0) e
    by_first (more e t) later =
        let used = (turn_of (after (turn_of w (b ∷ []))) (a ∷ rest)).move.used in
        let count : 1 + used ≡ suc used = omega arith in
        rw (e, count, t, later)

-- ---- a run, a block, blocks

pub written_append : (s t : List ℕ) (w : Whole) → written (s ++ t) w ≡ onward (written s w) (written t)
written_append [] t w = refl
written_append (b ∷ s) t w = rw (written_append s t (after (turn_of w (b ∷ []))), append_assoc)

-- the turn at a place of a block, and then the rest of the block
pub turn_at : (block : List ℕ) (i : ℕ) (w : Whole) → Held w → Bytes block → i < length block
    → written (drop i block) w
    ≡ (let x = turn_of w (drop i block) in onward (writes x.move.text (after x)) (written (drop (i + x.move.used) block)))
turn_at block i w h bytes less =
    let x = turn_of w (drop i block) in
    let here : written (take x.move.used (drop i block)) w ≡ writes x.move.text (after x) =
    rw (drop_next block i 0 less)
    (turn_written (drop (i + 1) block) w (get_or block i 0) h (λ k. rw (← drop_next block i 0 less, get_or-drop) (bytes (i + k)))) in
    ap (λ (s : List ℕ). written s w) (sym (take-append-drop x.move.used (drop i block)))
    ∙ written_append (take x.move.used (drop i block)) (drop x.move.used (drop i block)) w
    ∙ rw (here, drop-drop)

place_held : (block : List ℕ) (i : ℕ) (w : Whole) → Held w → Bytes block → Held (after (turn_of w (drop i block)))
place_held block i w h bytes = turn_held w (drop i block) h (λ k. rw get_or-drop (bytes (i + k)))

module _ {block : List ℕ} (bytes : Bytes block) where
  runs_held : {text : List ℕ} {room i j : ℕ} {w v : Whole} → Runs block room i w text j v → Held w → Held v
  runs_held (stops why) h = h
  runs_held (turns {i = i} {w = w} less room r) h = runs_held r (place_held block i w h bytes)

  runs_written : {text : List ℕ} {room i j : ℕ} {w v : Whole} → Runs block room i w text j v → Held w
      → written (drop i block) w ≡ onward (writes text v) (written (drop j block))
  runs_written (stops why) h = refl
  runs_written (turns {i = i} {w = w} less room r) h =
      turn_at block i w h bytes less ∙ rw (runs_written r (place_held block i w h bytes), append_assoc)

  block_held : {text : List ℕ} {i : ℕ} {w v : Whole} → OverBlock block i w text v → Held w → Held v
  block_held (ended end) h = h
  block_held (fed r rest) h = block_held rest (runs_held r h)

  block_written : {text : List ℕ} {i : ℕ} {w v : Whole} → OverBlock block i w text v → Held w → written (drop i block) w ≡ writes text v
  block_written (ended end) h = rw (drop_of_length-le block end)
  block_written (fed r rest) h = runs_written r h ∙ rw (block_written rest (runs_held r h))

abbrev pub AllBytes : List (List ℕ) → Type 0
AllBytes [] = Unit
AllBytes (block ∷ blocks) = Bytes block × AllBytes blocks

blocks_written : {blocks : List (List ℕ)} {text : List ℕ} {w v : Whole} → OverBlocks blocks w text v → AllBytes blocks → Held w
    → written (flatten blocks) w ≡ writes text v
unfolding flatten
blocks_written none bytes h = refl
blocks_written (next {block = block} {blocks = blocks} {w = w} b rest) bytes h =
    written_append block (flatten blocks) w
    ∙ rw (block_written bytes.0 b h, blocks_written rest bytes.1 (block_held bytes.0 b h))

-- ---- the theorems

pub fresh_held : (store buffers : List ℕ) → length buffers ≡ all_buffers → Held (whole fresh_state store buffers)
fresh_held store buffers long = record { sound = fresh_state_law; long = long; many = refl }

-- from a fresh server, with any content of the lent memory: what is written over blocks is what their bytes write one by one
pub bytes_alone : {blocks : List (List ℕ)} {text : List ℕ} {v : Whole} (store buffers : List ℕ) → length buffers ≡ all_buffers → AllBytes blocks
    → OverBlocks blocks (whole fresh_state store buffers) text v → written (flatten blocks) (whole fresh_state store buffers) ≡ writes text v
bytes_alone store buffers long bytes over = blocks_written over bytes (fresh_held store buffers long)

-- so it does not hang on how the bytes are cut, nor on the room
pub cut_anywhere : {blocks blocks' : List (List ℕ)} {text text' : List ℕ} {v v' : Whole} (store buffers : List ℕ) → length buffers ≡ all_buffers
    → AllBytes blocks → AllBytes blocks' → flatten blocks ≡ flatten blocks' → OverBlocks blocks (whole fresh_state store buffers) text v
    → OverBlocks blocks' (whole fresh_state store buffers) text' v' → text ≡ text'
cut_anywhere store buffers long bytes bytes' same over over' =
    let w = whole fresh_state store buffers in
    ap (λ (x : Written). x.text)
    (sym (bytes_alone store buffers long bytes over) ∙ ap (λ (s : List ℕ). written s w) same ∙ bytes_alone store buffers long bytes' over')
