-- What a piece's call gives, for the turn that makes it: its change is of a connector or a relay that there is, its size is that of its reply, it
-- uses something, and the buffers stay as long as they are.
use Prim.Native.Nat.{ℕ, ◌+◌, ◌-◌, ◌*◌, ◌≤◌, ◌<◌}
use mathlib.Core.Path.{◌≡◌, refl, ◌∙◌}
use mathlib.Core.List.{List}
use native.Mathlib.Omega.{arith}
use lib.ListN.{length, take, drop, length-drop}
use lib.Seq.{length-take-le}
use borrow.Author.Tests.{le-ltb, eq-eqb}
use Rattle.laws.specs.Put.{over, Put}
use Rattle.laws.proofs.Put.{over_front, over_length, then}
use Rattle.lines.specs.Take.{joined_step}
use Rattle.reply.proofs.Lengths.{reply_fits}
use Rattle.connector.specs.declared.Answer.{Answer}
use Rattle.connector.specs.declared.Answer.TheVariants as answer
use Rattle.hub.specs.Record.{InRange}
use Rattle.hub.specs.Line.{bytes_of}
use Rattle.server.specs.declared.Server.{Server}
use Rattle.server.specs.declared.PieceServed.{PieceServed}
use Rattle.server.specs.Record.{all_buffers, buffer_size, assembler_at, buffer_at}
use Rattle.server.specs.Piece.{PieceStep, served_step, piece_step, Serves}
use Rattle.frames.specs.declared.Frame.{Frame}
use Rattle.frames.specs.Read.{piece_of}
use Rattle.output.specs.Output.{answer_frames, change_frames}
use Rattle.port.specs.Turn.{state_of, piece_turn, Turns}
use Rattle.server.proofs.Joining.{take_size, found_changes}
use Rattle.server.proofs.Keeps.{piece_case, piece_used, served_some}

-- a text that was laid at the start of a buffer stands there
text_laid : (before text : List ℕ) {after : List ℕ} {n : ℕ} → after ≡ over before 0 text → n ≡ length text → take n after ≡ text
text_laid before text laid size =
    let e : length text ≡ 0 + length text = omega arith in
    rw (size, laid, e) (over_front before 0 text (omega arith))

module _ (s : Server) (store buffers : List ℕ) (connection : ℕ) (piece : List ℕ) (room : ℕ) where
  pub piece_in_range : InRange (piece_step s store buffers connection piece room).served.change
  unfolding served_step
  piece_in_range =
      let step = joined_step (assembler_at s connection) (buffer_at buffers connection) piece in
      piece_case s store buffers connection piece room (λ (x : PieceStep). InRange x.served.change) (λ number. tt)
      (λ c h. found_changes s.hub store connection room step.buffer step.taken.found)

  pub piece_size : (piece_step s store buffers connection piece room).served.size
      ≡ length (bytes_of (piece_step s store buffers connection piece room).served.answer)
  unfolding served_step
  piece_size =
      piece_case s store buffers connection piece room (λ (x : PieceStep). x.served.size ≡ length (bytes_of x.served.answer))
      (λ number. refl) (λ c h. refl)

  pub piece_some : connection ≤ 7 → 128 ≤ room → length buffers ≡ all_buffers → 0 < length piece
      → 0 < (piece_step s store buffers connection piece room).served.used
  unfolding piece_step
  piece_some c r h some =
      rw (le-ltb 7 connection c, le-ltb room 128 r, eq-eqb (length buffers) all_buffers h)
      (served_some s store buffers connection piece room c h some)

  pub piece_buffers : length (piece_step s store buffers connection piece room).buffers ≡ length buffers
  unfolding served_step
  piece_buffers =
      piece_case s store buffers connection piece room (λ (x : PieceStep). length x.buffers ≡ length buffers) (λ number. refl)
      (λ c h.
      let at : buffer_size ≤ length (drop (connection * buffer_size) buffers) = rw length-drop (omega arith) in
      let sized =
      take_size (assembler_at s connection) (buffer_at buffers connection) piece ∙ length-take-le buffer_size (drop (connection * buffer_size) buffers) at in
      over_length buffers (connection * buffer_size) _ (omega arith))

bytes_fit : (a : Answer) → length (bytes_of a) ≤ 128
bytes_fit (answer.Refused number) = omega arith
bytes_fit answer.Taken = omega arith
bytes_fit (answer.Reply r also) = reply_fits r

-- ---- the same of what a call returned
module _ (s : Server) (store buffers : List ℕ) (connection : ℕ) (piece before : List ℕ) {x : PieceServed} {kept joined laid : List ℕ}
    (v : Serves (piece_step s store buffers connection piece (length before)) before x kept joined laid) where
  -- its reply stands in the reply buffer, and fits
  pub served_text : take x.size laid ≡ bytes_of x.answer
  served_text = rw v.result (text_laid before _ v.laid (piece_size s store buffers connection piece (length before)))

  pub served_size : x.size ≡ length (take x.size laid)
  served_size = rw served_text (rw v.result (piece_size s store buffers connection piece (length before)))

  pub served_fits : 128 ≤ length before → x.size ≤ length laid
  served_fits room =
      let size = rw served_text at served_size in
      let fits = bytes_fit x.answer in
      let same : length laid ≡ length before =
      rw v.laid (over_length before 0 _ (rw (← v.result) (omega arith))) in
      omega arith

  pub served_in_range : InRange x.change
  served_in_range = rw v.result (piece_in_range s store buffers connection piece (length before))

  pub served_used : x.used ≤ length piece
  served_used = rw v.result (piece_used s store buffers connection piece (length before))

-- the call, and the frames of its answer and of its change, are the turn
pub piece_turns : (s : Server) (store buffers : List ℕ) (connection left : ℕ) (block : List ℕ) {reply : List ℕ} {x : PieceServed} {kept joined laid : List ℕ}
    {before out₁ out₂ : List ℕ} {at a end : ℕ} {f : Frame}
    → Serves (piece_step s store buffers connection (take left block) 128) reply x kept joined laid
    → Put before at (answer_frames connection x.answer) out₁ a → Put out₁ a (change_frames connection x.change) out₂ end
    → f ≡ piece_of connection (left - x.used)
    → Turns (piece_turn s store buffers connection left block) before at (record { used = x.used; end = end }) (state_of x.server f)
    kept joined out₂
unfolding piece_turn
piece_turns s store buffers connection left block v p q e =
    record {
      moves = record { state = rw (e, v.result); used = rw v.result; put = rw (← v.result) (then p q) };
      kept = v.kept;
      joined = v.joined;
    }
