-- A piece's bytes one by one: what a call makes of a piece is what it makes of the first byte, and then of the rest.
use Prim.Native.Nat.{ℕ, zero, suc, ◌+◌, ◌*◌, ◌≤◌}
use mathlib.Core.Path.{◌≡◌, refl, sym, ap, ◌∙◌}
use mathlib.Core.Bool.{true}
use mathlib.Core.List.{List, [], ◌∷◌, ◌++◌}
use native.Mathlib.Omega.{arith}
use lib.Dec.{ltb}
use lib.ListN.{length, take, drop, set, length-append, length-drop, length-set}
use lib.Seq.{length-take-le, take-append-le, take_at, drop_at, get_or-set_same}
use Rattle.laws.specs.Put.{over}
use Rattle.laws.proofs.Choice.{by_test}
use Rattle.laws.proofs.Put.{over_length}
use Rattle.laws.proofs.Parts.{part_here}
use Rattle.lines.specs.declared.Assembler.{Assembler}
use Rattle.lines.specs.declared.Found.TheVariants.{Nothing}
use Rattle.lines.specs.Take.{assembler, fresh_assembler, SoundAssembler, counted, found_of, until_cr, Step, step_of, joined_step}
use Rattle.lines.proofs.Taking.{counted_most, step_from, from_start, at_byte, at_cr, at_end_law}
use Rattle.connector.specs.declared.Answer.TheVariants.{Taken}
use Rattle.hub.specs.declared.HubChange.TheVariants as change
use Rattle.server.specs.declared.Server.{Server}
use Rattle.server.specs.Record.{connections, buffer_size, all_buffers, server_of, assembler_at, buffer_at, SoundServer}
use Rattle.server.specs.Piece.{PieceStep, served_step}
use Rattle.server.proofs.Joining.{take_size}

-- ---- the assembler

-- so many bytes more were used
abbrev further : ℕ → Step → Step
further n x = step_of x.taken.assembler (n + x.taken.used) x.taken.found x.buffer

shift : (size : ℕ) (buffer rest : List ℕ) → step_from 1 size buffer rest ≡ further 1 (step_from 0 size buffer rest)
unfolding step_from
shift size buffer rest =
    let n = length (until_cr rest) in
    let e : 0 + suc n ≡ suc n = omega arith in
    let f : 0 + length rest ≡ length rest = omega arith in
    by_test (ltb n (length rest)) (λ t. rw (t, e)) (λ t. rw (t, f))

module _ (a : Assembler) (buffer : List ℕ) (k : SoundAssembler a) (room : length buffer ≡ 4096) where
  -- one byte that is no CR
  one_byte : (b : ℕ) → (b ≡ 13 → ⊥) → joined_step a buffer (b ∷ []) ≡ step_of (assembler (counted (suc a.size))) 1 Nothing (set buffer a.size b)
  unfolding found_of
  one_byte b ne =
      from_start a buffer (b ∷ [])
      ∙ at_byte 0 a.size buffer (b ∷ []) (omega arith) ne room
      ∙ at_end_law 1 (counted (suc a.size)) (set buffer a.size b) (b ∷ []) (omega arith) (counted_most (suc a.size))

  -- and more behind it
  byte_more : (b : ℕ) (s : List ℕ) → (b ≡ 13 → ⊥)
      → joined_step a buffer (b ∷ s) ≡ further 1 (joined_step (assembler (counted (suc a.size))) (set buffer a.size b) s)
  byte_more b s ne =
      from_start a buffer (b ∷ s)
      ∙ at_byte 0 a.size buffer (b ∷ s) (omega arith) ne room
      ∙ shift (counted (suc a.size)) (set buffer a.size b) s
      ∙ ap (further 1) (sym (from_start (assembler (counted (suc a.size))) (set buffer a.size b) s))

  -- a CR
  cr_alone : (s : List ℕ) → joined_step a buffer (13 ∷ s) ≡ joined_step a buffer (13 ∷ [])
  cr_alone s =
      let ended : (t : List ℕ) → joined_step a buffer (13 ∷ t) ≡ step_of fresh_assembler 1 (found_of a.size true) buffer =
      λ t. from_start a buffer (13 ∷ t) ∙ at_cr 0 a.size buffer (13 ∷ t) (omega arith) refl k.few in
      ended s ∙ sym (ended [])

-- ---- the server

set_again : {A : Type 0} (l : List A) (i : ℕ) (v x : A) → set (set l i v) i x ≡ set l i x
set_again [] i v x = refl
set_again (y ∷ l) zero v x = refl
set_again (y ∷ l) (suc i) v x = ap (λ t. y ∷ t) (set_again l i v x)

-- a part laid over another of the same length
over_again : (l : List ℕ) (at : ℕ) (v x : List ℕ) → length v ≡ length x → at + length v ≤ length l → over (over l at v) at x ≡ over l at x
unfolding over
over_again l at v x same fits =
    let front : length (take at l) ≡ at = length-take-le at l (omega arith) in
    let both : length (take at l ++ v) ≡ at + length x = rw (length-append, front, same) in
    let rest : at + length v ≡ at + length x = ap (λ n. at + n) same in
    rw (
      take-append-le at (take at l ++ v) (drop (at + length v) l) (omega arith),
      take_at (take at l) v at front,
      drop_at (take at l ++ v) (drop (at + length v) l) (at + length x) both,
      rest,
    )

abbrev pub further_piece : ℕ → PieceStep → PieceStep
further_piece n x =
    record {
      served = record { server = x.served.server; used = n + x.served.used; answer = x.served.answer; change = x.served.change; size = x.served.size };
      store = x.store;
      buffers = x.buffers;
    }

-- a server whose buffers are all there
pub record Steady (s : Server) (buffers : List ℕ) : Type 0 where
  pub sound : SoundServer s
  pub long : length buffers ≡ all_buffers
  pub many : length s.assemblers ≡ connections

module _ (s : Server) (store buffers : List ℕ) (connection room : ℕ) (k : Steady s buffers) (c : connection ≤ 7) where
  abbrev grown : Assembler
  grown = assembler (counted (suc (assembler_at s connection).size))

  abbrev kept : ℕ → List ℕ
  kept b = set (buffer_at buffers connection) (assembler_at s connection).size b

  -- the server behind one byte that is no CR
  abbrev pub begun : Server
  begun = server_of s.hub (set s.assemblers connection grown)

  abbrev pub laid : ℕ → List ℕ
  laid b = over buffers (connection * buffer_size) (kept b)

  part_room : length (buffer_at buffers connection) ≡ buffer_size
  part_room =
      let at : buffer_size ≤ length (drop (connection * buffer_size) buffers) = rw length-drop (omega (arith, k.long)) in
      length-take-le buffer_size (drop (connection * buffer_size) buffers) at

  kept_room : (b : ℕ) → length (kept b) ≡ buffer_size
  kept_room b = length-set (buffer_at buffers connection) (assembler_at s connection).size b ∙ part_room

  pub laid_long : (b : ℕ) → length (laid b) ≡ all_buffers
  laid_long b = over_length buffers (connection * buffer_size) (kept b) (omega (arith, kept_room b, k.long)) ∙ k.long

  sound_at : SoundAssembler (assembler_at s connection)
  sound_at = k.sound.each connection (omega arith)

  pub served_one : (b : ℕ) → (b ≡ 13 → ⊥)
      → served_step s store buffers connection (b ∷ []) room
      ≡ record { served = record { server = begun; used = 1; answer = Taken; change = change.Nothing; size = 0 }; store = store; buffers = laid b }
  unfolding served_step
  served_one b ne = rw (one_byte (assembler_at s connection) (buffer_at buffers connection) sound_at part_room b ne)

  pub served_more : (b : ℕ) (p : List ℕ) → (b ≡ 13 → ⊥)
      → served_step s store buffers connection (b ∷ p) room ≡ further_piece 1 (served_step begun store (laid b) connection p room)
  unfolding served_step
  served_more b p ne =
      let fits : connection * buffer_size + buffer_size ≤ length buffers = omega (arith, k.long) in
      let step = joined_step grown (kept b) p in
      let size : length (kept b) ≡ length step.buffer = sym (take_size grown (kept b) p) in
      rw (
        byte_more (assembler_at s connection) (buffer_at buffers connection) sound_at part_room b p ne,
        get_or-set_same s.assemblers connection grown fresh_assembler (omega (arith, k.many)),
        part_here buffer_size buffers connection (kept b) (kept_room b) fits,
        set_again s.assemblers connection grown step.taken.assembler,
        over_again buffers (connection * buffer_size) (kept b) step.buffer size (omega (arith, kept_room b)),
      )

  pub served_cr : (p : List ℕ) → served_step s store buffers connection (13 ∷ p) room ≡ served_step s store buffers connection (13 ∷ []) room
  unfolding served_step
  served_cr p = rw (cr_alone (assembler_at s connection) (buffer_at buffers connection) sound_at part_room p)
