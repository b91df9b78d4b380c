-- However a stream is cut into pieces, the lines that a caller gets of the assembler are those of the stream.
use Prim.Native.Nat.{ℕ, zero, suc, ◌+◌, ◌≤◌}
use mathlib.Core.Path.{◌≡◌, refl, sym, ap, ◌∙◌, subst}
use mathlib.Core.Bool.{true}
use Rattle.std.proofs.Common.{Ok}
use mathlib.Core.List.{List, [], ◌∷◌, ◌++◌, map, map-append, flatten}
use native.Mathlib.Omega.{arith}
use lib.Dec.{leb}
use lib.ListN.{length, take, drop, length-append, length-drop, take-append-drop}
use lib.Seq.{length-sets, take-length}
use borrow.Author.Tests.{leb-true, leb-false}
use Rattle.laws.proofs.Choice.{by_test}
use Rattle.laws.proofs.Put.{over_front}
use Rattle.lines.specs.declared.Assembler.{Assembler}
use Rattle.lines.specs.Cut.{divided, line_of, lines_of}
use Rattle.laws.specs.Put.{stored_in}
use Rattle.lines.specs.Take.{assembler, fresh_assembler, counted, found_of, until_cr, Step, joined_step}
use Rattle.lines.specs.Feed.{Fed, fed, line_in, called, onward, fed_piece, feed}
use Rattle.laws.proofs.Storing.{stored_whole, stores_stored}
use Rattle.lines.proofs.Taking.{counted_few, counted_many, counted_on, granted}
use Rattle.lines.proofs.Keeps.{joined_case, used_some}
use Rattle.lines.proofs.Cutting.{divided_append, divided_ended, divided_unfinished}

-- ---- what an assembler with its buffer stands for: the bytes of a line that has begun
pub record Holds (a : Assembler) (buffer begun : List ℕ) : Type 0 where
  pub count : a.size ≡ counted (length begun)
  pub room : length buffer ≡ 4096
  pub bytes : length begun ≤ 4096 → take (length begun) buffer ≡ begun

pub holds_fresh : (buffer : List ℕ) → length buffer ≡ 4096 → Holds fresh_assembler buffer []
holds_fresh buffer h = record { count = sym (counted_few 0 (omega arith)); room = h; bytes = λ k. refl }

holds_more : {a : Assembler} {buffer begun : List ℕ} → Holds a buffer begun → (body : List ℕ)
    → Holds (assembler (counted (a.size + length body))) (stored_in buffer a.size body) (begun ++ body)
holds_more {a} {buffer} {begun} h body =
    record {
      count = rw (h.count, counted_on, length-append);
      room = ap length (sym (stores_stored buffer a.size body)) ∙ length-sets buffer a.size body ∙ h.room;
      bytes = λ k.
          let l : length begun + length body ≤ length buffer = omega (arith, h.room, length-append begun body) in
          let e : a.size ≡ length begun = h.count ∙ counted_few (length begun) (omega (arith, h.room)) in
          rw (length-append, e, stored_whole buffer (length begun) body l, over_front buffer (length begun) body (omega arith), h.bytes (omega (arith, h.room)));
    }

line_found : {a : Assembler} {buffer line : List ℕ} → Holds a buffer line → line_in buffer (found_of a.size true) ≡ line_of line ∷ []
unfolding found_of line_of
line_found {a} {buffer} {line} h =
    by_test (leb (length line) 4096)
    (λ e.
    let k = leb-true (length line) 4096 e in
    rw (h.count, counted_few (length line) k, e, h.bytes k))
    (λ e. rw (h.count, counted_many (length line) (leb-false (length line) 4096 e), e))

-- ---- a stream that was fed behind the bytes of a line that has begun: its lines, and what has begun then
pub record FedAs (begun stream : List ℕ) (f : Fed) : Type 0 where
  pub lines : f.lines ≡ map line_of (divided begun stream).parts
  pub holds : Holds f.assembler f.buffer (divided begun stream).rest

fed_none : {a : Assembler} {buffer begun : List ℕ} → Holds a buffer begun → FedAs begun [] (fed [] a buffer)
fed_none h = record { lines = refl; holds = h }

fed_then : {begun s t : List ℕ} {f : Fed} (next : Assembler → List ℕ → Fed) → FedAs begun s f
    → FedAs (divided begun s).rest t (next f.assembler f.buffer) → FedAs begun (s ++ t) (onward f next)
fed_then {begun} {s} {t} next x y =
    record {
      lines = rw (x.lines, y.lines, divided_append s t begun, map-append);
      holds = rw (divided_append s t begun) y.holds;
    }

-- a call feeds what it uses of its piece
pub call_fed : {a : Assembler} {buffer begun : List ℕ} → Holds a buffer begun → (s : List ℕ)
    → FedAs begun (take (joined_step a buffer s).taken.used s) (called a buffer (Ok (joined_step a buffer s)))
call_fed {a} {buffer} {begun} h s =
    joined_case a buffer s (λ (x : Step). FedAs begun (take x.taken.used s) (called a buffer (Ok x)))
    (λ l.
    let m = holds_more h (until_cr s) in
    record {
      lines = rw (divided_ended s begun l) (line_found m);
      holds = rw (divided_ended s begun l) (holds_fresh _ m.room);
    })
    (λ l.
    record {
      lines = rw (take-length, divided_unfinished s begun l);
      holds = rw (take-length, divided_unfinished s begun l) (holds_more h s);
    })

fed_piece_law : (n : ℕ) (s : List ℕ) {a : Assembler} {buffer begun : List ℕ} → length s ≤ n → Holds a buffer begun
    → FedAs begun s (fed_piece n s a buffer)
fed_piece_law zero [] l h = fed_none h
fed_piece_law zero (b ∷ s) l h = absurd (omega arith)
fed_piece_law (suc n) [] l h = fed_none h
fed_piece_law (suc n) (b ∷ s) {a} {buffer} {begun} l h =
    let used = (joined_step a buffer (b ∷ s)).taken.used in
    let c = call_fed h (b ∷ s) in
    let k : length (drop used (b ∷ s)) ≤ n = omega (arith, length-drop used (b ∷ s), used_some a buffer (b ∷ s) (omega arith)) in
    rw (granted a buffer (b ∷ s) h.room)
    (subst (λ (t : List ℕ). FedAs begun t (onward (called a buffer (Ok (joined_step a buffer (b ∷ s)))) (fed_piece n (drop used (b ∷ s))))) (take-append-drop used (b ∷ s))
    (fed_then (fed_piece n (drop used (b ∷ s))) c (fed_piece_law n (drop used (b ∷ s)) k c.holds)))

pub fed_pieces : (pieces : List (List ℕ)) {a : Assembler} {buffer begun : List ℕ} → Holds a buffer begun
    → FedAs begun (flatten pieces) (feed pieces a buffer)
unfolding flatten
fed_pieces [] h = fed_none h
fed_pieces (p ∷ pieces) h =
    let x = fed_piece_law (length p) p (omega arith) h in
    fed_then (feed pieces) x (fed_pieces pieces x.holds)

-- ---- the theorems
pub feed_is_lines : (pieces : List (List ℕ)) (buffer : List ℕ) → length buffer ≡ 4096
    → (feed pieces fresh_assembler buffer).lines ≡ lines_of (flatten pieces)
feed_is_lines pieces buffer h = (fed_pieces pieces (holds_fresh buffer h)).lines

-- two ways to cut one stream, in whatever buffers
pub cut_anywhere : (ps qs : List (List ℕ)) (b c : List ℕ) → length b ≡ 4096 → length c ≡ 4096 → flatten ps ≡ flatten qs
    → (feed ps fresh_assembler b).lines ≡ (feed qs fresh_assembler c).lines
cut_anywhere ps qs b c h k e = feed_is_lines ps b h ∙ ap lines_of e ∙ sym (feed_is_lines qs c k)

-- a fresh assembler drops the unfinished line that its buffer still holds
pub fresh_drops : (ps qs : List (List ℕ)) (buffer : List ℕ) → length buffer ≡ 4096
    → (feed qs fresh_assembler (feed ps fresh_assembler buffer).buffer).lines ≡ lines_of (flatten qs)
fresh_drops ps qs buffer h = feed_is_lines qs (feed ps fresh_assembler buffer).buffer (fed_pieces ps (holds_fresh buffer h)).holds.room
