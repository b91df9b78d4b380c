-- A connection's assembler on its part of the buffers, and the hub on the line that stands there.
use Prim.Native.Nat.{ℕ, ◌+◌, ◌*◌, ◌≤◌}
use mathlib.Core.Path.{◌≡◌, refl, sym, ap, ◌∙◌}
use mathlib.Core.List.{List, ◌++◌}
use native.Mathlib.Omega.{arith}
use borrow.Author.Tests.{leb-true}
use lib.Dec.{leb}
use lib.ListN.{length, take, drop, set, length-drop}
use lib.Seq.{length-take-le, length-sets}
use Rattle.laws.specs.Put.{over}
use Rattle.laws.proofs.Choice.{cond_case}
use Rattle.laws.proofs.Parts.{laid_back, over_front_here}
use Rattle.laws.proofs.Storing.{stores_stored}
use Rattle.lines.specs.declared.Assembler.{Assembler}
use Rattle.lines.specs.declared.Found.{Found}
use Rattle.lines.specs.declared.Found.TheVariants as found
use Rattle.lines.specs.declared.Taken.{Taken}
use Rattle.lines.specs.Take.{counted, found_of, until_cr, Step, joined_step, take_step, Takes}
use Rattle.lines.proofs.Keeps.{joined_case, takes_joined}
use Rattle.std.proofs.Common.{Result, Ok}
use Rattle.hub.specs.declared.Hub.{Hub}
use Rattle.hub.specs.declared.Answered.{Answered}
use Rattle.hub.specs.Record.{applied, InRange}
use Rattle.hub.proofs.Keeps.{line_in_range, overlong_in_range}
use Rattle.server.specs.declared.Server.{Server}
use Rattle.server.specs.Record.{all_buffers, buffer_size, server_of, assembler_at, buffer_at}
use Rattle.server.specs.Piece.{found_step, served_step, Serves, Joins, FoundAnswers, Fits}

-- ---- the assembler's buffer

-- it stays as long as it was
pub take_size : (a : Assembler) (buffer piece : List ℕ) → length (joined_step a buffer piece).buffer ≡ length buffer
take_size a buffer piece =
    let kept : (bytes : List ℕ) → _ = λ bytes. ap length (sym (stores_stored buffer a.size bytes)) ∙ length-sets buffer a.size bytes in
    joined_case a buffer piece (λ (x : Step). length x.buffer ≡ length buffer) (λ l. kept (until_cr piece)) (λ l. kept piece)

-- what is found is within it
pub found_fits : (a : Assembler) (buffer piece : List ℕ) (room from : ℕ) → from + buffer_size ≤ room
    → Fits (joined_step a buffer piece).taken.found room from
unfolding found_of
found_fits a buffer piece room from h =
    joined_case a buffer piece (λ (x : Step). Fits x.taken.found room from)
    (λ l.
    let size = counted (a.size + length (until_cr piece)) in
    cond_case (λ (f : Found). Fits f room from) (leb size buffer_size) (found.Line size) found.Overlong
    (λ e. omega (arith, leb-true size buffer_size e)) (λ e. tt))
    (λ l. tt)

-- the call on a part of the buffers is not refused
pub part_taken : (buffers : List ℕ) (from n : ℕ) (a : Assembler) (piece : List ℕ) {r : Result Taken ℕ} {part : List ℕ} → n ≡ buffer_size
    → from + buffer_size ≤ length buffers → Takes (take_step a (take n (drop from buffers)) piece) (take n (drop from buffers)) r part
    → let step = joined_step a (take buffer_size (drop from buffers)) piece in (r ≡ Ok step.taken) × (part ≡ step.buffer)
part_taken buffers from n a piece {r} {part} e fits t =
    let buffer = take buffer_size (drop from buffers) in
    let room : buffer_size ≤ length (drop from buffers) = rw length-drop (omega arith) in
    let is : Takes (take_step a buffer piece) buffer r part = rw e at t in
    takes_joined a buffer piece (length-take-le buffer_size (drop from buffers) room) is

-- and the part is in its place again
pub joins : (buffers : List ℕ) (from n : ℕ) (a : Assembler) (piece : List ℕ) {r : Taken} {part : List ℕ} → n ≡ buffer_size
    → from + buffer_size ≤ length buffers → Takes (take_step a (take n (drop from buffers)) piece) (take n (drop from buffers)) (Ok r) part
    → Joins (joined_step a (take buffer_size (drop from buffers)) piece) buffers from r
    (take from buffers ++ (part ++ drop n (drop from buffers)))
joins buffers from n a piece {r} {part} e fits t =
    let is = part_taken buffers from n a piece e fits t in
    let room : buffer_size ≤ length (drop from buffers) = rw length-drop (omega arith) in
    let sized =
    ap length is.1 ∙ take_size a (take buffer_size (drop from buffers)) piece ∙ length-take-le buffer_size (drop from buffers) room ∙ sym e in
    record { result = cc (is.0); laid = laid_back buffers from part n sized ∙ ap (over buffers from) is.1 }

-- ---- the line in the buffers

module _ (hub : Hub) (store : List ℕ) (connection room : ℕ) where
  -- it is the same line in the buffers as in the part
  found_in : (buffers part : List ℕ) (from : ℕ) (f : Found) → from + length part ≤ length buffers → Fits f (length part) 0
      → found_step hub store connection room (drop from (over buffers from part)) f ≡ found_step hub store connection room part f
  found_in buffers part from found.Nothing h k = refl
  found_in buffers part from (found.Line size) h k = rw (over_front_here buffers from part h size (omega arith))
  found_in buffers part from found.Overlong h k = refl

  -- what it changes is of a connector or a relay that there is
  pub found_changes : (buffer : List ℕ) (f : Found) → InRange (found_step hub store connection room buffer f).decided.change
  found_changes buffer found.Nothing = tt
  found_changes buffer (found.Line size) = line_in_range hub store connection (take size buffer) room
  found_changes buffer found.Overlong = overlong_in_range connection room

pub found_in_range : {hub : Hub} {store : List ℕ} {connection : ℕ} {buffer : List ℕ} {f : Found} {before : List ℕ} {a : Answered}
    {kept reply : List ℕ} → FoundAnswers hub store connection buffer f before a kept reply → InRange a.change
found_in_range {hub} {store} {connection} {buffer} {f} {before} x =
    rw x.answers.writes.result (found_changes hub store connection (length before) buffer f)

-- ---- both together
pub serves : (s : Server) (store buffers : List ℕ) (connection : ℕ) (piece : List ℕ) {before reply kept after : List ℕ} {t : Taken} {a : Answered}
    → connection ≤ 7 → length buffers ≡ all_buffers
    → Joins (joined_step (assembler_at s connection) (buffer_at buffers connection) piece) buffers (connection * buffer_size) t after
    → FoundAnswers s.hub store connection (drop (connection * buffer_size) after) t.found before a kept reply
    → Serves (served_step s store buffers connection piece (length before)) before
    (record {
      server = server_of (applied s.hub a.change) (set s.assemblers connection t.assembler);
      used = t.used;
      answer = a.answer;
      change = a.change;
      size = a.size;
    }) kept after reply
unfolding served_step
serves s store buffers connection piece {before} {reply} {kept} {after} {t} {a} c h j x =
    let step = joined_step (assembler_at s connection) (buffer_at buffers connection) piece in
    let from = connection * buffer_size in
    let room : buffer_size ≤ length (drop from buffers) = rw length-drop (omega arith) in
    let sized : length step.buffer ≡ buffer_size =
    take_size (assembler_at s connection) (buffer_at buffers connection) piece ∙ length-take-le buffer_size (drop from buffers) room in
    let fits = found_fits (assembler_at s connection) (buffer_at buffers connection) piece (length step.buffer) 0 (omega arith) in
    let same = found_in s.hub store connection (length before) buffers step.buffer from step.taken.found (omega arith) fits in
    let y = rw (j.laid, j.result, same) at x.answers in
    record {
      result = rw (j.result, y.writes.result);
      kept = y.kept;
      joined = j.laid;
      laid = y.writes.laid;
    }
