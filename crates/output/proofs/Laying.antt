-- For the functions that lay frames: lengths, levels, and the completions of a wait one by one.
use Prim.Native.Nat.{ℕ, ◌+◌, ◌*◌, ◌≤◌, ◌<◌}
use mathlib.Core.Path.{◌≡◌, refl, sym, ap, ◌∙◌}
use mathlib.Core.List.{List, [], ◌∷◌, ◌++◌, map, append_assoc, append-nil}
use native.Mathlib.Numerals.{add-one}
use native.Mathlib.Omega.{arith}
use lib.ListN.{length, take, get_or, length-append}
use lib.Seq.{take-suc, take_all}
use Rattle.laws.specs.Put.{Put}
use Rattle.laws.proofs.Put.{over_front, nothing, put_length, then}
use Rattle.lamp.specs.declared.Lamp.{Lamp}
use Rattle.lamp.specs.Lamp.{SoundLamp, percent_of}
use Rattle.lamp.proofs.Keeps.{level_most}
use Rattle.reply.specs.declared.Reply.TheVariants.{Complete}
use Rattle.reply.proofs.Lengths.{reply_fits}
use Rattle.reply.specs.Reply.{reply_text}
use Rattle.connector.specs.declared.Owner.{Owner}
use Rattle.connector.specs.declared.Owner.TheVariants as owner
use Rattle.connector.specs.declared.Answer.{Answer}
use Rattle.connector.specs.declared.Answer.TheVariants as answer
use Rattle.connector.specs.declared.Completion.{Completion}
use Rattle.hub.specs.declared.Hub.{Hub}
use Rattle.hub.specs.Record.{SoundHub}
use Rattle.hub.specs.Calls.{levels_of}
use Rattle.frames.specs.Layout.{low_byte, four_bytes, letter, frame_of}
use Rattle.output.specs.Output.{reply_frames, answer_frames, completion_frame, completion_frames, levels_frame}

pub moment_length : (n : ℕ) (s : List ℕ) → length (four_bytes n ++ s) ≡ 4 + length s
moment_length n s = omega arith

-- a text that was laid at the start of a buffer stands there
pub laid_text : {b text after : List ℕ} {r : ℕ} → Put b 0 text after r → take r after ≡ text
laid_text {b} {text} p = rw (p.place, p.laid) (over_front b 0 text (omega arith))

-- a reply to two, at most
reply_length : (connection : ℕ) (also : Owner) (s : List ℕ) → length (reply_frames connection also s) ≤ 2 * (4 + length s)
reply_length connection owner.Nobody s = omega arith
reply_length connection (owner.Connection other) s = rw length-append (omega arith)

pub answer_fits : (connection : ℕ) (a : Answer) → length (answer_frames connection a) ≤ 264
unfolding answer_frames
answer_fits connection (answer.Refused number) = omega arith
answer_fits connection answer.Taken = omega arith
answer_fits connection (answer.Reply r also) = omega (arith, reply_length connection also (reply_text r), reply_fits r)

-- a level is 100 percent at most, so that its byte is the level itself
level_byte : {x : Lamp} → SoundLamp x → low_byte (percent_of x) ≡ percent_of x
unfolding percent_of
level_byte s = omega (arith, level_most s)

pub levels_told : (h : Hub) → SoundHub h → levels_frame (levels_of h) ≡ frame_of (letter "l") 0 (levels_of h)
levels_told h k =
    rw (
      level_byte (k.each 0 (omega arith)).lights,
      level_byte (k.each 1 (omega arith)).lights,
      level_byte (k.each 2 (omega arith)).lights,
    )

-- ---- completions
pub completion_fits : (c : Completion) → length (completion_frame c) ≤ 136
unfolding completion_frame
completion_fits c = omega (arith, reply_fits (Complete c.place c.id))

frames_append : (xs ys : List Completion) → completion_frames (xs ++ ys) ≡ completion_frames xs ++ completion_frames ys
frames_append [] ys = refl
frames_append (x ∷ xs) ys = rw (frames_append xs ys, append_assoc)

pub frames_next : (items : List Completion) (i : ℕ) (d : Completion) → i < length items
    → completion_frames (take (i + 1) items) ≡ completion_frames (take i items) ++ completion_frame (get_or items i d)
frames_next items i d less =
    rw (add-one i, take-suc items i d, frames_append (take i items) (get_or items i d ∷ []), append-nil)

-- the first i completions are laid
pub record Laying (before : List ℕ) (at : ℕ) (items : List Completion) (count : ℕ) (after : List ℕ) (o i : ℕ) : Type 0 where
  pub long : length items ≡ 3
  pub reached : i ≤ 3
  pub wanted : i ≤ count
  pub room : at + 408 ≤ length before
  pub few : o ≤ at + 136 * i
  pub put : Put before at (completion_frames (take i items)) after o

pub laying_starts : (before : List ℕ) (at : ℕ) (items : List Completion) (count : ℕ) → length items ≡ 3 → at + 408 ≤ length before
    → Laying before at items count before at 0
laying_starts before at items count long room =
    record { long = long; reached = omega arith; wanted = omega arith; room = room; few = omega arith; put = nothing before at (omega arith) }

module _ {before : List ℕ} {at : ℕ} {items : List Completion} {count : ℕ} {after : List ℕ} {o i : ℕ} (now : Laying before at items count after o i) where
  -- there is room for another
  pub laying_room : i < 3 → o + 136 ≤ length after
  laying_room less = omega (arith, now.few, now.room, put_length now.put)

  -- one more
  pub laying_more : (d : Completion) {then_after : List ℕ} {r : ℕ} → i < 3 → i < count → Put after o (completion_frame (get_or items i d)) then_after r
      → Laying before at items count then_after r (i + 1)
  laying_more d less wanted p =
      record {
        long = now.long;
        reached = omega arith;
        wanted = omega arith;
        room = now.room;
        few = omega (arith, now.few, p.place, completion_fits (get_or items i d));
        put = rw (frames_next items i d (omega (arith, now.long))) (then now.put p);
      }

  -- all that were wanted
  pub laying_stops : count ≤ i → Put before at (completion_frames (take count items)) after o
  laying_stops h = let e : count ≡ i = omega (arith, now.wanted) in rw e now.put

  -- all that there are
  pub laying_ends : 3 ≤ i → Put before at (completion_frames (take count items)) after o
  laying_ends h =
      let e : take count items ≡ take i items =
      take_all count items (omega (arith, now.long, now.wanted)) ∙ sym (take_all i items (omega (arith, now.long))) in
      rw e now.put
