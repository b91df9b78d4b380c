-- The loop over a block: turns one after the other, their frames one behind the other.
use Prim.Native.Nat.{ℕ, ◌+◌, ◌-◌, ◌≤◌, ◌<◌}
use mathlib.Core.Path.{◌≡◌, refl, sym, ap, ◌∙◌}
use mathlib.Core.List.{List, [], ◌++◌, append-nil, append_assoc}
use mathlib.Core.Logic.{◌⊎◌, inl, inr}
use native.Mathlib.Omega.{arith}
use lib.ListN.{length, take, drop, get_or, length-drop}
use lib.Seq.{get_or-drop, take_all}
use Rattle.laws.specs.Put.{over, Put}
use Rattle.laws.proofs.Put.{nothing, put_length, then}
use Rattle.server.specs.Record.{all_buffers}
use Rattle.port.specs.declared.Progress.{Progress}
use Rattle.port.specs.declared.turn.State.{State}
use Rattle.port.specs.declared.turn.Turned.{Turned}
use Rattle.port.specs.Turn.{SoundState, Whole, whole, after, turn_of, Turns}
use Rattle.port.specs.Run.{turn_room, Runs, stops, turns, Feeds}
use Rattle.port.proofs.Turning.{Keeps, turn_keeps}

-- what is left of a block, as a part of it
pub rest_of : (block : List ℕ) (i : ℕ) → take (length block - i) (drop i block) ≡ drop i block
rest_of block i = take_all (length block - i) (drop i block) (rw length-drop (omega arith))

-- so far: the frames of some turns are laid, and what is to come comes behind them
pub record Feeding (block : List ℕ) (from : ℕ) (begun : Whole) (before : List ℕ) (w : Whole) (out : List ℕ) (i o : ℕ) : Type 0 where
  pub text : List ℕ
  pub put : Put before 0 text out o
  pub sound : SoundState w.state
  pub long : length w.buffers ≡ all_buffers
  pub leads : (room j : ℕ) (rest : List ℕ) (v : Whole) → room + o ≡ length before → Runs block room i w rest j v
      → Runs block (length before) from begun (text ++ rest) j v

pub feeding_starts : (block : List ℕ) (from : ℕ) (w : Whole) (before : List ℕ) → SoundState w.state → length w.buffers ≡ all_buffers
    → Feeding block from w before w before from 0
feeding_starts block from w before sound long =
    record {
      text = [];
      put = nothing before 0 (omega arith);
      sound = sound;
      long = long;
      leads = λ room j rest v e r.
          let same : room ≡ length before = omega arith in
          rw (← same) r;
    }

module _ {block : List ℕ} {from : ℕ} {begun : Whole} {before : List ℕ} {w : Whole} {out : List ℕ} {i o : ℕ}
    (now : Feeding block from begun before w out i o) where
  -- what is written so far is within the buffer
  pub feeding_room : o ≤ length out
  feeding_room = omega (arith, now.put.room, put_length now.put)

  -- one turn more
  module _ {r : Turned} {left : State} {store buffers out' : List ℕ} (t : Turns (turn_of w (drop i block)) out o r left store buffers out') (less : i < length block)
      (bytes : (k : ℕ) → get_or block k 0 < 256) where
    keeps : Keeps w (drop i block) (turn_of w (drop i block))
    keeps = turn_keeps w (drop i block) now.sound now.long (λ k. rw get_or-drop (bytes (i + k)))

    -- it uses something, within the block
    pub turn_some : 0 < r.used
    turn_some = rw t.moves.used (keeps.some (rw length-drop (omega arith)))

    pub turn_within : i + r.used ≤ length block
    turn_within = omega (arith, t.moves.used, keeps.within, length-drop i block)

    pub feeding_more : turn_room ≤ length out - o → Feeding block from begun before (whole left store buffers) out' (i + r.used) r.end
    feeding_more room =
        let x = turn_of w (drop i block) in
        record {
          text = now.text ++ x.move.text;
          put = then now.put t.moves.put;
          sound = rw t.moves.state keeps.sound;
          long = rw t.joined (keeps.long ∙ now.long);
          leads = λ room' j rest v e run.
              let left : length before - o - length x.move.text ≡ room' =
              omega (arith, t.moves.put.place, t.moves.put.room, put_length now.put) in
              let on : Runs block (length before - o - length x.move.text) (i + x.move.used) (after x) rest j v =
              rw (left, ← t.moves.used, ← t.moves.state, ← t.kept, ← t.joined) run in
              let here = now.leads (length before - o) j (x.move.text ++ rest) v (omega (arith, now.put.room)) (turns less (omega (arith, put_length now.put)) on) in
              rw append_assoc here;
        }

  -- the end of the block, or of the room
  pub feeding_stops : (length block ≤ i) ⊎ (length out - o < turn_room)
      → Feeds block from begun before (record { state = w.state; used = i; end = o }) w.store w.buffers out
  feeding_stops why =
      let room : length before ≡ length out = sym (put_length now.put) in
      record {
        text = now.text;
        runs = rw append-nil at (now.leads (length out - o) i [] w (omega (arith, feeding_room, room)) (stops why));
        put = now.put;
      }

-- ---- what a run leaves, for the next one

-- it goes forward
runs_past : {block text : List ℕ} {room i j : ℕ} {w v : Whole} → Runs block room i w text j v → i ≤ j
runs_past (stops why) = omega arith
runs_past (turns less room r) = omega (arith, runs_past r)

module _ (block : List ℕ) (bytes : (k : ℕ) → get_or block k 0 < 256) where
  turn_at : (i : ℕ) (w : Whole) → SoundState w.state → length w.buffers ≡ all_buffers → Keeps w (drop i block) (turn_of w (drop i block))
  turn_at i w sound long = turn_keeps w (drop i block) sound long (λ k. rw get_or-drop (bytes (i + k)))

  -- the state stays sound, and the buffers as long as they are
  runs_keep : {text : List ℕ} {room i j : ℕ} {w v : Whole} → Runs block room i w text j v → SoundState w.state → length w.buffers ≡ all_buffers
      → SoundState v.state × (length v.buffers ≡ all_buffers)
  runs_keep (stops why) sound long = (sound, long)
  runs_keep (turns {i = i} {w = w} less room r) sound long =
      let x = turn_at i w sound long in
      runs_keep r x.sound (x.long ∙ long)

  -- where there is a byte and room, a byte is used
  runs_some : {room i j : ℕ} {w v : Whole} {text : List ℕ} → Runs block room i w text j v → SoundState w.state → length w.buffers ≡ all_buffers
      → i < length block → turn_room ≤ room → i < j
  runs_some (stops (inl end)) sound long less room = absurd (omega arith)
  runs_some (stops (inr full)) sound long less room = absurd (omega arith)
  runs_some (turns {i = i} {w = w} less room r) sound long less' room' =
      omega (arith, runs_past r, (turn_at i w sound long).some (rw length-drop (omega arith)))

  module _ {from : ℕ} {w : Whole} {before : List ℕ} {r : Progress} {store buffers out : List ℕ} (f : Feeds block from w before r store buffers out)
      (sound : SoundState w.state) (long : length w.buffers ≡ all_buffers) where
    pub fed_sound : SoundState r.state
    fed_sound = (runs_keep f.runs sound long).0

    pub fed_long : length buffers ≡ all_buffers
    fed_long = (runs_keep f.runs sound long).1

    pub fed_some : from < length block → turn_room ≤ length before → from < r.used
    fed_some less room = runs_some f.runs sound long less room

-- ---- one outcome

runs_one : {block text text' : List ℕ} {room i j j' : ℕ} {w v v' : Whole} → Runs block room i w text j v → Runs block room i w text' j' v'
    → (text ≡ text') × (j ≡ j') × (v ≡ v')
runs_one (stops why) (stops why') = (refl, refl, refl)
runs_one (stops (inl end)) (turns less room r) = absurd (omega arith)
runs_one (stops (inr full)) (turns less room r) = absurd (omega arith)
runs_one (turns less room r) (stops (inl end)) = absurd (omega arith)
runs_one (turns less room r) (stops (inr full)) = absurd (omega arith)
runs_one {block} (turns {i = i} {w = w} less room r) (turns less' room' r') =
    let same = runs_one r r' in
    (ap (λ (t : List ℕ). (turn_of w (drop i block)).move.text ++ t) same.0, same.1, same.2)

-- what a block gives is one thing: the result, and all that is lent
pub feeds_one : {block : List ℕ} {from : ℕ} {w : Whole} {before : List ℕ} {r r' : Progress} {store store' buffers buffers' out out' : List ℕ}
    → Feeds block from w before r store buffers out → Feeds block from w before r' store' buffers' out'
    → (r ≡ r') × (store ≡ store') × (buffers ≡ buffers') × (out ≡ out')
feeds_one {before = before} f g =
    let same = runs_one f.runs g.runs in
    let states = ap (λ (v : Whole). v.state) same.2 in
    let ends = f.put.place ∙ ap (λ (t : List ℕ). 0 + length t) same.0 ∙ sym g.put.place in (
      λ k. record { state = states k; used = same.1 k; end = ends k },
      ap (λ (v : Whole). v.store) same.2,
      ap (λ (v : Whole). v.buffers) same.2,
      f.put.laid ∙ ap (over before 0) same.0 ∙ sym g.put.laid,
    )
