-- What the port writes over a stream, byte by byte: no block is known here. And how the program goes over the blocks that it reads.
use Rattle.std.specs.Prelude.{ℕ, ◌≤◌, List, [], ◌∷◌, ◌++◌, length}
use Rattle.port.specs.Turn.{Whole, after, turn_of}
use Rattle.port.specs.Run.{Runs}

-- the frames that were written, and what there is then
pub record Written : Type 0 where
  pub text : List ℕ
  pub left : Whole

abbrev pub writes : List ℕ → Whole → Written
writes text w = record { text = text; left = w }

-- one thing written, and then the next by what the first has left
abbrev pub onward : Written → (Whole → Written) → Written
onward x next = writes (x.text ++ (next x.left).text) (next x.left).left

-- each byte a turn
abbrev pub written : List ℕ → Whole → Written
written [] w = writes [] w
written (b ∷ s) w =
    let x = turn_of w (b ∷ []) in
    onward (writes x.move.text (after x)) (written s)

-- a block: runs, each with some room, until its end
pub data OverBlock (block : List ℕ) : ℕ → Whole → List ℕ → Whole → Type 0 where
  ended : {i : ℕ} {w : Whole} → length block ≤ i → OverBlock block i w [] w
  fed : {room i j : ℕ} {w u v : Whole} {text rest : List ℕ} → Runs block room i w text j u → OverBlock block j u rest v
      → OverBlock block i w (text ++ rest) v

-- blocks, one after the other
pub data OverBlocks : List (List ℕ) → Whole → List ℕ → Whole → Type 0 where
  none : {w : Whole} → OverBlocks [] w [] w
  next : {block : List ℕ} {blocks : List (List ℕ)} {w u v : Whole} {text rest : List ℕ} → OverBlock block 0 w text u → OverBlocks blocks u rest v
      → OverBlocks (block ∷ blocks) w (text ++ rest) v
