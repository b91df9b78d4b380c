-- The carrier along counts written one behind the other: each turns it.
use Prim.Native.Nat.{ℕ, zero, suc, ◌+◌, ◌-◌, ◌*◌, ◌<◌}
use mathlib.Core.Path.{◌≡◌, refl, ap, ◌∙◌}
use mathlib.Core.Bool.{Bool, true, not}
use mathlib.Core.List.{List, [], ◌∷◌, ◌++◌}
use native.Mathlib.Omega.{arith}
use lib.Dec.{ltb}
use lib.ListN.{length}
use borrow.Author.Tests.{le-ltb, ltb-false}
use Rattle.laws.proofs.Choice.{by_test}
use Rattle.words.specs.declared.Pair.{Pair}
use Rattle.words.specs.Pairs.{counts_of}
use Rattle.meaning.specs.Time.{in_ticks, on_at, lasts}
use Rattle.pace.specs.Pace.{periods_of}
use Rattle.laws.specs.Lists.{times}
use Rattle.pace.proofs.Summing.{lasts_counts}

-- on or off, turned so many times
abbrev pub turned : ℕ → Bool → Bool
turned zero on = on
turned (suc n) on = turned n (not on)

-- within the first counts, those behind do not matter
pub on_before : (on : Bool) (a l : List ℕ) (x : ℕ) → x < in_ticks (lasts a) → on_at on (a ++ l) x ≡ on_at on a x
on_before on [] l x h = absurd (omega arith)
on_before on (y ∷ a) l x h =
    by_test (ltb x (y * 1000000)) (λ e. rw e)
    (λ e. rw e (on_before (not on) a l (x - y * 1000000) (omega (arith, ltb-false))))

-- and behind them each has turned it
pub on_behind : (on : Bool) (a l : List ℕ) (x : ℕ) → on_at on (a ++ l) (in_ticks (lasts a) + x) ≡ on_at (turned (length a) on) l x
on_behind on [] l x = ap (on_at on l) (omega arith)
on_behind on (y ∷ a) l x =
    let e : in_ticks (lasts (y ∷ a)) + x - y * 1000000 ≡ in_ticks (lasts a) + x = omega arith in
    rw (le-ltb (in_ticks (lasts (y ∷ a)) + x) (y * 1000000) (omega arith), e) (on_behind (not on) a l x)

-- pairs turn it twice each
even_turns : (a : List Pair) → turned (length (counts_of a)) true ≡ true
even_turns [] = refl
even_turns (p ∷ a) = even_turns a

pub on_pairs : (a : List Pair) (l : List ℕ) (x : ℕ) → on_at true (counts_of a ++ l) (in_ticks (periods_of a) + x) ≡ on_at true l x
on_pairs a l x = rw (← lasts_counts a) (on_behind true (counts_of a) l x ∙ rw (even_turns a))

pub on_times : (n q : ℕ) (ps : List Pair) (y : ℕ) → q < n → y < in_ticks (periods_of ps)
    → on_at true (times n (counts_of ps)) (q * in_ticks (periods_of ps) + y) ≡ on_at true (counts_of ps) y
on_times zero q ps y l h = absurd (omega arith)
on_times (suc n) zero ps y l h =
    ap (on_at true (counts_of ps ++ times n (counts_of ps))) (omega arith)
    ∙ on_before true (counts_of ps) (times n (counts_of ps)) y (omega (arith, lasts_counts ps))
on_times (suc n) (suc q) ps y l h =
    ap (on_at true (counts_of ps ++ times n (counts_of ps))) (omega arith)
    ∙ on_pairs ps (times n (counts_of ps)) (q * in_ticks (periods_of ps) + y) ∙ on_times n q ps y (omega arith) h
