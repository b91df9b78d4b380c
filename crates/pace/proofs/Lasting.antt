-- What the pairs of an accepted code last in carrier periods: before a place, and from it on.
use Prim.Native.Nat.{ℕ, ◌+◌, ◌*◌, ◌≤◌, ◌<◌}
use mathlib.Core.Path.{◌≡◌, sym, ap, ◌∙◌}
use mathlib.Core.Bool.{true}
use mathlib.Core.List.{List, [], ◌∷◌, ◌++◌}
use native.Mathlib.Omega.{arith}
use lib.ListN.{length, get_or, take, drop, take-append-drop}
use lib.Seq.{drop-cons}
use Rattle.laws.specs.Lists.{all}
use Rattle.laws.proofs.Choice.{and_left, and_right}
use Rattle.laws.proofs.Lists.{all_at}
use Rattle.words.specs.declared.Pair.{Pair}
use Rattle.words.specs.Pairs.{pair}
use Rattle.code.specs.Limits.{legal, legal_pair}
use Rattle.code.proofs.Smallest.{Legal, legal_is}
use Rattle.code.specs.Accepted.{Accepted}
use Rattle.pace.specs.Pace.{periods_of}

periods_append : (ps qs : List Pair) → periods_of (ps ++ qs) ≡ periods_of ps + periods_of qs
periods_append [] qs = omega arith
periods_append (p ∷ ps) qs = omega (arith, periods_append ps qs)

pair_lasts : (freq : ℕ) (p : Pair) → legal_pair freq p ≡ true → (1 ≤ p.on + p.off) × (p.on + p.off ≤ 100000)
pair_lasts freq p e =
    let on : Legal freq p.on = legal_is (and_left (legal freq p.on) _ e) in
    let off : Legal freq p.off = legal_is (and_right (legal freq p.on) _ e) in
    (omega arith, omega arith)

periods_high : (freq : ℕ) (ps : List Pair) → all (legal_pair freq) ps ≡ true → periods_of ps ≤ length ps * 100000
periods_high freq [] e = omega arith
periods_high freq (p ∷ ps) e =
    omega (arith, (pair_lasts freq p (and_left (legal_pair freq p) _ e)).1, periods_high freq ps (and_right (legal_pair freq p) _ e))

pub periods_split : (k : ℕ) (ps : List Pair) → periods_of (take k ps) + periods_of (drop k ps) ≡ periods_of ps
periods_split k ps = sym (periods_append (take k ps) (drop k ps)) ∙ ap periods_of (take-append-drop k ps)

module _ {freq : ℕ} {ps : List Pair} (a : Accepted freq ps) (k : ℕ) where
  parts_high : periods_of (take k ps) + periods_of (drop k ps) ≤ 26000000
  parts_high = omega (arith, periods_split k ps, periods_high freq ps a.allowed, a.most)

  pub lead_high : periods_of (take k ps) ≤ 26000000
  lead_high = omega (arith, parts_high)

  pub tail_high : periods_of (drop k ps) ≤ 26000000
  tail_high = omega (arith, parts_high)

  pub tail_low : k < length ps → 1 ≤ periods_of (drop k ps)
  tail_low h =
      let none : Pair = pair 0 0 in
      let l = (pair_lasts freq (get_or ps k none) (all_at (legal_pair freq) ps k none a.allowed h)).0 in
      rw (drop-cons ps k none h) (omega arith)
