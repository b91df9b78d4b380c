-- Laws of the limits: what is legal, and the smallest legal count.
use Prim.Native.Nat.{ℕ, ◌+◌, ◌*◌, ◌/◌, ◌≤◌, ◌<◌}
use mathlib.Core.Path.{◌≡◌, sym, ap, ◌∙◌}
use mathlib.Core.Bool.{true, false, cond}
use native.Mathlib.Omega.{arith}
use borrow.Author.Tests.{ltb-true, ltb-false, leb-true, lt-ltb, le-ltb, le-leb, lt-leb}
use lib.Dec.{ltb}
use Rattle.laws.proofs.Choice.{by_test, not_both, guard}
use Rattle.std.specs.Prelude.{Result, Ok, Err}
use Rattle.code.specs.Limits.{legal, freq_in_range, IsSmallest, SmallestCount}

-- what a legal count is
pub record Legal (freq count : ℕ) : Type 0 where
  pub low : 4 ≤ count
  pub high : count ≤ 50000
  pub long : freq ≤ 12500 * count

pub is_legal : {freq count : ℕ} → Legal freq count → legal freq count ≡ true
unfolding legal
is_legal {freq} {count} l =
    rw (le-ltb count 4 l.low, le-ltb 50000 count l.high) (le-leb freq (12500 * count) l.long)

pub legal_is : {freq count : ℕ} → legal freq count ≡ true → Legal freq count
unfolding legal
legal_is {freq} {count} e =
    let low = guard (ltb count 4) _ e in
    let high = guard (ltb 50000 count) _ low.1 in
    record {
      low = ltb-false count 4 low.0;
      high = ltb-false 50000 count high.0;
      long = leb-true freq (12500 * count) high.1;
    }

pub not_legal : {freq count : ℕ} → (Legal freq count → ⊥) → legal freq count ≡ false
not_legal {freq} {count} never = by_test (legal freq count) (λ e. absurd (never (legal_is e))) (λ e. e)

-- ---- the smallest legal count
pub too_low : {freq : ℕ} → freq < 15000 → freq_in_range freq ≡ false
unfolding freq_in_range
too_low {freq} h = rw (lt-ltb freq 15000 h)

pub too_high : {freq : ℕ} → 500000 < freq → freq_in_range freq ≡ false
unfolding freq_in_range
too_high {freq} h = rw (le-ltb freq 15000 (omega arith)) (lt-leb freq 500000 h)

in_range : {freq : ℕ} → 15000 ≤ freq → freq ≤ 500000 → freq_in_range freq ≡ true
unfolding freq_in_range
in_range {freq} l h = rw (le-ltb freq 15000 l) (le-leb freq 500000 h)

-- The search: nothing below `count` is legal, and `count` or one of so many more behind it is.
pub record Searching (freq count more : ℕ) : Type 0 where
  pub low : 4 ≤ count
  pub high : count + more ≤ 50000
  pub passed : (k : ℕ) → k < count → legal freq k ≡ false
  pub reached : freq ≤ 12500 * (count + more)

pub search_begins : {freq : ℕ} → freq ≤ 500000 → Searching freq 4 63
search_begins h =
    record { low = omega arith; high = omega arith; passed = λ k b. not_legal (λ g. omega (arith, g.low, b)); reached = omega (arith, h) }

-- one look at the last count of the first half tells which half it is in
pub search_halves : {freq count next : ℕ} (more : ℕ) → Searching freq count (more + more + 1)
    → next ≡ cond (ltb (12500 * (count + more)) freq) (count + more + 1) count → Searching freq next more
search_halves {freq} {count} {next} more s e =
    by_test
    (ltb (12500 * (count + more)) freq)
    (λ t.
    rw (e, t)
    (record {
      low = omega (arith, s.low);
      high = omega (arith, s.high);
      passed = λ k b. not_legal (λ g. omega (arith, g.long, b, ltb-true (12500 * (count + more)) freq t));
      reached = omega (arith, s.reached);
    }))
    (λ t.
    rw (e, t)
    (record { low = s.low; high = omega (arith, s.high); passed = s.passed; reached = ltb-false (12500 * (count + more)) freq t }))

pub search_ends : {freq count : ℕ} → 15000 ≤ freq → freq ≤ 500000 → Searching freq count 0 → SmallestCount freq (Ok count)
search_ends l h s = (
  record {
    allowed = is_legal (record { low = s.low; high = omega (arith, s.high); long = omega (arith, s.reached) });
    least = s.passed;
  },
  in_range l h,
)

-- a division gives the same
pub shortest_count : {freq : ℕ} → 15000 ≤ freq → freq ≤ 500000 → 4 ≤ (freq + 12499) / 12500
    → SmallestCount freq (Ok ((freq + 12499) / 12500))
shortest_count {freq} l h s =
    search_ends
    l
    h
    (record { low = s; high = omega arith; passed = λ k b. not_legal (λ g. omega (arith, g.long, b)); reached = omega arith })

-- two answers that the promise allows are equal
smallest_unique : (freq c d : ℕ) → IsSmallest freq c → IsSmallest freq d → c ≡ d
smallest_unique freq c d p q =
    by_test (ltb c d) (λ e. not_both p.allowed (q.least c (ltb-true c d e)))
    (λ e. by_test (ltb d c) (λ f. not_both q.allowed (p.least d (ltb-true d c f)))
    (λ f. omega (arith, ltb-false c d e, ltb-false d c f)))

pub one_smallest : (freq : ℕ) (r s : Result ℕ ℕ) → SmallestCount freq r → SmallestCount freq s → r ≡ s
one_smallest freq (Err e) (Err f) p q = ap Err (p.0 ∙ sym q.0)
one_smallest freq (Err e) (Ok d) p q = not_both q.1 p.1
one_smallest freq (Ok c) (Err f) p q = not_both p.1 q.1
one_smallest freq (Ok c) (Ok d) p q = ap Ok (smallest_unique freq c d p.0 q.0)
