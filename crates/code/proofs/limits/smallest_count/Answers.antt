use mathlib.Core.Path.{refl}
use native.Mathlib.Omega.{arith}
use Rattle.code.proofs.Smallest.{too_low, too_high, Searching, search_begins, search_halves, search_ends}
use Rattle.code.proofs.limits.smallest_count.Goals as goal
use Rattle.code.proofs.limits.smallest_count.Goals.{After-past-count, After-past-count-2, After-past-count-3, After-past-count-4, After-past-count-5, After-past-count-6}

pub returns-then-freq-lt-LEAST_FREQ : goal.returns-then-freq-lt-LEAST_FREQ
returns-then-freq-lt-LEAST_FREQ c = (refl, too_low c.if-freq-lt-LEAST_FREQ.true)

pub returns-then-freq-gt-MOST_FREQ : goal.returns-then-freq-gt-MOST_FREQ
returns-then-freq-gt-MOST_FREQ c = (refl, too_high c.if-freq-gt-MOST_FREQ.true)

-- where the search is after each look
after-1 : (c : After-past-count) → Searching c.args.freq c.past-count.result 31
after-1 c = search_halves 31 (search_begins c.if-freq-gt-MOST_FREQ.false) c.past-count.ensures

after-2 : (c : After-past-count-2) → Searching c.args.freq c.past-count-2.result 15
after-2 c = search_halves 15 (after-1 c.before) c.past-count-2.ensures

after-3 : (c : After-past-count-3) → Searching c.args.freq c.past-count-3.result 7
after-3 c = search_halves 7 (after-2 c.before) c.past-count-3.ensures

after-4 : (c : After-past-count-4) → Searching c.args.freq c.past-count-4.result 3
after-4 c = search_halves 3 (after-3 c.before) c.past-count-4.ensures

after-5 : (c : After-past-count-5) → Searching c.args.freq c.past-count-5.result 1
after-5 c = search_halves 1 (after-4 c.before) c.past-count-5.ensures

after-6 : (c : After-past-count-6) → Searching c.args.freq c.past-count-6.result 0
after-6 c = search_halves 0 (after-5 c.before) c.past-count-6.ensures

pub past-count-requires : goal.past-count-requires
past-count-requires c = omega arith

pub past-count-requires-2 : goal.past-count-requires-2
past-count-requires-2 c = omega (arith, (after-1 c).high)

pub past-count-requires-3 : goal.past-count-requires-3
past-count-requires-3 c = omega (arith, (after-2 c).high)

pub past-count-requires-4 : goal.past-count-requires-4
past-count-requires-4 c = omega (arith, (after-3 c).high)

pub past-count-requires-5 : goal.past-count-requires-5
past-count-requires-5 c = omega (arith, (after-4 c).high)

pub past-count-requires-6 : goal.past-count-requires-6
past-count-requires-6 c = omega (arith, (after-5 c).high)

pub returns : goal.returns
returns c =
    search_ends c.if-freq-lt-LEAST_FREQ.false c.if-freq-gt-MOST_FREQ.false (after-6 c)
