use lib.ListN.{length}
use Rattle.laws.proofs.Put.{byte}
use Rattle.text.proofs.Decimals.{decimal_small, decimal_longer, put_last}
use mathlib.Core.Path.{ap}
use native.Mathlib.Omega.{arith}
use Rattle.text.proofs.write.+put_digits.Goals as goal

pub bounds-buf-at : goal.bounds-buf-at
bounds-buf-at t c = let e = ap length (decimal_small c.args.n c.if-n-lt10.true) in omega arith

pub returns-then-n-lt10 : goal.returns-then-n-lt10
returns-then-n-lt10 t c = let e = decimal_small c.args.n c.if-n-lt10.true in rw e (byte _ _ _ (omega (arith, ap length e)))

pub put_digits-last-requires : goal.put_digits-last-requires
put_digits-last-requires t c = let e = decimal_longer c.args.n c.if-n-lt10.false c.ranges.n.fits in omega arith

pub bounds-buf-last : goal.bounds-buf-last
bounds-buf-last t c =
    let e = decimal_longer c.args.n c.if-n-lt10.false c.ranges.n.fits in
    let r = c.put_digits-last.ensures.place in
    omega arith

pub returns : goal.returns
returns t c = put_last c.if-n-lt10.false c.ranges.n.fits c.put_digits-last.ensures (omega arith)
