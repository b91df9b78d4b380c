use lib.ListN.{length}
use mathlib.Core.Path.{refl, ap}
use native.Mathlib.Omega.{arith}
use Rattle.laws.proofs.Put.{put_length}
use Rattle.text.proofs.Decimals.{decimal_small}
use Rattle.text.proofs.write.Out.number.Goals as goal

pub byte-requires : goal.byte-requires
byte-requires c = omega (arith, c.requires, ap length (decimal_small c.args.n c.if-n-lt10.true))

pub returns-then-n-lt10 : goal.returns-then-n-lt10
returns-then-n-lt10 c = rw (decimal_small c.args.n c.if-n-lt10.true) c.byte.ensures

pub returns : goal.returns
returns c = let put = c.put_digits-self.ensures in record { put = put; size = put_length put; same = refl; stays = refl }
