use mathlib.Core.Path.{◌≡◌, sym}
use native.Mathlib.Omega.{arith}
use lib.ListN.{length, get_or-eq_default}
use Rattle.reader.proofs.pair_of.Goals as goal

pub returns-else-i-lt-LETTERS : goal.returns-else-i-lt-LETTERS
returns-else-i-lt-LETTERS c =
    let long : length c.args.letters.pairs ≡ 15 = c.well_formed.0.1.1.1.0.1.0.1 in
    sym (get_or-eq_default c.args.letters.pairs _ (omega (arith, long)))
