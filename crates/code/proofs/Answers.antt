-- What the answer of read_code says of the reading.
use Prim.Native.Nat.{ℕ}
use mathlib.Core.Path.{◌≡◌, refl, ap}
use lib.ListN.{length}
use Rattle.laws.proofs.Choice.{clash}
use Rattle.code.specs.declared.Code.TheVariants.{Fault, Pairs}
use Rattle.code.specs.Read.{Reading, pairs, fault, read_of, found}

-- so many pairs are those that were found
pub read_pairs : (x : Reading) {n : ℕ} → read_of x ≡ Pairs n → (x ≡ pairs (found x)) × (length (found x) ≡ n)
read_pairs (pairs ps) e = (refl, cc)
read_pairs (fault number ps) e = clash (cc)

-- a fault is the first, behind the pairs that were found
pub read_fault : (x : Reading) {k : ℕ} → read_of x ≡ Fault k → x ≡ fault k (found x)
read_fault (pairs ps) e = clash (cc)
read_fault (fault number ps) {k} e =
    let same : number ≡ k = cc in
    ap (λ (n : ℕ). fault n ps) same
