-- How each public function's contract is shown to allow one outcome. The promise itself is not written again: it is `_`, which the check reads off
-- the contract, and `refl` is the proof that the contract says just this.
use mathlib.Core.Path.{◌≡◌, sym, ◌∙◌}
use contract.Lifetimes.{Lfts}
use denote.Triple.Clauses.{Ended, Lasts}
use denote.Triple.Entry.{Args, Res}
use Rattle.allowed.specs.Allowed.{Promise, AllowsOne, Contract, Promises, One}

module _ {f : Ended} {contract : Contract f} where
  pub promised : (promise : Promise f) → Promises f contract promise → AllowsOne f promise → One f contract
  promised promise says one = record { promise = promise; promises = says; one = one }

  -- a contract that says what the result is, of a function that is lent no memory to write
  pub told : (value : (κs : Lfts f.signature.lifetimes) → Args f.signature κs → Res f.signature κs)
      → Promises f contract (λ κs given r m. r ≡ value κs given)
      → ((κs : Lfts f.signature.lifetimes) (given : Args f.signature κs) (m m' : Lasts f κs given) → m ≡ m')
      → One f contract
  told value says unlent = promised _ says (λ κs given r r' m m' p q. (p ∙ sym q, unlent κs given m m'))

-- lent memory, one parameter's and that of the parameters behind it
pub both : {A B : Type 0} {m m' : A × B} → m.0 ≡ m'.0 → m.1 ≡ m'.1 → m ≡ m'
both p q = λ i. (p i, q i)
