-- Document 01: "for each input there is one allowed result and one allowed content of lent memory afterwards, errors as well." It is said of the
-- contract that a function is proved to meet, its `spec`. A function f is given by its `ended`: the signature, and what its parameters leave at exit.
use Rattle.std.specs.Prelude.{◌≡◌}
use seplogic.Ra.Ura.{Ura}
use base.Logic.{SProp, ex, sep}
use contract.Lifetimes.{Lfts}
use contract.Monad.{fact, Fun}
use denote.Triple.Clauses.{Ended, Lasts, lasts}
use denote.Triple.Entry.{Args, Res}
use denote.Triple.Spec.{Spec}
use types.Logic.{Logic, sem}
use prog.Memory.{Memory}
use prog.Routine.{Routine}

-- what may be said of a call of f: of what it is given (lifetimes and arguments), its result, and the last content of the memory lent to it
abbrev pub Promise : Ended → Type 1
Promise f = (κs : Lfts f.signature.lifetimes) (given : Args f.signature κs) → Res f.signature κs → Lasts f κs given → Type 0

-- whatever a call is given, two results that a promise allows are equal, and so are the two contents of lent memory
abbrev pub AllowsOne : (f : Ended) → Promise f → Type 0
AllowsOne f promise =
    (κs : Lfts f.signature.lifetimes) (given : Args f.signature κs) (r r' : Res f.signature κs) (m m' : Lasts f κs given)
    → promise κs given r m → promise κs given r' m' → (r ≡ r') × (m ≡ m')

-- a contract of f, in any model of the logic
abbrev pub Contract : Ended → Type 2
Contract f =
    (M : Type 1) (𝓤 : Ura M) (𝓛 : Logic 𝓤) → (Memory → SProp 𝓤) → (Routine → Fun 𝓤) → Spec 𝓤 f.signature

abbrev pub Ensures : (f : Ended) → Contract f → Type 2
Ensures f contract =
    (M : Type 1) (𝓤 : Ura M) (𝓛 : Logic 𝓤) (mem : Memory → SProp 𝓤) (run : Routine → Fun 𝓤)
    (κs : Lfts f.signature.lifetimes) (given : Args f.signature κs)
    → (contract M 𝓤 𝓛 mem run κs given).ghost → Res f.signature κs → SProp 𝓤

-- the contract's `ensures` is the promise, no more and no less: there is a last content m of lent memory, and the promise holds of the result and m
abbrev pub Promises : (f : Ended) → Contract f → Promise f → Type 2
Promises f contract promise =
    ◌≡◌ {A = Ensures f contract} (λ M 𝓤 𝓛 mem run κs given. (contract M 𝓤 𝓛 mem run κs given).ensures)
    (λ M 𝓤 𝓛 mem run κs given g r.
    ex 𝓤 (λ (m : Lasts f κs given). sep 𝓤 (sem 𝓛 (lasts f κs given m)) (fact 𝓤 (promise κs given r m))))

-- a contract of f allows one outcome of each call
pub record One (f : Ended) (contract : Contract f) : Type 2 where
  pub promise : Promise f
  pub promises : Promises f contract promise
  pub one : AllowsOne f promise
