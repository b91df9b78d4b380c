-- What a field that must be good gives, once it is asked for its fault's number.
use mathlib.Core.Path.{◌≡◌, ap, ◌∙◌}
use Rattle.std.proofs.Common.{ℕ, Option, Some, None, Result, Ok, Err}
use Rattle.std.specs.Result.{result_ok}
use Rattle.std.specs.Option.{ok_or}

pub asked_good : {A : Type 0} {o : Option A} {r : Result A ℕ} {x : A} → o ≡ result_ok r → r ≡ Ok x → o ≡ Some x
asked_good p e = p ∙ ap result_ok e

pub asked_bad : {A : Type 0} {o : Option A} {r : Result A ℕ} {n m : ℕ} → r ≡ ok_or o n → r ≡ Err m → (o ≡ None) × (m ≡ n)
asked_bad {o = None} p e = (cc, cc)
asked_bad {o = Some x} p e = absurd (cc)
