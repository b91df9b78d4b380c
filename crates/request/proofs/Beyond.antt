-- What a module or port of over six digits counts as is no module and no port: 002 and 003.
use Prim.Native.Nat.{ℕ}
use mathlib.Core.Path.{◌≡◌, refl}
use mathlib.Core.Bool.{true}
use Rattle.std.specs.Prelude.{Err}
use lib.Dec.{eqb}
use Rattle.laws.proofs.Choice.{by_test}
use Rattle.request.specs.declared.name.Name.{Name}
use Rattle.request.specs.declared.name.Name.TheVariants.{SetIr, GetIr, SetState, GetState, SendIr, StopIr, SetLamp, GetLamp}
use Rattle.request.specs.Place.{place_of}
use Rattle.request.specs.Address.{beyond, has_module, address_fault}

-- a module
pub long_module_002 : (n : Name) (port : ℕ) → address_fault n (place_of beyond port) ≡ Err 2
unfolding address_fault
long_module_002 SetIr port = refl
long_module_002 GetIr port = refl
long_module_002 SetState port = refl
long_module_002 GetState port = refl
long_module_002 SendIr port = refl
long_module_002 StopIr port = refl
long_module_002 SetLamp port = refl
long_module_002 GetLamp port = refl

-- a port
pub long_port_003 : (n : Name) (m : ℕ) → has_module n m ≡ true → address_fault n (place_of m beyond) ≡ Err 3
unfolding address_fault
long_port_003 n m h = rw h (by_test (eqb m 1) (λ e. rw e) (λ e. rw e))
