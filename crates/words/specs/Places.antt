-- Document 01: "module 1 has infrared connectors 1 to 3, module 2 has relays 1 to 3".
use Rattle.std.specs.Prelude.{ℕ, cond, List, eqb}
use Rattle.laws.specs.Lists.{up_from}

abbrev pub connectors : ℕ
connectors = 3

abbrev pub relays : ℕ
relays = 3

-- how many ports one of the two modules has
abbrev pub ports_of : ℕ → ℕ
ports_of m = cond (eqb m 1) connectors relays

-- the ports of the connectors
abbrev pub ports : List ℕ
ports = up_from 1 connectors
