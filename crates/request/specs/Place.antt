-- Document 01: "module 1 has infrared connectors 1 to 3, module 2 has relays 1 to 3".
use Rattle.std.specs.Prelude.{ℕ, ◌+◌, cond, ltb}
use Rattle.words.specs.Places.{connectors}
use Rattle.request.specs.declared.Place.{Place}

abbrev pub place_of : ℕ → ℕ → Place
place_of m port = record { m = m; port = port }

-- "For 001, 002, 003, 015 and 017 the address is 0:0"
abbrev pub nowhere : Place
nowhere = place_of 0 0

-- the connector of a slot, counted from 0
abbrev pub connector_in : ℕ → Place
connector_in slot = cond (ltb slot connectors) (place_of 1 (slot + 1)) nowhere
