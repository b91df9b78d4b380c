-- Every hub that calls reach from a fresh one is sound, whatever the store held at first.
use Prim.Native.Nat.{ℕ}
use mathlib.Core.List.{List, [], ◌∷◌}
use Rattle.meaning.specs.Table.{Call, line, overlong, reading, closing, waiting}
use Rattle.hub.specs.declared.Hub.{Hub}
use Rattle.hub.specs.Record.{fresh_hub, SoundHub}
use Rattle.hub.proofs.Keeps.{fresh_sound, line_sound, overlong_sound, reading_sound, closed_sound, wait_sound}
use Rattle.history.specs.Run.{called}
use Rattle.history.specs.Waiting.{reached}

-- each call keeps it
called_sound : (hub : Hub) (store : List ℕ) (call : Call) → SoundHub hub → SoundHub (called hub store call).hub
called_sound hub store (line connection room text) s = line_sound hub store connection text room s
called_sound hub store (overlong connection room) s = overlong_sound hub connection room s
called_sound hub store (reading port value) s = reading_sound hub port value s
called_sound hub store (closing connection) s = closed_sound hub connection s
called_sound hub store (waiting n) s = wait_sound hub n s

-- so do calls one after the other
stays_sound : (hub : Hub) (store : List ℕ) (l : List Call) → SoundHub hub → SoundHub (reached hub store l).hub
stays_sound hub store [] s = s
stays_sound hub store (call ∷ l) s =
    let c = called hub store call in
    stays_sound c.hub c.store l (called_sound hub store call s)

-- after any calls from a fresh one
pub reached_sound : (store : List ℕ) (calls : List Call) → SoundHub (reached fresh_hub store calls).hub
reached_sound store calls = stays_sound fresh_hub store calls fresh_sound
