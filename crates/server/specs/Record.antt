-- The record of a server: the hub, and an assembler for each connection. Document 01: "Connections are numbered 0 to 7".
use Rattle.std.specs.Prelude.{ℕ, ◌*◌, ◌<◌, List, get_or, replicate, take, drop}
use Rattle.lines.specs.declared.Assembler.{Assembler}
use Rattle.lines.specs.Take.{fresh_assembler, SoundAssembler}
use Rattle.hub.specs.declared.Hub.{Hub}
use Rattle.hub.specs.Record.{fresh_hub, SoundHub}
use Rattle.server.specs.declared.Server.{Server}

abbrev pub connections : ℕ
connections = 8

-- the bytes of a connection's buffer, and of all of them
abbrev pub buffer_size : ℕ
buffer_size = 4096

abbrev pub all_buffers : ℕ
all_buffers = connections * buffer_size

abbrev pub server_of : Hub → List Assembler → Server
server_of hub assemblers = record { hub = hub; assemblers = assemblers }

abbrev pub fresh_server : Server
fresh_server = server_of fresh_hub (replicate connections fresh_assembler)

abbrev pub assembler_at : Server → ℕ → Assembler
assembler_at s connection = get_or s.assemblers connection fresh_assembler

-- the bytes of a connection's unfinished line stand in its part of the buffers
abbrev pub buffer_at : List ℕ → ℕ → List ℕ
buffer_at buffers connection = take buffer_size (drop (connection * buffer_size) buffers)

-- what every server has that a fresh one and the calls gave
pub record SoundServer (s : Server) : Type 0 where
  pub hub : SoundHub s.hub
  pub each : (connection : ℕ) → connection < connections → SoundAssembler (assembler_at s connection)
