-- server: the events. An outcome of a piece is the answer with the server, the store, the buffers and the reply buffer.
use mathlib.Core.Path.{refl, sym, ◌∙◌}
use Rattle.server.specs.contracts as server
use Rattle.allowed.specs.Allowed.{One}
use Rattle.allowed.proofs.Law.{promised, told, both}

-- server::Server::fresh
pub server_fresh : One server.Server.fresh.ended (λ _ _. server.Server.fresh.spec)
server_fresh = told _ refl (λ _ _ _ _. refl)

-- server::Server::piece
pub server_piece : One server.Server.piece.ended (λ _ _. server.Server.piece.spec)
server_piece = promised _ refl (λ _ _ _ _ _ _ p q. (
  p.result ∙ sym q.result,
  both refl
      (both (p.kept ∙ sym q.kept)
      (both (p.joined ∙ sym q.joined) (both refl (both refl (both (p.laid ∙ sym q.laid) refl))))),
))

-- server::Server::closed
pub server_closed : One server.Server.closed.ended (λ _ _. server.Server.closed.spec)
server_closed = told _ refl (λ _ _ _ _. refl)

-- server::Server::reading
pub server_reading : One server.Server.reading.ended (λ _ _. server.Server.reading.spec)
server_reading = told _ refl (λ _ _ _ _. refl)

-- server::Server::wait
pub server_wait : One server.Server.wait.ended (λ _ _. server.Server.wait.spec)
server_wait = told _ refl (λ _ _ _ _. refl)

-- server::Server::carriers
pub server_carriers : One server.Server.carriers.ended (λ _ _. server.Server.carriers.spec)
server_carriers = told _ refl (λ _ _ _ _. refl)

-- server::Server::levels
pub server_levels : One server.Server.levels.ended (λ _ _. server.Server.levels.spec)
server_levels = told _ refl (λ _ _ _ _. refl)

-- server::Server::due
pub server_due : One server.Server.due.ended (λ _ _. server.Server.due.spec)
server_due = told _ refl (λ _ _ _ _. refl)
