-- hub: the calls. An outcome of a line is the answer with the change, the store and the reply buffer.
use mathlib.Core.Path.{refl, sym, ◌∙◌}
use Rattle.hub.specs.contracts as hub
use Rattle.allowed.specs.Allowed.{One}
use Rattle.allowed.proofs.Law.{promised, told, both}

-- hub::Hub::fresh
pub hub_fresh : One hub.Hub.fresh.ended (λ _ _. hub.Hub.fresh.spec)
hub_fresh = told _ refl (λ _ _ _ _. refl)

-- hub::Hub::line
pub hub_line : One hub.Hub.line.ended (λ _ _. hub.Hub.line.spec)
hub_line = promised _ refl (λ _ _ _ _ _ _ p q. (
  p.writes.result ∙ sym q.writes.result,
  both refl (both (p.kept ∙ sym q.kept) (both refl (both refl (both (p.writes.laid ∙ sym q.writes.laid) refl)))),
))

-- hub::Hub::overlong_line
pub hub_overlong_line : One hub.Hub.overlong_line.ended (λ _ _. hub.Hub.overlong_line.spec)
hub_overlong_line = promised _ refl (λ _ _ _ _ _ _ p q. (p.result ∙ sym q.result, both refl (both (p.laid ∙ sym q.laid) refl)))

-- hub::Hub::reading
pub hub_reading : One hub.Hub.reading.ended (λ _ _. hub.Hub.reading.spec)
hub_reading = told _ refl (λ _ _ _ _. refl)

-- hub::Hub::closed
pub hub_closed : One hub.Hub.closed.ended (λ _ _. hub.Hub.closed.spec)
hub_closed = told _ refl (λ _ _ _ _. refl)

-- hub::Hub::wait
pub hub_wait : One hub.Hub.wait.ended (λ _ _. hub.Hub.wait.spec)
hub_wait = told _ refl (λ _ _ _ _. refl)

-- hub::Hub::carriers
pub hub_carriers : One hub.Hub.carriers.ended (λ _ _. hub.Hub.carriers.spec)
hub_carriers = told _ refl (λ _ _ _ _. refl)

-- hub::Hub::levels
pub hub_levels : One hub.Hub.levels.ended (λ _ _. hub.Hub.levels.spec)
hub_levels = told _ refl (λ _ _ _ _. refl)

-- hub::Hub::applied
pub hub_applied : One hub.Hub.applied.ended (λ _ _. hub.Hub.applied.spec)
hub_applied = told _ refl (λ _ _ _ _. refl)

-- hub::Hub::write_completion
pub hub_write_completion : One hub.Hub.write_completion.ended (λ _ _. hub.Hub.write_completion.spec)
hub_write_completion = promised _ refl (λ _ _ _ _ _ _ p q. (p.result ∙ sym q.result, both refl (both (p.laid ∙ sym q.laid) refl)))

-- hub::completions::Completions::none
pub hub_no_completions : One hub.completions.Completions.none.ended (λ _ _. hub.completions.Completions.none.spec)
hub_no_completions = told _ refl (λ _ _ _ _. refl)

-- hub::completions::Completions::with
pub hub_completions_with : One hub.completions.Completions.with.ended (λ _ _. hub.completions.Completions.with.spec)
hub_completions_with = told _ refl (λ _ _ _ _. refl)
