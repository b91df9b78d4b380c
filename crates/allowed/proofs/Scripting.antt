-- script: a line of the bench's script read, and done. An outcome of a turn is the result, the store and the memory that is printed into.
use mathlib.Core.Path.{refl, sym, ◌∙◌}
use Rattle.script.specs.contracts as script
use Rattle.allowed.specs.Allowed.{One}
use Rattle.allowed.proofs.Law.{promised, told, both}

-- script::input::input_of
pub script_input_of : One script.input.input_of.ended (λ _ _. script.input.input_of.spec)
script_input_of = told _ refl (λ _ _ _ _. refl)

-- script::turn::line
pub script_line : One script.turn.line.ended (λ _ _. script.turn.line.spec)
script_line = promised _ refl (λ _ _ _ _ _ _ p q. (
  (λ i. record { used = (p.printed.place ∙ sym q.printed.place) i; change = (p.change ∙ sym q.change) i }),
  both refl (both (p.kept ∙ sym q.kept) (both refl (both refl (both refl (both (p.printed.laid ∙ sym q.printed.laid) refl))))),
))

-- script::turn::reading
pub script_reading : One script.turn.reading.ended (λ _ _. script.turn.reading.spec)
script_reading = promised _ refl (λ _ _ _ _ _ _ p q. (
  (λ i. record { used = (p.printed.place ∙ sym q.printed.place) i; hub = (p.hub ∙ sym q.hub) i }),
  both refl (both refl (both refl (both (p.printed.laid ∙ sym q.printed.laid) refl))),
))

-- script::turn::closing
pub script_closing : One script.turn.closing.ended (λ _ _. script.turn.closing.spec)
script_closing = promised _ refl (λ _ _ _ _ _ _ p q. (
  (λ i. record { used = (p.printed.place ∙ sym q.printed.place) i; hub = (p.hub ∙ sym q.hub) i }),
  both refl (both refl (both (p.printed.laid ∙ sym q.printed.laid) refl)),
))

-- script::turn::waiting
pub script_waiting : One script.turn.waiting.ended (λ _ _. script.turn.waiting.spec)
script_waiting = promised _ refl (λ _ _ _ _ _ _ p q. (
  (λ i. record { used = (p.printed.place ∙ sym q.printed.place) i; hub = (p.hub ∙ sym q.hub) i }),
  both refl (both refl (both (p.printed.laid ∙ sym q.printed.laid) refl)),
))

-- script::turn::other
pub script_other : One script.turn.other.ended (λ _ _. script.turn.other.spec)
script_other = promised _ refl (λ _ _ _ _ _ _ p q. (p.place ∙ sym q.place, both (p.laid ∙ sym q.laid) refl))
