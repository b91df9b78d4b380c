-- frames and output: a frame taken apart, and frames laid into lent memory. An outcome is the result, and the memory after it.
use mathlib.Core.Path.{refl, sym, ◌∙◌}
use Rattle.frames.specs.contracts as frames
use Rattle.output.specs.contracts as output
use Rattle.allowed.specs.Allowed.{One}
use Rattle.allowed.proofs.Law.{promised, told, both}

-- frames::Frame::piece_of
pub frames_piece_of : One frames.Frame.piece_of.ended (λ _ _. frames.Frame.piece_of.spec)
frames_piece_of = told _ refl (λ _ _ _ _. refl)

-- frames::Frame::passing
pub frames_passing : One frames.Frame.passing.ended (λ _ _. frames.Frame.passing.spec)
frames_passing = told _ refl (λ _ _ _ _. refl)

-- frames::Frame::part
pub frames_part : One frames.Frame.part.ended (λ _ _. frames.Frame.part.spec)
frames_part = told _ refl (λ _ _ _ _. refl)

-- frames::Frame::next
pub frames_next : One frames.Frame.next.ended (λ _ _. frames.Frame.next.spec)
frames_next = told _ refl (λ _ _ _ _. refl)

-- frames::Frame::read
pub frames_read : One frames.Frame.read.ended (λ _ _. frames.Frame.read.spec)
frames_read = told _ refl (λ _ _ _ _. refl)

-- output::put_refusal
pub output_put_refusal : One output.put_refusal.ended (λ _ _. output.put_refusal.spec)
output_put_refusal = promised _ refl (λ _ _ _ _ _ _ p q. (p.place ∙ sym q.place, both (p.laid ∙ sym q.laid) refl))

-- output::put_answer
pub output_put_answer : One output.put_answer.ended (λ _ _. output.put_answer.spec)
output_put_answer = promised _ refl (λ _ _ _ _ _ _ p q. (p.place ∙ sym q.place, both (p.laid ∙ sym q.laid) refl))

-- output::put_change
pub output_put_change : One output.put_change.ended (λ _ _. output.put_change.spec)
output_put_change = promised _ refl (λ _ _ _ _ _ _ p q. (p.place ∙ sym q.place, both (p.laid ∙ sym q.laid) refl))

-- output::put_completion
pub output_put_completion : One output.put_completion.ended (λ _ _. output.put_completion.spec)
output_put_completion = promised _ refl (λ _ _ _ _ _ _ p q. (p.place ∙ sym q.place, both (p.laid ∙ sym q.laid) refl))

-- output::put_completions
pub output_put_completions : One output.put_completions.ended (λ _ _. output.put_completions.spec)
output_put_completions = promised _ refl (λ _ _ _ _ _ _ p q. (p.place ∙ sym q.place, both (p.laid ∙ sym q.laid) refl))

-- output::put_carriers
pub output_put_carriers : One output.put_carriers.ended (λ _ _. output.put_carriers.spec)
output_put_carriers = promised _ refl (λ _ _ _ _ _ _ p q. (p.place ∙ sym q.place, both (p.laid ∙ sym q.laid) refl))

-- output::put_levels
pub output_put_levels : One output.put_levels.ended (λ _ _. output.put_levels.spec)
output_put_levels = promised _ refl (λ _ _ _ _ _ _ p q. (p.place ∙ sym q.place, both (p.laid ∙ sym q.laid) refl))

-- output::put_not_due
pub output_put_not_due : One output.put_not_due.ended (λ _ _. output.put_not_due.spec)
output_put_not_due = promised _ refl (λ _ _ _ _ _ _ p q. (p.place ∙ sym q.place, both (p.laid ∙ sym q.laid) refl))

-- output::put_due
pub output_put_due : One output.put_due.ended (λ _ _. output.put_due.spec)
output_put_due = promised _ refl (λ _ _ _ _ _ _ p q. (p.place ∙ sym q.place, both (p.laid ∙ sym q.laid) refl))
