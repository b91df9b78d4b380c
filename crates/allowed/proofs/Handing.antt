-- reader: a code's text handed out pair by pair. An outcome of `next` is what is handed out, and the reader after it.
use mathlib.Core.Path.{refl, sym, ◌∙◌, ap}
use Rattle.reader.specs.contracts as reader
use Rattle.reader.specs.Hands.{moved_to}
use Rattle.allowed.specs.Allowed.{One}
use Rattle.allowed.proofs.Law.{promised, told, both}

-- reader::Progress::fresh
pub reader_fresh : One reader.Progress.fresh.ended (λ _ _. reader.Progress.fresh.spec)
reader_fresh = told _ refl (λ _ _ _ _. refl)

-- reader::hand_out
pub reader_hand_out : One reader.hand_out.ended (λ _ _. reader.hand_out.spec)
reader_hand_out = told _ refl (λ _ _ _ _. refl)

-- reader::CodeText::of
pub reader_of : One reader.CodeText.of.ended (λ _ _. reader.CodeText.of.spec)
reader_of = told _ refl (λ _ _ _ _. refl)

-- reader::CodeText::next
pub reader_next : One reader.CodeText.next.ended (λ _ _. reader.CodeText.next.spec)
reader_next = promised _ refl (λ _ given _ _ _ _ p q.
    let same = p.0 ∙ sym q.0 in
    (same, both (p.1 ∙ ap (λ r. moved_to given.0.now r.at) same ∙ sym q.1) refl))
