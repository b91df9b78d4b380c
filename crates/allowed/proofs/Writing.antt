-- text, writer, reply, composer and lines: what is written into lent memory. An outcome is the result and the memory after it.
use mathlib.Core.Path.{refl, sym, ◌∙◌}
use Rattle.text.specs.contracts as text
use Rattle.writer.specs.contracts as writer
use Rattle.reply.specs.contracts as reply
use Rattle.composer.specs.contracts as composer
use Rattle.lines.specs.contracts as lines
use Rattle.text.proofs.Appended.{one_end}
use Rattle.allowed.specs.Allowed.{One}
use Rattle.allowed.proofs.Law.{promised, told, both}

-- text::write::put_word
pub text_put_word : One text.write.put_word.ended (λ _ _. text.write.put_word.spec)
text_put_word = promised _ refl (λ _ _ _ _ _ _ p q. (p.place ∙ sym q.place, both (p.laid ∙ sym q.laid) refl))

-- text::write::put_number
pub text_put_number : One text.write.put_number.ended (λ _ _. text.write.put_number.spec)
text_put_number = promised _ refl (λ _ _ _ _ _ _ p q. (p.place ∙ sym q.place, both (p.laid ∙ sym q.laid) refl))

-- text::write::Out::byte
pub text_out_byte : One text.write.Out.byte.ended (λ _ _. text.write.Out.byte.spec)
text_out_byte = promised _ refl (λ _ _ _ _ _ _ p q. (refl, both (one_end p q) refl))

-- text::write::Out::word
pub text_out_word : One text.write.Out.word.ended (λ _ _. text.write.Out.word.spec)
text_out_word = promised _ refl (λ _ _ _ _ _ _ p q. (refl, both (one_end p q) refl))

-- text::write::Out::number
pub text_out_number : One text.write.Out.number.ended (λ _ _. text.write.Out.number.spec)
text_out_number = promised _ refl (λ _ _ _ _ _ _ p q. (refl, both (one_end p q) refl))

-- writer::sendir::write_sendir
pub writer_write_sendir : One writer.sendir.write_sendir.ended (λ _ _. writer.sendir.write_sendir.spec)
writer_write_sendir = promised _ refl (λ _ _ _ _ _ _ p q. (p.answer ∙ sym q.answer, both (p.laid ∙ sym q.laid) refl))

-- reply::put_address
pub reply_put_address : One reply.put_address.ended (λ _ _. reply.put_address.spec)
reply_put_address = promised _ refl (λ _ _ _ _ _ _ p q. (refl, both (one_end p.0 q.0) refl))

-- reply::put_last
pub reply_put_last : One reply.put_last.ended (λ _ _. reply.put_last.spec)
reply_put_last = promised _ refl (λ _ _ _ _ _ _ p q. (refl, both (one_end p q) refl))

-- reply::put_two
pub reply_put_two : One reply.put_two.ended (λ _ _. reply.put_two.spec)
reply_put_two = promised _ refl (λ _ _ _ _ _ _ p q. (refl, both (one_end p q) refl))

-- reply::put_mode
pub reply_put_mode : One reply.put_mode.ended (λ _ _. reply.put_mode.spec)
reply_put_mode = promised _ refl (λ _ _ _ _ _ _ p q. (refl, both (one_end p q) refl))

-- reply::put_reply
pub reply_put_reply : One reply.put_reply.ended (λ _ _. reply.put_reply.spec)
reply_put_reply = promised _ refl (λ _ _ _ _ _ _ p q. (p.place ∙ sym q.place, both (p.laid ∙ sym q.laid) refl))

-- composer::compose::compose
pub composer_compose : One composer.compose.compose.ended (λ _ _. composer.compose.compose.spec)
composer_compose = promised _ refl (λ _ _ _ _ _ _ p q. (p.answer ∙ sym q.answer, both (p.laid ∙ sym q.laid) refl))

-- composer::compose::compose_sendir
pub composer_compose_sendir : One composer.compose.compose_sendir.ended (λ _ _. composer.compose.compose_sendir.spec)
composer_compose_sendir = promised _ refl (λ _ _ _ _ _ _ p q. (p.answer ∙ sym q.answer, both (p.laid ∙ sym q.laid) refl))

-- lines::Assembler::fresh
pub lines_fresh : One lines.Assembler.fresh.ended (λ _ _. lines.Assembler.fresh.spec)
lines_fresh = told _ refl (λ _ _ _ _. refl)

-- lines::Assembler::take
pub lines_take : One lines.Assembler.take.ended (λ _ _. lines.Assembler.take.spec)
lines_take = promised _ refl (λ _ _ _ _ _ _ p q. (p.result ∙ sym q.result, both refl (both (p.laid ∙ sym q.laid) refl)))
