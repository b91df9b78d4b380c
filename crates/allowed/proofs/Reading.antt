-- text, code, decoder, request and command: what is read. An outcome of a code or a command is what it is read as, and the lent counts.
use mathlib.Core.Path.{refl, sym, ◌∙◌}
use Rattle.text.specs.contracts as text
use Rattle.code.specs.contracts as code
use Rattle.decoder.specs.contracts as decoder
use Rattle.request.specs.contracts as request
use Rattle.command.specs.contracts as command
use Rattle.code.proofs.Smallest.{one_smallest}
use Rattle.allowed.specs.Allowed.{One}
use Rattle.allowed.proofs.Law.{promised, told, both}

-- text::number::is_digit
pub text_is_digit : One text.number.is_digit.ended (λ _ _. text.number.is_digit.spec)
text_is_digit = told _ refl (λ _ _ _ _. refl)

-- text::number::number_at
pub text_number_at : One text.number.number_at.ended (λ _ _. text.number.number_at.spec)
text_number_at = told _ refl (λ _ _ _ _. refl)

-- text::field::byte_at
pub text_byte_at : One text.field.byte_at.ended (λ _ _. text.field.byte_at.spec)
text_byte_at = told _ refl (λ _ _ _ _. refl)

-- text::field::ends_field
pub text_ends_field : One text.field.ends_field.ended (λ _ _. text.field.ends_field.spec)
text_ends_field = told _ refl (λ _ _ _ _. refl)

-- text::field::after_comma
pub text_after_comma : One text.field.after_comma.ended (λ _ _. text.field.after_comma.spec)
text_after_comma = told _ refl (λ _ _ _ _. refl)

-- text::field::field_is
pub text_field_is : One text.field.field_is.ended (λ _ _. text.field.field_is.spec)
text_field_is = told _ refl (λ _ _ _ _. refl)

-- text::field::field_within
pub text_field_within : One text.field.field_within.ended (λ _ _. text.field.field_within.spec)
text_field_within = told _ refl (λ _ _ _ _. refl)

-- code::letters::Letters::none
pub code_letters_none : One code.letters.Letters.none.ended (λ _ _. code.letters.Letters.none.spec)
code_letters_none = told _ refl (λ _ _ _ _. refl)

-- code::letters::same
pub code_same : One code.letters.same.ended (λ _ _. code.letters.same.spec)
code_same = told _ refl (λ _ _ _ _. refl)

-- code::letters::place_of
pub code_place_of : One code.letters.place_of.ended (λ _ _. code.letters.place_of.spec)
code_place_of = told _ refl (λ _ _ _ _. refl)

-- code::letters::learn
pub code_learn : One code.letters.learn.ended (λ _ _. code.letters.learn.spec)
code_learn = promised _ refl (λ _ _ _ _ _ _ p q. (p.result ∙ sym q.result, refl))

-- code::limits::is_legal
pub code_is_legal : One code.limits.is_legal.ended (λ _ _. code.limits.is_legal.spec)
code_is_legal = told _ refl (λ _ _ _ _. refl)

-- code::limits::smallest_count: its promise is a property, and allows one answer all the same
pub code_smallest_count : One code.limits.smallest_count.ended (λ _ _. code.limits.smallest_count.spec)
code_smallest_count = promised _ refl (λ _ given r r' _ _ p q. (one_smallest given.0 r r' p q, refl))

-- code::next::is_letter
pub code_is_letter : One code.next.is_letter.ended (λ _ _. code.next.is_letter.spec)
code_is_letter = told _ refl (λ _ _ _ _. refl)

-- code::next::next_pair
pub code_next_pair : One code.next.next_pair.ended (λ _ _. code.next.next_pair.spec)
code_next_pair = told _ refl (λ _ _ _ _. refl)

-- decoder::read::read_code
pub decoder_read_code : One decoder.read.read_code.ended (λ _ _. decoder.read.read_code.spec)
decoder_read_code = promised _ refl (λ _ _ _ _ _ _ p q. (p.result ∙ sym q.result, both refl (both refl (both refl (both (p.kept ∙ sym q.kept) refl)))))

-- request::Place::connector
pub request_connector : One request.Place.connector.ended (λ _ _. request.Place.connector.spec)
request_connector = told _ refl (λ _ _ _ _. refl)

-- request::Place::nowhere
pub request_nowhere : One request.Place.nowhere.ended (λ _ _. request.Place.nowhere.spec)
request_nowhere = told _ refl (λ _ _ _ _. refl)

-- request::address_fault
pub request_address_fault : One request.address_fault.ended (λ _ _. request.address_fault.spec)
request_address_fault = told _ refl (λ _ _ _ _. refl)

-- request::mode::mode_at
pub request_mode_at : One request.mode.mode_at.ended (λ _ _. request.mode.mode_at.spec)
request_mode_at = told _ refl (λ _ _ _ _. refl)

-- request::mode::may_have
pub request_may_have : One request.mode.may_have.ended (λ _ _. request.mode.may_have.spec)
request_may_have = told _ refl (λ _ _ _ _. refl)

-- request::mode::is_sensor
pub request_is_sensor : One request.mode.is_sensor.ended (λ _ _. request.mode.is_sensor.spec)
request_is_sensor = told _ refl (λ _ _ _ _. refl)

-- request::mode::is_lighting
pub request_is_lighting : One request.mode.is_lighting.ended (λ _ _. request.mode.is_lighting.spec)
request_is_lighting = told _ refl (λ _ _ _ _. refl)

-- request::mode::is_silent
pub request_is_silent : One request.mode.is_silent.ended (λ _ _. request.mode.is_silent.spec)
request_is_silent = told _ refl (λ _ _ _ _. refl)

-- request::mode::fresh_mode
pub request_fresh_mode : One request.mode.fresh_mode.ended (λ _ _. request.mode.fresh_mode.spec)
request_fresh_mode = told _ refl (λ _ _ _ _. refl)

-- request::read::read_request
pub request_read_request : One request.read.read_request.ended (λ _ _. request.read.read_request.spec)
request_read_request = told _ refl (λ _ _ _ _. refl)

-- command::fields::capped
pub command_capped : One command.fields.capped.ended (λ _ _. command.fields.capped.spec)
command_capped = told _ refl (λ _ _ _ _. refl)

-- command::fields::fields_at
pub command_fields_at : One command.fields.fields_at.ended (λ _ _. command.fields.fields_at.spec)
command_fields_at = told _ refl (λ _ _ _ _. refl)

-- command::read::command_at
pub command_command_at : One command.read.command_at.ended (λ _ _. command.read.command_at.spec)
command_command_at = promised _ refl (λ _ _ _ _ _ _ p q. (p.result ∙ sym q.result, both refl (both refl (both (p.kept ∙ sym q.kept) refl))))

-- command::given::command_given
pub command_command_given : One command.given.command_given.ended (λ _ _. command.given.command_given.spec)
command_command_given = promised _ refl (λ _ _ _ _ _ _ p q. (p.result ∙ sym q.result, both refl (both refl (both (p.kept ∙ sym q.kept) refl))))
