-- The worked requests, as one table with one proof.
use mathlib.Core.Path.{◌≡◌, refl}
use mathlib.Core.List.{map}
use Rattle.words.specs.Decimal.{decimal}
use Rattle.words.specs.Pairs.{same_pair}
use Rattle.code.specs.Limits.{legal}
use Rattle.code.specs.Letters.{learnt}
use Rattle.command.specs.Fields.{capped}
use Rattle.writer.specs.CodeText.{code_text}
use Rattle.writer.specs.Sendir.{sendir_head}
use Rattle.composer.specs.Fault.{place_fault, fields_fault, counts_fault, sendir_fault, lamp_fault, wish_fault}
use Rattle.composer.specs.Compose.{wish_text, refusal_of, composing}
use Rattle.composer.specs.Worked.{rows}

pub worked : map (λ row. row.composed) rows ≡ map (λ row. row.is) rows
unfolding decimal same_pair legal learnt capped code_text sendir_head place_fault fields_fault counts_fault sendir_fault lamp_fault wish_fault wish_text refusal_of composing
worked = refl
