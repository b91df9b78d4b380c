-- The table of worked values holds.
use mathlib.Core.Path.{refl}
use native.Mathlib.Omega.{arith}
use Rattle.text.specs.Number.{number_of, number_at}
use Rattle.text.specs.Field.{ends_field, after_comma, field_within}
use Rattle.words.specs.Decimal.{decimal}
use Rattle.code.specs.Limits.{legal}
use Rattle.words.specs.Pairs.{same_pair}
use Rattle.code.specs.Letters.{learnt}
use Rattle.code.specs.Next.{is_letter, count_at, off_at, after_on, spelled_at, letter_at, begun_at, next_pair}
use Rattle.code.specs.Read.{read_code}
use Rattle.code.proofs.Smallest.{shortest_count}
use Rattle.request.specs.Name.{candidate, word_at}
use Rattle.request.specs.Address.{part_at, port_at, address_at, address_fault}
use Rattle.request.specs.Request.{addressed, read_request}
use Rattle.command.specs.Fields.{capped, fields_at}
use Rattle.command.specs.Read.{code_at, command_at}
use Rattle.writer.specs.CodeText.{code_text}
use Rattle.meaning.specs.Line.{is_number, within, is_address, is_count, code_in}
use Rattle.meaning.specs.Time.{total, done, complete, first_micro, finish, started}
use Rattle.meaning.specs.Log.{on_air}
use Rattle.meaning.specs.Table.{set_ir, getstate, sendir, request}
use Rattle.pace.specs.Pace.{end_of, passed}
use Rattle.reply.specs.Reply.{reply_text}
use Rattle.connector.specs.Pass.{passing_lamp}
use Rattle.steps.specs.Send.{run_of}
use Rattle.steps.specs.Step.{command_step, send_step}
use Rattle.hub.specs.Line.{line_step}
use Rattle.hub.specs.Wait.{wait_call}
use Rattle.worked.specs.Table.{Holds, table}

pub worked : Holds table
unfolding number_of number_at ends_field after_comma field_within decimal legal same_pair learnt is_letter count_at off_at after_on spelled_at letter_at begun_at next_pair read_code candidate word_at part_at port_at address_at address_fault addressed read_request capped fields_at code_at command_at code_text end_of first_micro passed reply_text is_number within is_address is_count code_in total done complete finish started on_air set_ir getstate sendir request run_of command_step send_step passing_lamp line_step wait_call
worked = (
  (refl, refl),
  (
    shortest_count (omega arith) (omega arith) (omega arith),
    (
      shortest_count (omega arith) (omega arith) (omega arith),
      (
        shortest_count (omega arith) (omega arith) (omega arith),
        (
          shortest_count (omega arith) (omega arith) (omega arith),
          (
            refl,
            (
              refl,
              (
                refl,
                (
                  refl,
                  ((λ store. refl), ((λ store. refl), ((λ store. refl), ((λ store. refl), ((λ store. refl), ((λ store. refl), (refl, tt))))))),
                ),
              ),
            ),
          ),
        ),
      ),
    ),
  ),
)
