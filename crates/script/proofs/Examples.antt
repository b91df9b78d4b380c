-- Lines of the readings, document 01's own script with its whole output, and another.
use mathlib.Core.Path.{◌≡◌, refl}
use mathlib.Core.List.{[], ◌∷◌}
use lib.ListN.{replicate}
use Rattle.laws.specs.Bytes.{bytes}
use Rattle.laws.specs.Put.{over}
use Rattle.words.specs.Decimal.{decimal}
use Rattle.words.specs.Pairs.{same_pair}
use Rattle.meaning.specs.Time.{first_micro}
use Rattle.text.specs.Number.{number_of, number_at}
use Rattle.text.specs.Field.{ends_field, after_comma, field_within}
use Rattle.code.specs.Limits.{legal}
use Rattle.code.specs.Letters.{learnt}
use Rattle.code.specs.Next.{is_letter, count_at, off_at, after_on, spelled_at, letter_at, begun_at, next_pair}
use Rattle.code.specs.Read.{read_code}
use Rattle.request.specs.Name.{candidate, word_at}
use Rattle.request.specs.Address.{part_at, port_at, address_at, address_fault}
use Rattle.request.specs.Request.{alone, set_ir_at, get_state_at, addressed, read_request}
use Rattle.request.specs.Mode.{mode_at}
use Rattle.command.specs.Fields.{capped, fields_at}
use Rattle.command.specs.Read.{code_at, command_at}
use Rattle.pace.specs.Pace.{end_of, passed}
use Rattle.reply.specs.Reply.{reply_text}
use Rattle.connector.specs.Change.{with_mode, owner_left}
use Rattle.connector.specs.Pass.{passing_lamp}
use Rattle.connector.specs.Reading.{reading_step}
use Rattle.steps.specs.Send.{run_of}
use Rattle.steps.specs.Step.{set_mode, get_contact, also_told, stops, command_step, send_step}
use Rattle.hub.specs.Record.{fresh_hub}
use Rattle.hub.specs.Line.{line_step}
use Rattle.hub.specs.Calls.{reading_call, closed_call}
use Rattle.hub.specs.Wait.{wait_call}
use Rattle.script.specs.declared.input.Input.TheVariants.{Other, Line, Reading, Closing, Waiting}
use Rattle.script.specs.Input.{is_number, input_of}
use Rattle.script.specs.Output.{who_text, printed_reply, printed_refusal, printed_answer, printed_call, printed_completion}
use Rattle.script.specs.Turn.{line_outcome, reading_made, closing_made, waiting_made, done, printed_by}

pub lines_are : (input_of (bytes "0 set_IR,1:2,SENSOR") ≡ Line 0 2)
    × (input_of (bytes "0 ") ≡ Line 0 2)
    × (input_of (bytes "0") ≡ Other)
    × (input_of (bytes "0000000007 getversion") ≡ Line 7 11)
    × (input_of (bytes "00000000007 getversion") ≡ Other)
    × (input_of (bytes "r 2 0") ≡ Reading 2 0)
    × (input_of (bytes "r 2  0") ≡ Other)
    × (input_of (bytes "x 12") ≡ Closing 12)
    × (input_of (bytes "w 51249") ≡ Waiting 51249)
    × (input_of (bytes "w 1 ") ≡ Other)
    × (input_of [] ≡ Other)
unfolding input_of is_number
lines_are = (refl, refl, refl, refl, refl, refl, refl, refl, refl, refl, refl)

pub whole_output : printed_by fresh_hub (replicate 1560 0)
    (bytes "0 set_IR,1:2,SENSOR"
    ∷ bytes "0 getstate,1:2"
    ∷ bytes "r 2 0"
    ∷ bytes "0 getstate,1:2"
    ∷ bytes "1 sendir,1:1,7,40000,2,3,34,48,24,960"
    ∷ bytes "2 sendir,1:1,9,40000,1,1,24,960"
    ∷ bytes "w 51249"
    ∷ bytes "w 1"
    ∷ [])
    ≡ bytes "0 IR,1:2,SENSOR\n0 ERR_1:2,028\n0 state,1:2,0\n2 busyIR,1:1,9\n@1 1 completeir,1:1,7\n"
unfolding over number_of number_at ends_field after_comma field_within decimal legal same_pair learnt is_letter count_at off_at after_on spelled_at letter_at begun_at next_pair read_code candidate word_at part_at port_at address_at address_fault mode_at alone set_ir_at get_state_at addressed read_request capped fields_at code_at command_at first_micro end_of passed reply_text with_mode passing_lamp reading_step run_of set_mode get_contact command_step send_step line_step reading_call closed_call wait_call is_number input_of printed_reply who_text printed_refusal printed_answer printed_call printed_completion line_outcome reading_made closing_made waiting_made done
whole_output = refl

-- a device list, a reply for the owner too, a completion for connection 0 and one for nobody, a refusal, a line of another form
pub other_output : printed_by fresh_hub (replicate 1560 0)
    (bytes "0 getdevices"
    ∷ bytes "0 sendir,1:1,7,40000,1,1,24,960"
    ∷ bytes "1 stopir,1:1"
    ∷ bytes "0 sendir,1:1,8,40000,1,1,24,960"
    ∷ bytes "w 24600"
    ∷ bytes "0 sendir,1:2,9,40000,1,1,24,960"
    ∷ bytes "x 0"
    ∷ bytes "w 30000"
    ∷ bytes "8 getversion"
    ∷ bytes "w"
    ∷ [])
    ≡ bytes "0 device,0,0 ETHERNET\n0 device,1,3 IR\n0 device,2,3 RELAY\n0 endlistdevices\n1 stopir,1:1\n0 stopir,1:1\n@24600 0 completeir,1:1,8\n@24600 - completeir,1:2,9\n!102\n!\n"
unfolding over number_of number_at ends_field after_comma field_within decimal legal same_pair learnt is_letter count_at off_at after_on spelled_at letter_at begun_at next_pair read_code candidate word_at part_at port_at address_at address_fault mode_at alone set_ir_at get_state_at addressed read_request capped fields_at code_at command_at first_micro end_of passed reply_text with_mode owner_left passing_lamp reading_step run_of set_mode get_contact also_told stops command_step send_step line_step reading_call closed_call wait_call is_number input_of printed_reply who_text printed_refusal printed_answer printed_call printed_completion line_outcome reading_made closing_made waiting_made done
other_output = refl
