use mathlib.Core.Path.{sym, ◌∙◌}
use Rattle.steps.specs.Step.{send_step}
use Rattle.steps.proofs.Deciding.{sent_few, sent_inside, fault_answered, sent_answered}
use Rattle.steps.proofs.send.send.Goals as goal

pub returns-then-is_silent : goal.returns-then-is_silent
unfolding send_step
returns-then-is_silent c =
    let silent = sym c.is_silent.ensures ∙ c.if-is_silent.true in
    record { result = rw silent c.fails.ensures; counts = rw silent }

pub commanded-requires : goal.commanded-requires
commanded-requires c =
    let read = rw c.in-Ok.is at c.command_at.ensures in
    (c.requires.0, c.requires.1, sent_few _ _ read, sent_inside _ _ read)

pub returns-in-Err : goal.returns-in-Err
returns-in-Err c =
    let ready = sym c.is_silent.ensures ∙ c.if-is_silent.false in
    let read = rw c.in-Err.is at c.command_at.ensures in
    fault_answered _ _ _ _ _ _ ready read c.fails-in-Err.ensures

pub returns-in-Ok : goal.returns-in-Ok
returns-in-Ok c =
    let ready = sym c.is_silent.ensures ∙ c.if-is_silent.false in
    let read = rw c.in-Ok.is at c.command_at.ensures in
    sent_answered _ _ _ _ _ _ ready read c.commanded.ensures
