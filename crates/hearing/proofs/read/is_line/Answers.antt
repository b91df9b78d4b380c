use mathlib.Core.Path.{refl, ◌∙◌}
use Rattle.laws.proofs.Choice.{not_both}
use Rattle.logger.specs.Heard.{writable, line_of}
use Rattle.hearing.proofs.Meant.{line_is}
use Rattle.hearing.proofs.read.is_line.Goals as goal

pub returns-in-NotReply : goal.returns-in-NotReply
unfolding writable
returns-in-NotReply c = not_both c.requires (rw c.in-NotReply.is)

pub returns-in-State : goal.returns-in-State
returns-in-State c = rw c.in-State.is (c.is_reply.ensures ∙ rw (line_is _ _ refl))

pub returns-in-Complete : goal.returns-in-Complete
returns-in-Complete c = rw c.in-Complete.is (c.is_reply-in-Complete.ensures ∙ rw (line_is _ _ refl))

pub returns-in-Busy : goal.returns-in-Busy
returns-in-Busy c = rw c.in-Busy.is (c.is_reply-in-Busy.ensures ∙ rw (line_is _ _ refl))

pub returns-in-Stop : goal.returns-in-Stop
returns-in-Stop c = rw c.in-Stop.is (c.is_reply-in-Stop.ensures ∙ rw (line_is _ _ refl))

pub returns-in-Mode : goal.returns-in-Mode
returns-in-Mode c = rw c.in-Mode.is (c.is_reply-in-Mode.ensures ∙ rw (line_is _ _ refl))

pub returns-in-Error : goal.returns-in-Error
returns-in-Error c = rw c.in-Error.is (c.is_reply-in-Error.ensures ∙ rw (line_is _ _ refl))

pub returns-in-Version : goal.returns-in-Version
unfolding line_of
returns-in-Version c = rw c.in-Version.is c.is_word.ensures

pub returns-in-Listed : goal.returns-in-Listed
unfolding line_of
returns-in-Listed c = rw c.in-Listed.is c.is_device.ensures

pub returns-in-Lamp : goal.returns-in-Lamp
returns-in-Lamp c = rw c.in-Lamp.is (c.is_reply-in-Lamp.ensures ∙ rw (line_is _ _ refl))
