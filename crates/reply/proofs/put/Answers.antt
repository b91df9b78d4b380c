use Rattle.reply.specs.Reply.{reply_text}
use Rattle.text.proofs.Appended.{and_then}
use Rattle.reply.proofs.put.Goals as goal

pub returns-in-Fixed : goal.returns-in-Fixed
unfolding reply_text
returns-in-Fixed c = rw c.in-Fixed.is c.put_fixed.ensures

pub returns-in-Error : goal.returns-in-Error
unfolding reply_text
returns-in-Error c = rw c.in-Error.is (and_then c.put_address.ensures.0 c.put_error_number.ensures)

pub returns-in-Mode : goal.returns-in-Mode
unfolding reply_text
returns-in-Mode c = rw c.in-Mode.is (and_then c.put_address-in-Mode.ensures.0 c.put_mode.ensures)

pub returns-in-State : goal.returns-in-State
unfolding reply_text
returns-in-State c = rw c.in-State.is (and_then c.put_address-in-State.ensures.0 c.put_last.ensures)

pub returns-in-Complete : goal.returns-in-Complete
unfolding reply_text
returns-in-Complete c = rw c.in-Complete.is (and_then c.put_address-in-Complete.ensures.0 c.put_last-in-Complete.ensures)

pub returns-in-Busy : goal.returns-in-Busy
unfolding reply_text
returns-in-Busy c = rw c.in-Busy.is (and_then c.put_address-in-Busy.ensures.0 c.put_last-in-Busy.ensures)

pub returns-in-Stopped : goal.returns-in-Stopped
unfolding reply_text
returns-in-Stopped c = rw c.in-Stopped.is (and_then c.put_address-in-Stopped.ensures.0 c.byte.ensures)

pub returns-in-Lamp : goal.returns-in-Lamp
unfolding reply_text
returns-in-Lamp c = rw c.in-Lamp.is (and_then c.put_address-in-Lamp.ensures.0 c.put_two.ensures)
