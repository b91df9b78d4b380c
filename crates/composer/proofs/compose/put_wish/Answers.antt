use mathlib.Core.List.{append_assoc}
use Rattle.text.proofs.Appended.{and_then}
use Rattle.composer.specs.Compose.{wish_text}
use Rattle.composer.proofs.compose.put_wish.Goals as goal

pub returns-in-Fixed : goal.returns-in-Fixed
unfolding wish_text
returns-in-Fixed c = rw c.in-Fixed.is c.put_fixed.ensures

pub returns-in-SetMode : goal.returns-in-SetMode
unfolding wish_text
returns-in-SetMode c = rw (c.in-SetMode.is, append_assoc) (and_then c.put_address.ensures.0 c.put_mode.ensures)

pub returns-in-GetMode : goal.returns-in-GetMode
unfolding wish_text
returns-in-GetMode c = rw c.in-GetMode.is (and_then c.put_address-in-GetMode.ensures.0 c.byte.ensures)

pub returns-in-SetState : goal.returns-in-SetState
unfolding wish_text
returns-in-SetState c = rw (c.in-SetState.is, append_assoc) (and_then c.put_address-in-SetState.ensures.0 c.put_last.ensures)

pub returns-in-GetState : goal.returns-in-GetState
unfolding wish_text
returns-in-GetState c = rw c.in-GetState.is (and_then c.put_address-in-GetState.ensures.0 c.byte-in-GetState.ensures)

pub returns-in-Stop : goal.returns-in-Stop
unfolding wish_text
returns-in-Stop c = rw c.in-Stop.is (and_then c.put_address-in-Stop.ensures.0 c.byte-in-Stop.ensures)

pub returns-in-SetLamp : goal.returns-in-SetLamp
unfolding wish_text
returns-in-SetLamp c = rw (c.in-SetLamp.is, append_assoc) (and_then c.put_address-in-SetLamp.ensures.0 c.put_two.ensures)

pub returns-in-GetLamp : goal.returns-in-GetLamp
unfolding wish_text
returns-in-GetLamp c = rw c.in-GetLamp.is (and_then c.put_address-in-GetLamp.ensures.0 c.byte-in-GetLamp.ensures)
