use mathlib.Core.Path.{refl}
use Rattle.steps.proofs.step.step.Goals as goal

pub set_lamp-requires : goal.set_lamp-requires
set_lamp-requires c =
    let within = rw c.in-SetLamp.is at c.requires.2 in
    (c.requires.0, within.1, within.2)

pub returns-in-SetMode : goal.returns-in-SetMode
returns-in-SetMode c = rw c.in-SetMode.is (record { result = c.set_mode.ensures; counts = refl })

pub returns-in-GetMode : goal.returns-in-GetMode
returns-in-GetMode c = rw c.in-GetMode.is (record { result = c.get_mode.ensures; counts = refl })

pub returns-in-GetContact : goal.returns-in-GetContact
returns-in-GetContact c = rw c.in-GetContact.is (record { result = c.get_contact.ensures; counts = refl })

pub returns-in-Send : goal.returns-in-Send
returns-in-Send c = rw c.in-Send.is c.send.ensures

pub returns-in-Stop : goal.returns-in-Stop
returns-in-Stop c = rw c.in-Stop.is (record { result = c.stop.ensures; counts = refl })

pub returns-in-SetLamp : goal.returns-in-SetLamp
returns-in-SetLamp c = rw c.in-SetLamp.is (record { result = c.set_lamp.ensures; counts = refl })

pub returns-in-GetLamp : goal.returns-in-GetLamp
returns-in-GetLamp c = rw c.in-GetLamp.is (record { result = c.get_lamp.ensures; counts = refl })
