use Rattle.lamp.proofs.Keeps.{turned_sound}
use Rattle.steps.proofs.step.set_lamp.Goals as goal

pub turned-lamp-requires : goal.turned-lamp-requires
turned-lamp-requires c = c.requires.0.lights

pub lamp_reply-requires : goal.lamp_reply-requires
lamp_reply-requires c =
    rw c.turned-lamp.ensures (turned_sound c.requires.0.lights c.requires.1 c.requires.2)

pub returns : goal.returns
returns c = rw (c.of_lamp.ensures, c.with_lamp.ensures, c.lamp_reply.ensures, c.turned-lamp.ensures)
