use Rattle.steps.proofs.step.get_lamp.Goals as goal

pub lamp_reply-requires : goal.lamp_reply-requires
lamp_reply-requires c = c.requires.lights

pub returns : goal.returns
returns c = rw (c.of_lamp.ensures, c.says.ensures, c.lamp_reply.ensures)
