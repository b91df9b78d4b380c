-- What each reply of a hub is heard as: line by line, for the device list has four lines.
use Rattle.std.specs.Prelude.{List, [], ◌∷◌}
use Rattle.request.specs.declared.Fixed.{Fixed}
use Rattle.request.specs.declared.Fixed.TheVariants as fixed
use Rattle.reply.specs.declared.Reply.{Reply}
use Rattle.reply.specs.declared.Reply.TheVariants as reply
use Rattle.logger.specs.declared.Device.TheVariants.{Ethernet, Infrared, Relays, End}
use Rattle.logger.specs.declared.Heard.{Heard}
use Rattle.logger.specs.declared.Heard.TheVariants.{State, Complete, Busy, Stop, Mode, Error, Version, Listed, Lamp}

abbrev pub fixed_as : Fixed → List Heard
fixed_as fixed.Devices = Listed Ethernet ∷ Listed Infrared ∷ Listed Relays ∷ Listed End ∷ []
fixed_as fixed.Version = Version ∷ []

abbrev pub heard_as : Reply → List Heard
heard_as (reply.Fixed kind) = fixed_as kind
heard_as (reply.Error number place) = Error number place ∷ []
heard_as (reply.Mode place mode) = Mode place mode ∷ []
heard_as (reply.State place state) = State place state ∷ []
heard_as (reply.Complete place id) = Complete place id ∷ []
heard_as (reply.Busy place id) = Busy place id ∷ []
heard_as (reply.Stopped place) = Stop place ∷ []
heard_as (reply.Lamp place level target) = Lamp place level target ∷ []
