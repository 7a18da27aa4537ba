-- How a report names a frame.
-- Assumes nothing.
use Rattle.frames.specs.declared.kind.Kind.{Kind}
use Rattle.frames.specs.declared.kind.Kind.TheVariants as kinds
use Rattle.frames.specs.Sender.{origin_number}
use Rattle.frames.specs.Command.{command_kind}
use Rattle.frames.specs.declared.frame.Frame.{Frame}
use Rattle.frames.specs.declared.frame.Frame.TheVariants.{Tick, Battery, Antennas, Command}
use Rattle.frames.specs.declared.frame.Head.{Head}

-- origin and serial are 0 for kinds 01, 02, 03
abbrev pub bare_head : Kind → Head
bare_head kind = record { kind = kind; origin = 0; serial = 0 }

-- kind answered, origin, serial
abbrev pub head_of : Frame → Head
head_of (Tick shorts) = bare_head kinds.Tick
head_of (Battery tension) = bare_head kinds.Battery
head_of (Antennas deployed) = bare_head kinds.Antennas
head_of (Command sender command) =
    record { kind = command_kind command; origin = origin_number sender.origin; serial = sender.serial }
