-- What a reading is about, for whoever looks at a flight from outside.
-- Assumes nothing.
use Rattle.std.specs.Prelude.{ℕ, Bool, true, false, List, [], ◌∷◌, Ok, Err}
use Rattle.basics.specs.Choice.{when◌then◌else◌}
use Rattle.frames.specs.Reading.{Reading}
use Rattle.frames.specs.declared.sender.Origin.{Origin}
use Rattle.frames.specs.declared.sender.Origin.TheVariants.{Ground, Payload}
use Rattle.frames.specs.declared.sender.Sender.{Sender}
use Rattle.frames.specs.declared.command.Command.{Command}
use Rattle.frames.specs.declared.frame.Frame.TheVariants as frame

-- a tick, a command, or neither
pub data About : Type 0 where
  -- a tick, with the mask of its shorts
  a_tick : (shorts : ℕ) → About
  -- a command, with its sender
  a_command : Sender → Command → About
  -- other news, or bytes that are refused
  neither : About

-- what a reading is about
abbrev pub about : Reading → About
about (Err answer) = neither
about (Ok (frame.Tick shorts)) = a_tick shorts
about (Ok (frame.Battery tension)) = neither
about (Ok (frame.Antennas deployed)) = neither
about (Ok (frame.Command sender command)) = a_command sender command

-- whether it is a tick
abbrev pub is_tick : About → Bool
is_tick (a_tick shorts) = true
is_tick (a_command sender command) = false
is_tick neither = false

-- whether two origins are the same
abbrev pub same_origin : Origin → Origin → Bool
same_origin Ground Ground = true
same_origin Ground Payload = false
same_origin Payload Ground = false
same_origin Payload Payload = true

-- the serial that it has from an origin, one or none
abbrev pub serial_from : Origin → About → List ℕ
serial_from origin (a_tick shorts) = []
serial_from origin (a_command sender command) = when same_origin origin sender.origin then sender.serial ∷ [] else []
serial_from origin neither = []
