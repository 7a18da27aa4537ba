-- Serials, as in RFC 1982.
-- Assumes nothing.
use Rattle.std.specs.Prelude.{ℕ, ◌+◌, ◌-◌, ◌%◌, ◌==◌, nat_lt}
use Rattle.basics.specs.Choice.{when◌then◌else◌}
use Rattle.frames.specs.declared.sender.Origin.{Origin}
use Rattle.frames.specs.declared.sender.Origin.TheVariants.{Ground, Payload}
use Rattle.frames.specs.declared.serial.Class.{Class}
use Rattle.frames.specs.declared.serial.Class.TheVariants.{Repeat, Fresh, Stale}
use Rattle.frames.specs.declared.serial.Serials.{Serials}

-- how many serials there are
abbrev pub serial_count : ℕ
serial_count = 65536

-- the distance from which on one is stale
abbrev pub stale_from : ℕ
stale_from = 32768

-- the distance is (serial minus last) modulo 65,536
abbrev pub distance : (serial last : ℕ) → ℕ
distance serial last = (serial + serial_count - last) % serial_count

-- distance 0 is a repeat, 1 to 32,767 is fresh, 32,768 to 65,535 is stale
unfoldable pub class_of : (serial last : ℕ) → Class
class_of serial last =
    when distance serial last == 0 then Repeat else
    when nat_lt (distance serial last) stale_from then Fresh else Stale

-- the last serial of each origin
abbrev pub both : (ground : ℕ) (payload : ℕ) → Serials
both ground payload = record { ground = ground; payload = payload }

-- each origin has a last serial
abbrev pub last_of : Origin → Serials → ℕ
last_of Ground serials = serials.ground
last_of Payload serials = serials.payload

-- a fresh one becomes the last serial
abbrev pub moved_to : Origin → ℕ → Serials → Serials
moved_to Ground serial serials = both serial serials.payload
moved_to Payload serial serials = both serials.ground serial
