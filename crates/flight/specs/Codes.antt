-- The numbers that an image has for a mode with its phase, and for a module.
-- Each in range has one number of its own, and each other number says one out of range.
-- Assumes nothing.
use Rattle.std.specs.Prelude.{ℕ, ◌+◌, ◌-◌, ◌*◌, ◌/◌, ◌%◌, eqb, leb, ltb}
use Rattle.basics.specs.Choice.{when◌then◌else◌}
use Rattle.modules.specs.Power.{clean_seconds}
use Rattle.modules.specs.declared.power.Power.{Power}
use Rattle.modules.specs.declared.power.Power.TheVariants.{On, Off, Failed}
use Rattle.modules.specs.declared.power.Module.{Module}
use Rattle.supervisor.specs.declared.state.Phase.TheVariants.{Waiting, Settling}
use Rattle.supervisor.specs.declared.state.Mode.{Mode}
use Rattle.supervisor.specs.declared.state.Mode.TheVariants.{DeployWait, Recovery, Safe}

-- settling is this and the seconds left; numbers up to it are the seconds waited
abbrev pub settling_code : ℕ
settling_code = 86399

-- RECOVERY
abbrev pub recovery_code : ℕ
recovery_code = 87300

-- SAFE, the last number of a mode
abbrev pub safe_code : ℕ
safe_code = 87301

-- a mode with its phase as a number
abbrev pub mode_code : Mode → ℕ
mode_code (DeployWait (Waiting waited)) = waited
mode_code (DeployWait (Settling left)) = settling_code + left
mode_code Recovery = recovery_code
mode_code Safe = safe_code

-- the mode of a number; past SAFE's it is waiting, for longer than any board waits
abbrev pub mode_from : ℕ → Mode
mode_from code =
    when leb code settling_code then DeployWait (Waiting code) else
    when ltb code recovery_code then DeployWait (Settling (code - settling_code)) else
    when eqb code recovery_code then Recovery else
    when eqb code safe_code then Safe else
    DeployWait (Waiting code)

-- on with all tries, the last number of a module that is on; off is this and the tries left
abbrev pub all_tries_code : ℕ
all_tries_code = 240

-- failed is this and the seconds left
abbrev pub failed_code : ℕ
failed_code = 246

-- what a module's number has more when it is requested
abbrev pub requested_code : ℕ
requested_code = 32768

-- a power as a number: on the seconds, and 60 for each try above the first
abbrev pub power_code : Power → ℕ
power_code (On tries seconds) = (tries - 1) * clean_seconds + seconds
power_code (Off tries) = all_tries_code + tries
power_code (Failed left) = failed_code + left

-- the power of a number; past 846 it is failed, for longer than any module is
abbrev pub power_from : ℕ → Power
power_from code =
    when leb code all_tries_code then On (code / clean_seconds + 1) (code % clean_seconds) else
    when ltb code failed_code then Off (code - all_tries_code) else
    Failed (code - failed_code)

-- a module as a number
abbrev pub module_code : Module → ℕ
module_code m = when m.requested then requested_code + power_code m.power else power_code m.power

-- the module of a number
abbrev pub module_from : ℕ → Module
module_from code = record { power = power_from (code % requested_code); requested = leb requested_code code }
