-- One tick in DEPLOY_WAIT.
-- Assumes nothing.
use Rattle.std.specs.Prelude.{ℕ, ◌+◌, ◌-◌, Bool, ◌||◌, eqb}
use Rattle.basics.specs.Choice.{when◌then◌else◌}
use Rattle.supervisor.specs.Range.{wait_seconds, settle_seconds}
use Rattle.supervisor.specs.declared.state.Phase.{Phase}
use Rattle.supervisor.specs.declared.state.Phase.TheVariants.{Waiting, Settling}
use Rattle.supervisor.specs.declared.state.Mode.{Mode}
use Rattle.supervisor.specs.declared.state.Mode.TheVariants.{DeployWait, Recovery}

-- if antennas are deployed or waited reaches 86,400, settling begins with 900 left
abbrev pub waited_to : Bool → ℕ → Mode
waited_to antennas waited =
    when antennas || eqb waited wait_seconds then DeployWait (Settling settle_seconds) else DeployWait (Waiting waited)

-- at 0 the mode is RECOVERY
abbrev pub settled_to : ℕ → Mode
settled_to left = when eqb left 0 then Recovery else DeployWait (Settling left)

-- while waiting, waited grows by 1; while settling, left falls by 1
abbrev pub phase_ticked : Bool → Phase → Mode
phase_ticked antennas (Waiting waited) = waited_to antennas (waited + 1)
phase_ticked antennas (Settling left) = settled_to (left - 1)
