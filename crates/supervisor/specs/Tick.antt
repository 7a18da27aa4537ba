-- One tick.
-- Assumes nothing.
use Rattle.std.specs.Prelude.{ℕ, ◌+◌}
use Rattle.modules.specs.Groups.{core_four, mission_four}
use Rattle.modules.specs.Stage.{stage_of}
use Rattle.supervisor.specs.State.{with_mode, with_modules}
use Rattle.supervisor.specs.Acted.{done}
use Rattle.supervisor.specs.Deploy.{phase_ticked}
use Rattle.supervisor.specs.Ending.{ended}
use Rattle.supervisor.specs.Control.{controlled}
use Rattle.supervisor.specs.Due.{beacon_stage}
use Rattle.supervisor.specs.declared.state.Mode.{Mode}
use Rattle.supervisor.specs.declared.state.Mode.TheVariants.{DeployWait, Recovery, Safe}
use Rattle.supervisor.specs.declared.state.State.{State}
use Rattle.supervisor.specs.declared.acted.Acted.{Acted}

-- allowed: core four in RECOVERY and SAFE, mission four in SAFE only
abbrev pub allowed_in : Mode → ℕ
allowed_in (DeployWait phase) = 0
allowed_in Recovery = core_four
allowed_in Safe = core_four + mission_four

-- the state as the module stage finds it: after ends and control
unfoldable pub before_modules : State → State
before_modules s = controlled (ended s)

-- the module stage, all eight by what the mode allows
unfoldable pub module_stage : (shorts : ℕ) → State → State
module_stage shorts s = with_modules (stage_of (allowed_in s.watch.mode) shorts s.modules) s

-- ends, control, modules, beacon, in this order
abbrev pub stages : (shorts : ℕ) → State → Acted
stages shorts s = beacon_stage (module_stage shorts (before_modules s))

-- nothing else happens in a tick in DEPLOY_WAIT; otherwise four stages run
abbrev pub ticked_in : Mode → (shorts : ℕ) → State → Acted
ticked_in (DeployWait phase) shorts s = done (with_mode (phase_ticked s.antennas phase) s)
ticked_in Recovery shorts s = stages shorts s
ticked_in Safe shorts s = stages shorts s

-- a tick, by the mode before it
unfoldable pub ticked : (shorts : ℕ) → State → Acted
ticked shorts s = ticked_in s.watch.mode shorts s
