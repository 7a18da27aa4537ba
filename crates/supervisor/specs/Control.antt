-- The control stage of a tick.
-- Assumes nothing.
use Rattle.std.specs.Prelude.{ℕ, ◌+◌, ltb, eqb, Option, Some, None}
use Rattle.basics.specs.Choice.{when◌then◌else◌}
use Rattle.modules.specs.Groups.{mission_four}
use Rattle.modules.specs.Ends.{no_ends}
use Rattle.supervisor.specs.State.{with_mode, with_control, with_ends, without_requests}
use Rattle.supervisor.specs.Range.{judge_ticks}
use Rattle.supervisor.specs.declared.state.Mode.{Mode}
use Rattle.supervisor.specs.declared.state.Mode.TheVariants.{DeployWait, Recovery, Safe}
use Rattle.supervisor.specs.declared.state.Battery.{Battery}
use Rattle.supervisor.specs.declared.state.State.{State}
use Rattle.supervisor.specs.declared.control.Crossing.{Crossing}
use Rattle.supervisor.specs.declared.control.Crossing.TheVariants.{Upward, Downward}

-- in RECOVERY with tension above ascend, upward; in SAFE with tension below descend, downward;
-- equality crosses nothing
abbrev pub crossing_of : Mode → Battery → Option Crossing
crossing_of (DeployWait phase) battery = None
crossing_of Recovery battery = when ltb battery.ascend battery.tension then Some Upward else None
crossing_of Safe battery = when ltb battery.tension battery.descend then Some Downward else None

-- upward: SAFE, and nothing is requested; downward: RECOVERY, the mission four are requested off, and their ends are
-- dropped
abbrev pub crossed : Option Crossing → State → State
crossed None s = s
crossed (Some Upward) s = with_mode Safe s
crossed (Some Downward) s = with_mode Recovery (without_requests mission_four (with_ends no_ends s))

-- at 30 the count returns to 0 and the mode is judged
abbrev pub controlled_at : ℕ → State → State
controlled_at count s =
    when eqb count judge_ticks
    then crossed (crossing_of s.watch.mode s.battery) (with_control 0 s)
    else with_control count s

-- the count grows by 1
unfoldable pub controlled : State → State
controlled s = controlled_at (s.watch.control + 1) s
