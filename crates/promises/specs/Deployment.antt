-- Deployment ends: however the antennas fare and whatever else is sent, the board leaves DEPLOY_WAIT,
-- once and for all.
-- Assumes nothing.
use Rattle.std.specs.Prelude.{ℕ, ◌≤◌, ◌≡◌, Bool, false, not, List}
use Rattle.supervisor.specs.History.{Call, after, done_ticks}
use Rattle.supervisor.specs.State.{in_deploy_wait}
use Rattle.supervisor.specs.declared.state.State.{State}

-- a state is outside DEPLOY_WAIT
abbrev pub deployed : State → Bool
deployed s = not (in_deploy_wait s)

-- after so many done ticks, from any state, the board is out of DEPLOY_WAIT
abbrev pub EndsIn : (ticks : ℕ) → Type 0
EndsIn ticks = (s : State) (cs : List Call) → ticks ≤ done_ticks s cs → in_deploy_wait (after s cs) ≡ false

-- a day of waiting and fifteen minutes of settling, in seconds
abbrev pub longest_deployment : ℕ
longest_deployment = 87300

-- the end of DEPLOY_WAIT
pub record Deployment : Type 0 where
  pub ends : EndsIn longest_deployment
  -- once out of it, no call brings it back
  pub over : (s : State) (cs : List Call) → in_deploy_wait s ≡ false → in_deploy_wait (after s cs) ≡ false
