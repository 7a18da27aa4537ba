-- A tick by its cases: a second of DEPLOY_WAIT, or the four stages; and what it leaves.
-- Assumes nothing.
use Prim.Native.Nat.{ℕ}
use mathlib.Core.Path.{◌≡◌, refl, sym}
use mathlib.Core.Bool.{false, true≢false}
use Rattle.frames.specs.declared.answer.Answer.TheVariants.{Done}
use Rattle.supervisor.specs.State.{is_deploy_wait, with_mode}
use Rattle.supervisor.specs.Acted.{done}
use Rattle.supervisor.specs.Deploy.{phase_ticked}
use Rattle.supervisor.specs.Due.{beacon_stage}
use Rattle.supervisor.specs.Tick.{before_modules, module_stage, stages, ticked}
use Rattle.supervisor.specs.declared.state.Phase.{Phase}
use Rattle.supervisor.specs.declared.state.Mode.{Mode}
use Rattle.supervisor.specs.declared.state.Mode.TheVariants.{DeployWait, Recovery, Safe}
use Rattle.supervisor.specs.declared.state.State.{State}
use Rattle.supervisor.proofs.BeforeModulesLaws.{before_serials, before_beacon, before_message, before_flies, before_eight}
use Rattle.supervisor.proofs.ModuleLaws.{Eight, stage_eight}

-- what the beacon stage finds: the beacon count as before the tick
pub staged_beacon : (shorts : ℕ) (s : State) → (module_stage shorts (before_modules s)).watch.beacon ≡ s.watch.beacon
unfolding module_stage
staged_beacon shorts s = before_beacon s

-- and the message
pub staged_message : (shorts : ℕ) (s : State) → (module_stage shorts (before_modules s)).message ≡ s.message
unfolding module_stage
staged_message shorts s = before_message s

pub data Ticks (shorts : ℕ) (s : State) : Type 0 where
  waits : (phase : Phase) → s.watch.mode ≡ DeployWait phase → ticked shorts s ≡ done (with_mode (phase_ticked s.antennas phase) s) → Ticks shorts s
  runs : is_deploy_wait s.watch.mode ≡ false → ticked shorts s ≡ stages shorts s → Ticks shorts s

module _ (shorts : ℕ) (s : State) where
  by_mode : (m : Mode) → s.watch.mode ≡ m → Ticks shorts s
  unfolding ticked
  by_mode (DeployWait phase) e = waits phase e (rw e)
  by_mode Recovery e = runs (rw e) (rw e)
  by_mode Safe e = runs (rw e) (rw e)

  pub ticks : Ticks shorts s
  ticks = by_mode s.watch.mode refl

  stages_by : is_deploy_wait s.watch.mode ≡ false → Ticks shorts s → stages shorts s ≡ ticked shorts s
  stages_by e (waits phase m w) = absurd (true≢false (rw m at e))
  stages_by e (runs f w) = sym w

  -- outside DEPLOY_WAIT the four stages run
  pub ticked_stages : is_deploy_wait s.watch.mode ≡ false → stages shorts s ≡ ticked shorts s
  ticked_stages e = stages_by e ticks

  -- a tick is always done
  done_by : Ticks shorts s → (ticked shorts s).answer ≡ Done
  unfolding beacon_stage
  done_by (waits phase e w) = rw w
  done_by (runs e w) = rw w

  pub ticked_done : (ticked shorts s).answer ≡ Done
  ticked_done = done_by ticks

  -- it moves no serial
  serials_by : Ticks shorts s → (ticked shorts s).state.serials ≡ s.serials
  unfolding beacon_stage module_stage
  serials_by (waits phase e w) = rw w
  serials_by (runs e w) = rw w (before_serials s)

  pub ticked_serials : (ticked shorts s).state.serials ≡ s.serials
  ticked_serials = serials_by ticks

  -- it stays outside DEPLOY_WAIT
  flies_by : is_deploy_wait s.watch.mode ≡ false → Ticks shorts s → is_deploy_wait (ticked shorts s).state.watch.mode ≡ false
  unfolding beacon_stage module_stage
  flies_by e (waits phase m w) = absurd (true≢false (rw m at e))
  flies_by e (runs f w) = rw w (before_flies s e)

  pub ticked_flies : is_deploy_wait s.watch.mode ≡ false → is_deploy_wait (ticked shorts s).state.watch.mode ≡ false
  ticked_flies e = flies_by e ticks

  -- it leaves eight modules
  eight_by : Eight s → Ticks shorts s → Eight (ticked shorts s).state
  unfolding beacon_stage
  eight_by n (waits phase e w) = rw w n
  eight_by n (runs e w) = rw w (stage_eight _ (before_eight s n) shorts)

  pub ticked_eight : Eight s → Eight (ticked shorts s).state
  ticked_eight n = eight_by n ticks
