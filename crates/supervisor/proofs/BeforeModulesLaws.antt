-- Laws of the state that the module stage finds: what the stages before it leave, and what they may change.
-- Assumes nothing.
use Prim.Native.Nat.{ℕ, ◌<◌}
use mathlib.Core.Path.{◌≡◌, refl, sym, ap, ◌∙◌}
use mathlib.Core.Bool.{true, false, true≢false}
use lib.Dec.{T, lit<}
use Rattle.basics.specs.Choice.{bit}
use Rattle.basics.proofs.ChoiceLaws.{is_true, is_false}
use Rattle.modules.specs.Groups.{mission_four, is_core, is_mission}
use Rattle.modules.specs.Ends.{ends_over, ends_in_range}
use Rattle.modules.specs.Stage.{modules_in_range}
use Rattle.modules.proofs.EndsLaws.{fallen_in_range, over_mission}
use Rattle.modules.proofs.StageLaws.{requested_in_range}
use Rattle.supervisor.specs.Range.{judge_ticks}
use Rattle.supervisor.specs.State.{HasMasks, is_deploy_wait, module_at}
use Rattle.supervisor.specs.Ending.{ended}
use Rattle.supervisor.specs.Control.{controlled}
use Rattle.supervisor.specs.Tick.{before_modules}
use Rattle.supervisor.specs.declared.state.State.{State}
use Rattle.supervisor.proofs.ControlLaws.{Controls, level, upward, downward, controls}
use Rattle.supervisor.proofs.ModuleLaws.{Eight, unasked_eight, at_unasked, not_unasked, ended_eight, core_not_mission}

-- what control leaves
module _ (s : State) where
  serials_by : Controls s → (controlled s).serials ≡ s.serials
  serials_by (level count low none w) = rw w
  serials_by (upward j e t w) = rw w
  serials_by (downward j e t w) = rw w

  beacon_by : Controls s → (controlled s).watch.beacon ≡ s.watch.beacon
  beacon_by (level count low none w) = rw w
  beacon_by (upward j e t w) = rw w
  beacon_by (downward j e t w) = rw w

  flies_by : is_deploy_wait s.watch.mode ≡ false → Controls s → is_deploy_wait (controlled s).watch.mode ≡ false
  flies_by e (level count low none w) = rw w e
  flies_by e (upward j m t w) = rw w refl
  flies_by e (downward j m t w) = rw w refl

  battery_by : Controls s → (controlled s).battery ≡ s.battery
  battery_by (level count low none w) = rw w
  battery_by (upward j e t w) = rw w
  battery_by (downward j e t w) = rw w

  message_by : Controls s → (controlled s).message ≡ s.message
  message_by (level count low none w) = rw w
  message_by (upward j e t w) = rw w
  message_by (downward j e t w) = rw w

  control_by : s.watch.control < judge_ticks → Controls s → (controlled s).watch.control < judge_ticks
  control_by h (level count low none w) = rw w (low h)
  control_by h (upward j e t w) = rw w (lit< tt)
  control_by h (downward j e t w) = rw w (lit< tt)

  modules_by : T (modules_in_range s.modules) → Controls s → T (modules_in_range (controlled s).modules)
  modules_by h (level count low none w) = rw w h
  modules_by h (upward j e t w) = rw w h
  modules_by h (downward j e t w) = rw w (requested_in_range mission_four false s.modules h)

  masks_by : HasMasks s → Controls s → HasMasks (controlled s)
  masks_by h (level count low none w) = rw w h
  masks_by h (upward j e t w) = rw w h
  masks_by h (downward j e t w) = rw w refl

  ends_by : T (ends_in_range s.ends) → Controls s → T (ends_in_range (controlled s).ends)
  unfolding ends_in_range
  ends_by h (level count low none w) = rw w h
  ends_by h (upward j e t w) = rw w h
  ends_by h (downward j e t w) = rw w tt

  eight_by : Eight s → Controls s → Eight (controlled s)
  eight_by h (level count low none w) = rw w h
  eight_by h (upward j e t w) = rw w h
  eight_by h (downward j e t w) = rw w (unasked_eight s h mission_four)

  module _ (i : ℕ) where
    power_by : Controls s → (module_at i (controlled s)).power ≡ (module_at i s).power
    power_by (level count low none w) = rw w
    power_by (upward j e t w) = rw w
    power_by (downward j e t w) = rw w (ap (λ m. m.power) (at_unasked s i mission_four))

    core_by : is_mission i ≡ false → Controls s → module_at i (controlled s) ≡ module_at i s
    core_by core (level count low none w) = rw w
    core_by core (upward j e t w) = rw w
    core_by core (downward j e t w) = rw w (not_unasked s i mission_four core)

-- what the module stage finds, after ends and control
module _ (s : State) where
  -- the serials
  pub before_serials : (before_modules s).serials ≡ s.serials
  unfolding before_modules ended
  before_serials = serials_by (ended s) (controls (ended s))

  -- the beacon count
  pub before_beacon : (before_modules s).watch.beacon ≡ s.watch.beacon
  unfolding before_modules ended
  before_beacon = beacon_by (ended s) (controls (ended s))

  -- outside DEPLOY_WAIT it stays outside
  pub before_flies : is_deploy_wait s.watch.mode ≡ false → is_deploy_wait (before_modules s).watch.mode ≡ false
  unfolding before_modules ended
  before_flies e = flies_by (ended s) e (controls (ended s))

  -- the battery
  pub before_battery : (before_modules s).battery ≡ s.battery
  unfolding before_modules ended
  before_battery = battery_by (ended s) (controls (ended s))

  -- the message
  pub before_message : (before_modules s).message ≡ s.message
  unfolding before_modules ended
  before_message = message_by (ended s) (controls (ended s))

  -- the control count stays low
  pub before_control : s.watch.control < judge_ticks → (before_modules s).watch.control < judge_ticks
  unfolding before_modules ended
  before_control h = control_by (ended s) h (controls (ended s))

  -- the ends stay in range
  pub before_ends_in_range : T (ends_in_range s.ends) → T (ends_in_range (before_modules s).ends)
  unfolding before_modules ended
  before_ends_in_range h = ends_by (ended s) (fallen_in_range s.ends h) (controls (ended s))

  -- the modules stay in range
  pub before_modules_in_range : T (modules_in_range s.modules) → T (modules_in_range (before_modules s).modules)
  unfolding before_modules ended
  before_modules_in_range h =
      modules_by (ended s) (requested_in_range (ends_over s.ends) false s.modules h) (controls (ended s))

  -- their masks are true
  pub before_masks : HasMasks (before_modules s)
  unfolding before_modules ended
  before_masks = masks_by (ended s) refl (controls (ended s))

  -- eight modules
  pub before_eight : Eight s → Eight (before_modules s)
  unfolding before_modules
  before_eight h = eight_by (ended s) (ended_eight s h) (controls (ended s))

  module _ (i : ℕ) where
    -- each module's power
    pub before_power : (module_at i (before_modules s)).power ≡ (module_at i s).power
    unfolding before_modules ended
    before_power = power_by (ended s) i (controls (ended s)) ∙ ap (λ m. m.power) (at_unasked s i (ends_over s.ends))

    -- a core module as it was: no end and no crossing has a word on it
    pub before_core : is_core i ≡ true → module_at i (before_modules s) ≡ module_at i s
    unfolding before_modules ended
    before_core core =
        let apart : is_mission i ≡ false = core_not_mission i core in
        core_by (ended s) i apart (controls (ended s))
        ∙ not_unasked s i (ends_over s.ends) (is_false (bit i (ends_over s.ends)) (λ t. true≢false (sym (over_mission i s.ends (is_true _ t)) ∙ apart)))
