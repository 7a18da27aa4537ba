-- Laws of module i of a state, and of its end: what the stages, a mask of requests off and an order make of it; the core
-- and the mission four by their numbers.
-- Assumes nothing.
use Prim.Native.Nat.{ℕ, ◌+◌, ◌-◌, ◌<◌}
use native.Mathlib.Omega.{arith}
use mathlib.Core.Path.{◌≡◌, refl, sym, ap, ◌∙◌}
use mathlib.Core.Bool.{Bool, true, false, not, true≢false}
use lib.ListN.{length}
use lib.Dec.{lit<, leb, eqb}
use borrow.Author.Tests.{leb-true, leb-false, not-true}
use Rattle.basics.specs.Choice.{when◌then◌else◌, bit}
use Rattle.basics.proofs.ChoiceLaws.{is_true, agreed, either}
use Rattle.basics.proofs.EachLaws.{at_each, at_any, part_any, length_each}
use Rattle.basics.proofs.BitLaws.{bit_past}
use Rattle.basics.proofs.TablesLaws.{upto}
use Rattle.modules.specs.Groups.{module_count, core_four, mission_four, is_core, is_mission}
use Rattle.modules.specs.Stage.{stage_of, requested_by, requested_one, module_second, module_requested, module_asked}
use Rattle.modules.specs.Power.{switched, with_request}
use Rattle.modules.specs.Ends.{ends_over}
use Rattle.modules.specs.declared.power.Module.{Module}
use Rattle.modules.proofs.EndsLaws.{fallen_at, set_at, others_at, over_at}
use Rattle.supervisor.specs.State.{is_deploy_wait, is_safe, off_module, module_at, end_at, without_requests}
use Rattle.supervisor.specs.Ending.{ended}
use Rattle.supervisor.specs.Tick.{module_stage, allowed_in}
use Rattle.supervisor.specs.Command.{request_set}
use Rattle.supervisor.specs.declared.state.Mode.{Mode}
use Rattle.supervisor.specs.declared.state.Mode.TheVariants.{DeployWait, Recovery, Safe}
use Rattle.supervisor.specs.declared.state.State.{State}

-- eight modules
abbrev pub Eight : State → Type 0
Eight s = length s.modules ≡ module_count

module _ (s : State) (eight : Eight s) where
  pub stage_eight : (shorts : ℕ) → Eight (module_stage shorts s)
  unfolding module_stage stage_of
  stage_eight shorts = length_each _ s.modules ∙ eight

  pub unasked_eight : (mask : ℕ) → Eight (without_requests mask s)
  unfolding requested_by
  unasked_eight mask = length_each _ s.modules ∙ eight

  pub asked_eight : (which : ℕ) (on : Bool) (end : ℕ) → Eight (request_set which on end s)
  unfolding request_set requested_one
  asked_eight which on end = length_each _ s.modules ∙ eight

  pub ended_eight : Eight (ended s)
  unfolding ended requested_by
  ended_eight = length_each _ s.modules ∙ eight

  -- one of the eight after an order
  pub at_asked :
      (i : ℕ) → i < module_count → (which : ℕ) (on : Bool) (end : ℕ) → module_at i (request_set which on end s) ≡ module_asked which on i (module_at i s)
  unfolding request_set requested_one
  at_asked i low which on end = at_each (module_asked which on) s.modules i _ (omega arith)

-- module i, whatever i is: a number past the last module stands for one that is off and not requested
module _ (s : State) (i : ℕ) where
  -- after the module stage
  pub at_stage : (shorts : ℕ) → module_at i (module_stage shorts s) ≡ module_second (allowed_in s.watch.mode) shorts i (module_at i s)
  unfolding module_stage stage_of switched
  at_stage shorts = at_any (module_second (allowed_in s.watch.mode) shorts) off_module (λ k. refl) s.modules i

  -- with the requests of a mask off
  pub at_unasked : (mask : ℕ) → module_at i (without_requests mask s) ≡ module_requested mask false i (module_at i s)
  unfolding requested_by
  at_unasked mask = at_any (module_requested mask false) off_module (λ k. either (λ (t : Bool). with_request t off_module ≡ off_module) (bit k mask) refl refl) s.modules i

  -- one that is not in the mask stays as it is
  pub not_unasked : (mask : ℕ) → bit i mask ≡ false → module_at i (without_requests mask s) ≡ module_at i s
  not_unasked mask out = at_unasked mask ∙ ap (λ (t : Bool). with_request (when t then false else (module_at i s).requested) (module_at i s)) out

  -- after an order: its power, which no request changes
  pub asked_power : (which : ℕ) (on : Bool) (end : ℕ) → (module_at i (request_set which on end s)).power ≡ (module_at i s).power
  unfolding request_set requested_one
  asked_power which on end = part_any (module_asked which on) off_module (λ (m : Module). m.power) (λ k m. refl) s.modules i

  -- one of the eight after the end stage: as its end reaches zero, its request goes off
  pub at_ended : i < module_count → module_at i (ended s) ≡ with_request (when eqb (end_at i s) 1 then false else (module_at i s).requested) (module_at i s)
  unfolding ended
  at_ended low =
      at_unasked (ends_over s.ends)
      ∙ ap (λ (t : Bool). with_request (when t then false else (module_at i s).requested) (module_at i s)) (over_at i low s.ends)

-- the end of module i after the end stage, and after an order for it and for another
pub ended_end : (i : ℕ) (s : State) → end_at i (ended s) ≡ end_at i s - 1
unfolding ended
ended_end i s = fallen_at i s.ends

pub asked_end : (which : ℕ) (on : Bool) (end : ℕ) (s : State) → is_mission which ≡ true → end_at which (request_set which on end s) ≡ end
unfolding request_set
asked_end which on end s mission = set_at which end s.ends mission

pub other_end : (i which : ℕ) (on : Bool) (end : ℕ) (s : State) → (i ≡ which → ⊥) → end_at i (request_set which on end s) ≡ end_at i s
unfolding request_set
other_end i which on end s other = others_at i which end s.ends other

-- what is in a mask is among the eight: so are the core and the mission four
in_low : (mask i : ℕ) → mask < 256 → bit i mask ≡ true → i < module_count
in_low mask i small e = by (leb module_count i) refl
  where
    by : (t : Bool) → leb module_count i ≡ t → i < module_count
    by true t = absurd (true≢false (sym e ∙ bit_past module_count mask i small (leb-true module_count i t)))
    by false t = leb-false module_count i t

pub core_low : (i : ℕ) → is_core i ≡ true → i < module_count
core_low i e = in_low core_four i (lit< tt) e

pub mission_low : (i : ℕ) → is_mission i ≡ true → i < module_count
mission_low i e = in_low mission_four i (lit< tt) e

-- every module is one of the core four or of the mission four; both together are all
module _ (i : ℕ) (low : i < module_count) where
  pub core_or_mission : is_core i ≡ not (is_mission i)
  core_or_mission =
      agreed (is_core i) (not (is_mission i))
      (upto (λ k. when is_core k then not (is_mission k) else not (not (is_mission k))) module_count tt i low)

  all_allowed : bit i (core_four + mission_four) ≡ true
  all_allowed = is_true (bit i (core_four + mission_four)) (upto (λ k. bit k (core_four + mission_four)) module_count tt i low)

  none_allowed : bit i 0 ≡ false
  none_allowed = agreed (bit i 0) false (upto (λ k. when bit k 0 then false else true) module_count tt i low)

  -- mission modules are allowed in SAFE only
  pub mission_allowed : is_mission i ≡ true → (m : Mode) → bit i (allowed_in m) ≡ is_safe m
  mission_allowed e (DeployWait phase) = none_allowed
  mission_allowed e Recovery = rw e at core_or_mission
  mission_allowed e Safe = all_allowed

-- so what holds of both groups holds of every module
pub of_each : {A : Type 0} (i : ℕ) → i < module_count → (is_mission i ≡ true → A) → (is_core i ≡ true → A) → A
of_each {A} i low mission core = by (is_mission i) refl
  where
    by : (t : Bool) → is_mission i ≡ t → A
    by true e = mission e
    by false e = core (core_or_mission i low ∙ ap not e)

-- a core module is none of the mission four, and allowed outside DEPLOY_WAIT
module _ (i : ℕ) (core : is_core i ≡ true) where
  pub core_not_mission : is_mission i ≡ false
  core_not_mission = not-true (is_mission i) (sym (core_or_mission i (core_low i core)) ∙ core)

  pub core_allowed : (m : Mode) → bit i (allowed_in m) ≡ not (is_deploy_wait m)
  core_allowed (DeployWait phase) = none_allowed i (core_low i core)
  core_allowed Recovery = core
  core_allowed Safe = all_allowed i (core_low i core)
