-- What two craft keep between them is kept by a tick.
-- Assumes nothing.
use Prim.Native.Nat.{ℕ}
use mathlib.Core.Path.{◌≡◌, refl}
use mathlib.Core.Bool.{true}
use lib.Dec.{T}
use Rattle.modules.specs.Groups.{is_mission}
use Rattle.supervisor.specs.State.{with_mode, module_at}
use Rattle.supervisor.specs.Tick.{ticked, ticked_in, before_modules, module_stage, stages}
use Rattle.supervisor.specs.Deploy.{phase_ticked}
use Rattle.supervisor.specs.Due.{beacon_stage}
use Rattle.supervisor.specs.declared.state.Phase.{Phase}
use Rattle.supervisor.specs.declared.state.Mode.{Mode}
use Rattle.supervisor.specs.declared.state.Mode.TheVariants.{DeployWait, Recovery, Safe}
use Rattle.supervisor.specs.declared.state.State.{State}
use Rattle.supervisor.proofs.ModuleLaws.{stage_eight, at_stage}
use Rattle.promises.proofs.TwoModes.{AtMost, even, behind}
use Rattle.promises.proofs.TwoControl.{Beside}
use Rattle.promises.proofs.TwoEnds.{before_beside}

module _ (i : ℕ) (mission : is_mission i ≡ true) where
  module _ (a b : State) where
    -- the module stage requests nothing
    staged_beside : (shorts : ℕ) → Beside i a b → Beside i (module_stage shorts a) (module_stage shorts b)
    unfolding module_stage
    staged_beside shorts h =
        record {
          shared = h.shared;
          flown = record {
            modes = h.flown.modes;
            counts = h.flown.counts;
            eight = stage_eight a h.flown.eight shorts;
            eight' = stage_eight b h.flown.eight' shorts;
            asked = rw (at_stage a i shorts, at_stage b i shorts) h.flown.asked;
          };
        }

    -- a second of DEPLOY_WAIT, the same on both
    waited_beside :
        (phase : Phase) → a.watch.mode ≡ DeployWait phase → Beside i a b →
        Beside i (with_mode (phase_ticked a.antennas phase) a) (with_mode (phase_ticked b.antennas phase) b)
    waited_beside phase e h =
        let none : T (module_at i a).requested → ⊥ = λ t. rw e at (h.flown.asked.quiet t) in
        record {
          shared = h.shared;
          flown = record {
            modes = rw h.shared.antennas even;
            counts = h.flown.counts;
            eight = h.flown.eight;
            eight' = h.flown.eight';
            asked = record { quiet = λ t. absurd (none t); grows = λ t. absurd (none t); ends = λ t. absurd (none t) };
          };
        }

  stages_beside : (shorts : ℕ) (a b : State) → Beside i a b → Beside i (stages shorts a).state (stages shorts b).state
  unfolding beacon_stage
  stages_beside shorts a b h = staged_beside (before_modules a) (before_modules b) shorts (before_beside i mission a b h)

  in_modes : (m n : Mode) → AtMost m n → (shorts : ℕ) (a b : State) → a.watch.mode ≡ m → Beside i a b → Beside i (ticked_in m shorts a).state (ticked_in n shorts b).state
  in_modes m n (even {m = DeployWait phase}) shorts a b e h = waited_beside a b phase e h
  in_modes m n (even {m = Recovery}) shorts a b e h = stages_beside shorts a b h
  in_modes m n (even {m = Safe}) shorts a b e h = stages_beside shorts a b h
  in_modes m n behind shorts a b e h = stages_beside shorts a b h

  pub ticked_beside : (shorts : ℕ) (a b : State) → Beside i a b → Beside i (ticked shorts a).state (ticked shorts b).state
  unfolding ticked
  ticked_beside shorts a b h = in_modes a.watch.mode b.watch.mode h.flown.modes shorts a b refl h
