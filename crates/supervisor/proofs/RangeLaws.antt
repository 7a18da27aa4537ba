-- Laws of check 1: a state in range, part by part, and back.
-- Assumes nothing.
use Prim.Native.Nat.{ℕ, ◌<◌}
use mathlib.Core.Path.{◌≡◌}
use mathlib.Core.Bool.{true, false, ◌&&◌, true≢false}
use lib.Dec.{T, ltb, ltb→lt, lt→ltb, eqb→eq}
use Rattle.basics.proofs.ChoiceLaws.{holds, and_left, and_right, and_both}
use Rattle.modules.specs.Ends.{ends_in_range}
use Rattle.modules.specs.Stage.{modules_in_range}
use Rattle.modules.specs.Masks.{are_masks_of}
use Rattle.modules.proofs.MasksLaws.{masks_agree, masks_own}
use Rattle.supervisor.specs.State.{is_deploy_wait, HasMasks}
use Rattle.supervisor.specs.Range.{judge_ticks, basic_ticks, watch_in_range, battery_in_range, phase_in_range, message_in_range, in_range}
use Rattle.supervisor.specs.declared.state.Phase.{Phase}
use Rattle.supervisor.specs.declared.state.Mode.{Mode}
use Rattle.supervisor.specs.declared.state.Mode.TheVariants.{DeployWait, Recovery, Safe}
use Rattle.supervisor.specs.declared.state.State.{State}

-- the parts of check 1
abbrev pub Valid : State → Type 0
Valid s =
    record {
      watch : T (watch_in_range s.watch.mode s.watch.control s.watch.beacon);
      battery : T (battery_in_range s.battery);
      message : T (message_in_range s.message);
      ends : T (ends_in_range s.ends);
      modules : T (modules_in_range s.modules);
      masks : HasMasks s;
    }

pub parts : (s : State) → T (in_range s) → Valid s
unfolding in_range
parts s h =
    let agree : T (are_masks_of s.modules s.masks) = search (and_left, and_right) in
    record {
      watch = search (and_left, and_right);
      battery = search (and_left, and_right);
      message = search (and_left, and_right);
      ends = search (and_left, and_right);
      modules = search (and_left, and_right);
      masks = masks_agree s.modules s.masks agree;
    }

pub whole : (s : State) → Valid s → T (in_range s)
unfolding in_range
whole s v =
    let agree : T (are_masks_of s.modules s.masks) = rw v.masks (masks_own s.modules) in
    search (and_both, v, agree) depth 12

-- in range, the masks are true
pub masks_true : (s : State) → in_range s ≡ true → HasMasks s
masks_true s e = (parts s (holds (in_range s) e)).masks

-- in DEPLOY_WAIT: the phase, and both counts 0
pub phase_in_range_law : (phase : Phase) (control beacon : ℕ) → T (watch_in_range (DeployWait phase) control beacon) → T (phase_in_range phase)
phase_in_range_law phase control beacon h = search (and_left)

pub counts_zero : (phase : Phase) (control beacon : ℕ) → T (watch_in_range (DeployWait phase) control beacon) → (control ≡ 0) × (beacon ≡ 0)
counts_zero phase control beacon h = (eqb→eq control 0 (search (and_left, and_right)), eqb→eq beacon 0 (search (and_left, and_right)))

pub phase_watch :
    (phase : Phase) (control beacon : ℕ) → T (phase_in_range phase) → (control ≡ 0) × (beacon ≡ 0) → T (watch_in_range (DeployWait phase) control beacon)
phase_watch phase control beacon h z = rw (z.0, z.1) (search (and_both))

-- outside it: both counts are low
abbrev pub Low : (control beacon : ℕ) → Type 0
Low control beacon = record { control : control < judge_ticks; beacon : beacon < basic_ticks }

tested_low : (control beacon : ℕ) → T (ltb control judge_ticks && ltb beacon basic_ticks) → Low control beacon
tested_low control beacon h =
    record {
      control = ltb→lt control judge_ticks (and_left (ltb control judge_ticks) (ltb beacon basic_ticks) h);
      beacon = ltb→lt beacon basic_ticks (and_right (ltb control judge_ticks) (ltb beacon basic_ticks) h);
    }

pub low_tested : (control beacon : ℕ) → Low control beacon → T (ltb control judge_ticks && ltb beacon basic_ticks)
low_tested control beacon h =
    and_both (ltb control judge_ticks) (ltb beacon basic_ticks) (lt→ltb control judge_ticks h.control) (lt→ltb beacon basic_ticks h.beacon)

pub counts_low : (mode : Mode) (control beacon : ℕ) → is_deploy_wait mode ≡ false → T (watch_in_range mode control beacon) → Low control beacon
counts_low (DeployWait phase) control beacon e h = absurd (true≢false e)
counts_low Recovery control beacon e h = tested_low control beacon h
counts_low Safe control beacon e h = tested_low control beacon h

pub counts_watch : (mode : Mode) (control beacon : ℕ) → is_deploy_wait mode ≡ false → Low control beacon → T (watch_in_range mode control beacon)
counts_watch (DeployWait phase) control beacon e h = absurd (true≢false e)
counts_watch Recovery control beacon e h = low_tested control beacon h
counts_watch Safe control beacon e h = low_tested control beacon h

-- both counts of a state in range, outside DEPLOY_WAIT
pub counts_of : (s : State) → T (in_range s) → is_deploy_wait s.watch.mode ≡ false → Low s.watch.control s.watch.beacon
counts_of s h e = counts_low s.watch.mode s.watch.control s.watch.beacon e (parts s h).watch
