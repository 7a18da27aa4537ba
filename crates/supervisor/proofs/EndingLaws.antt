-- The ends stage and control may be swapped: the state is the same either way. The page has the ends first.
-- Assumes nothing.
use Prim.Native.Nat.{◌+◌}
use mathlib.Core.Path.{◌≡◌, refl, sym, ap, ◌∙◌}
use mathlib.Core.Bool.{Bool, true, false}
use lib.Dec.{eqb}
use Rattle.std.specs.Prelude.{Option, None, Some}
use Rattle.modules.specs.Groups.{mission_four}
use Rattle.modules.specs.Ends.{no_ends, ends_fallen, ends_over}
use Rattle.modules.specs.Stage.{requested_by}
use Rattle.modules.proofs.EndsLaws.{over_mission}
use Rattle.modules.proofs.StageLaws.{requested_none, requested_wider}
use Rattle.supervisor.specs.State.{with_control, with_ends, with_modules, with_mode}
use Rattle.supervisor.specs.Range.{judge_ticks}
use Rattle.supervisor.specs.Ending.{ended}
use Rattle.supervisor.specs.Control.{crossing_of, crossed, controlled}
use Rattle.supervisor.specs.declared.state.Mode.TheVariants.{Recovery}
use Rattle.supervisor.specs.declared.control.Crossing.{Crossing}
use Rattle.supervisor.specs.declared.control.Crossing.TheVariants.{Upward, Downward}
use Rattle.supervisor.specs.declared.state.State.{State}

crossed_either : (x : Option Crossing) (s : State) → crossed x (ended s) ≡ ended (crossed x s)
unfolding ended ends_fallen ends_over
crossed_either None s = refl
crossed_either (Some Upward) s = refl
crossed_either (Some Downward) s =
    ap (λ ms. with_modules ms (with_ends no_ends (with_mode Recovery s)))
    (requested_wider mission_four (ends_over s.ends) false (λ i e. over_mission i s.ends e) s.modules
    ∙ sym (requested_none false (requested_by mission_four false s.modules)))

pub ends_or_control : (s : State) → controlled (ended s) ≡ ended (controlled s)
unfolding controlled ended
ends_or_control s = by (eqb (s.watch.control + 1) judge_ticks) refl
  where
    by : (t : Bool) → eqb (s.watch.control + 1) judge_ticks ≡ t → controlled (ended s) ≡ ended (controlled s)
    by true t = rw t (crossed_either (crossing_of s.watch.mode s.battery) (with_control 0 s))
    by false t = rw t
