-- What two craft keep between them, for one mission module, and that control keeps it.
-- Assumes nothing.
use Prim.Native.Nat.{ℕ, ◌+◌, ◌≤◌}
use mathlib.Core.Path.{◌≡◌, refl, ap}
use mathlib.Core.Bool.{true}
use lib.Dec.{T, eqb}
use Rattle.std.specs.Prelude.{Option, Some}
use Rattle.basics.proofs.ChoiceLaws.{same_test}
use Rattle.modules.specs.Groups.{mission_four, is_mission}
use Rattle.modules.specs.declared.power.Module.{Module}
use Rattle.supervisor.specs.State.{with_control, is_safe, module_at, end_at}
use Rattle.supervisor.specs.Range.{judge_ticks}
use Rattle.supervisor.specs.Control.{crossed, controlled}
use Rattle.supervisor.specs.declared.control.Crossing.{Crossing}
use Rattle.supervisor.specs.declared.control.Crossing.TheVariants.{Downward}
use Rattle.supervisor.specs.declared.state.Mode.{Mode}
use Rattle.supervisor.specs.declared.state.Battery.{Battery}
use Rattle.supervisor.specs.declared.state.State.{State}
use Rattle.supervisor.proofs.ModuleLaws.{Eight, unasked_eight, at_unasked}
use Rattle.promises.proofs.TwoModes.{AtMost, even, behind, Cross, both_level, both_up, second_up, both_down, first_down, first_up}
use Rattle.promises.proofs.TwoModes.{second_down, crosses}

-- the same thresholds; the second's tension may be higher
abbrev pub Charged : Battery → Battery → Type 0
Charged a b = record { tension : a.tension ≤ b.tension; ascend : a.ascend ≡ b.ascend; descend : a.descend ≡ b.descend; apart : a.descend ≤ a.ascend }

-- the same antennas and serials
abbrev pub Shared : State → State → Type 0
Shared a b = record { antennas : a.antennas ≡ b.antennas; battery : Charged a.battery b.battery; serials : a.serials ≡ b.serials }

-- a mission module is requested on the first craft only in SAFE, and then on the second, with the same end
abbrev pub Asked : Mode → (m n : Module) → (end end' : ℕ) → Type 0
Asked mode m n end end' =
    record { quiet : T m.requested → T (is_safe mode); grows : T m.requested → T n.requested; ends : T m.requested → end ≡ end' }

-- the modes in order, the control counts the same, and module i requested on the second if on the first
abbrev pub Flown : ℕ → State → State → Type 0
Flown i a b =
    record {
      modes : AtMost a.watch.mode b.watch.mode;
      counts : a.watch.control ≡ b.watch.control;
      eight : Eight a;
      eight' : Eight b;
      asked : Asked a.watch.mode (module_at i a) (module_at i b) (end_at i a) (end_at i b);
    }

abbrev pub Beside : ℕ → State → State → Type 0
Beside i a b = record { shared : Shared a b; flown : Flown i a b }

module _ (i : ℕ) (mission : is_mission i ≡ true) where
  -- a crossing down drops a mission module's request
  down_asked : (s : State) → T (module_at i (crossed (Some Downward) (with_control 0 s))).requested → ⊥
  down_asked s t = rw (at_unasked s i mission_four, mission) at t

  module _ (a b : State) where
    -- control: upward leaves every request
    crossed_beside :
        (m n : Mode) (x y : Option Crossing) → a.watch.mode ≡ m → b.watch.mode ≡ n → Cross m n x y → Shared a b → Flown i a b →
        Beside i (crossed x (with_control 0 a)) (crossed y (with_control 0 b))
    crossed_beside m n x y e f (both_level o) s h =
        record { shared = s; flown = record { modes = h.modes; counts = refl; eight = h.eight; eight' = h.eight'; asked = h.asked } }
    crossed_beside m n x y e f both_up s h =
        record {
          shared = s;
          flown = record {
            modes = even;
            counts = refl;
            eight = h.eight;
            eight' = h.eight';
            asked = record { quiet = λ t. tt; grows = h.asked.grows; ends = h.asked.ends };
          };
        }
    crossed_beside m n x y e f second_up s h =
        record { shared = s; flown = record { modes = rw e behind; counts = refl; eight = h.eight; eight' = h.eight'; asked = h.asked } }
    crossed_beside m n x y e f both_down s h =
        record {
          shared = s;
          flown = record {
            modes = even;
            counts = refl;
            eight = unasked_eight a h.eight mission_four;
            eight' = unasked_eight b h.eight' mission_four;
            asked = record { quiet = λ t. absurd (down_asked a t); grows = λ t. absurd (down_asked a t); ends = λ t. absurd (down_asked a t) };
          };
        }
    crossed_beside m n x y e f first_down s h =
        record {
          shared = s;
          flown = record {
            modes = rw f behind;
            counts = refl;
            eight = unasked_eight a h.eight mission_four;
            eight' = h.eight';
            asked = record { quiet = λ t. absurd (down_asked a t); grows = λ t. absurd (down_asked a t); ends = λ t. absurd (down_asked a t) };
          };
        }
    crossed_beside m n x y e f first_up s h =
        record {
          shared = s;
          flown = record {
            modes = rw f even;
            counts = refl;
            eight = h.eight;
            eight' = h.eight';
            asked = record { quiet = λ t. tt; grows = h.asked.grows; ends = h.asked.ends };
          };
        }
    crossed_beside m n x y e f second_down s h =
        let none : T (module_at i a).requested → ⊥ = λ t. rw e at (h.asked.quiet t) in
        record {
          shared = s;
          flown = record {
            modes = rw e even;
            counts = refl;
            eight = h.eight;
            eight' = unasked_eight b h.eight' mission_four;
            asked = record { quiet = h.asked.quiet; grows = λ t. absurd (none t); ends = λ t. absurd (none t) };
          };
        }

    pub controlled_beside : Beside i a b → Beside i (controlled a) (controlled b)
    unfolding controlled
    controlled_beside h =
        let battery : Charged a.battery b.battery = h.shared.battery in
        let flown : Flown i a b = h.flown in
        same_test (Beside i) _ _ (ap (λ (n : ℕ). eqb (n + 1) judge_ticks) flown.counts)
        (crossed_beside a.watch.mode b.watch.mode _ _ refl refl
        (crosses flown.modes a.battery b.battery battery.tension battery.ascend battery.descend battery.apart) h.shared flown)
        (record {
          shared = h.shared;
          flown = record { modes = flown.modes; counts = ap (λ (n : ℕ). n + 1) flown.counts; eight = flown.eight; eight' = flown.eight'; asked = flown.asked };
        })
