-- As many as are on, a hair more: not as many as are requested; not where there is no report; not from every state; and
-- true masks alone are not enough for a count.
-- Assumes nothing.
use Prim.Native.Nat.{ℕ}
use native.Mathlib.Omega.{arith}
use mathlib.Core.Path.{◌≡◌, refl, ap}
use mathlib.Core.Bool.{true, false≢true}
use mathlib.Core.List.{[]}
use lib.Count.{ones, ones_in}
use lib.ListN.{replicate}
use Rattle.std.proofs.Common.{Result, is_ok}
use Rattle.std.specs.Result.{result_unwrap_or}
use Rattle.modules.specs.Masks.{count_on}
use Rattle.modules.specs.declared.masks.Masks.{Masks}
use Rattle.frames.specs.declared.answer.Answer.{Answer}
use Rattle.supervisor.specs.State.{HasMasks}
use Rattle.supervisor.specs.Fresh.{fresh_state}
use Rattle.supervisor.specs.History.{Call, called}
use Rattle.supervisor.specs.declared.state.State.{State}
use Rattle.supervisor.proofs.Rules.{rules}
use Rattle.counting.specs.Counting.{modules_on_of}
use Rattle.promises.specs.Counted.{Reached, ShownWhere, Counts}
use Rattle.promises.proofs.Edge.Flights.{quiet, send}
use Rattle.promises.proofs.Edge.InRange.{overdue}

-- at the fresh start four are requested, and none is on
pub not_the_requested : Reached (Counts (λ s. ones s.masks.requested)) → ⊥
unfolding rules modules_on_of count_on ones ones_in
not_the_requested says = let z : ◌≡◌ {A = ℕ} 0 4 = ap (λ (r : Result ℕ Answer). result_unwrap_or r 0) (says []) in omega arith

-- a call without input leaves the room as it was
abbrev pub no_input : Call
no_input = record { input = []; room = replicate 11 255 }

pub not_without_a_report : ShownWhere (λ answer. true) → ⊥
unfolding rules
not_without_a_report says = let z : ◌≡◌ {A = ℕ} 255 0x27 = ap (λ (m : Masks). m.requested) (says [] no_input refl) in omega arith

-- a fresh start whose on mask has gained a bit: it is refused, and stays as it is
abbrev pub flipped : State
flipped =
    record {
      watch = fresh_state.watch;
      antennas = fresh_state.antennas;
      masks = record { requested = 0x27; on = 16; failed = 0 };
      battery = fresh_state.battery;
      serials = fresh_state.serials;
      message = fresh_state.message;
      ends = fresh_state.ends;
      modules = fresh_state.modules;
    }

pub not_from_any_state : ((s : State) (c : Call) → HasMasks (called s c).result.state) → ⊥
unfolding rules
not_from_any_state says = let z : ◌≡◌ {A = ℕ} 16 0 = ap (λ (m : Masks). m.on) (says flipped (send quiet)) in omega arith

-- a state with true masks whose control count is 30: refused with 1
pub not_by_masks_alone : ((s : State) → HasMasks s → Counts (λ t. count_on t.modules) s) → ⊥
unfolding rules modules_on_of
not_by_masks_alone says = absurd (false≢true (ap is_ok (says overdue refl)))
