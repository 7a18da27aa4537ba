-- The image flies, a hair more: a state out of range has no image of its own.
-- Assumes nothing.
use Prim.Native.Nat.{ℕ}
use native.Mathlib.Omega.{arith}
use mathlib.Core.Path.{◌≡◌, ap}
use mathlib.Core.List.{[]}
use Rattle.basics.specs.Outcome.{Outcome}
use Rattle.supervisor.specs.Fresh.{fresh_state}
use Rattle.supervisor.specs.State.{with_mode}
use Rattle.supervisor.specs.declared.state.Phase.TheVariants.{Settling}
use Rattle.supervisor.specs.declared.state.Mode.TheVariants.{DeployWait}
use Rattle.supervisor.specs.declared.state.State.{State}
use Rattle.supervisor.proofs.Rules.{rules}
use Rattle.flight.specs.Saving.{modules_bytes, masks_bytes, ends_bytes, message_bytes, head_bytes, saved}
use Rattle.flight.specs.Loading.{has_layout, message_in, ends_in, masks_in, modules_in, decoded, loaded}
use Rattle.flight.specs.Calls.{Imaged, step_image}
use Rattle.promises.specs.ImageFlies.{FliesFrom}
use Rattle.promises.proofs.Edge.Flights.{quiet, send}

-- settling with no second left, which no board is: its bytes are those of the last second of waiting
abbrev pub settled : State
settled = with_mode (DeployWait (Settling 0)) fresh_state

-- so a tick is done on its bytes, and refused on it
pub not_from_settled : FliesFrom settled → ⊥
unfolding rules modules_bytes masks_bytes ends_bytes message_bytes head_bytes saved has_layout message_in ends_in masks_in modules_in decoded loaded step_image
not_from_settled says = let e : ◌≡◌ {A = ℕ} 0 1 = ap (λ (o : Outcome (Imaged ℕ)). o.result.answer) (says.frames [] (send quiet)) in omega arith
