-- Only ticks, a hair more: requests are changed by others than ticks, and by ticks too; so are ends, and a message's repeats.
-- Assumes nothing.
use Prim.Native.Nat.{ℕ}
use native.Mathlib.Omega.{arith}
use mathlib.Core.Path.{◌≡◌, refl}
use mathlib.Core.Bool.{Bool, false≢true}
use mathlib.Core.List.{List, [], ◌∷◌, ◌++◌}
use Rattle.supervisor.specs.Fresh.{fresh_state}
use Rattle.supervisor.specs.State.{module_at, end_at}
use Rattle.supervisor.specs.History.{after}
use Rattle.supervisor.proofs.Rules.{rules}
use Rattle.promises.specs.OnlyTicks.{OthersLeave, TicksLeave}
use Rattle.promises.proofs.Edge.Flights.{quiet, comm2, camera, comm2_off, camera_for, greeting, hi}
use Rattle.promises.proofs.Edge.Flights.{seconds, to_safe, about_to_fall, send, sent}

-- the fresh board and an "off" for COMM2: its request goes at once
pub not_requests_by_others : OthersLeave Bool (λ s. (module_at comm2 s).requested) → ⊥
unfolding rules
not_requests_by_others says = false≢true (says fresh_state (send (comm2_off 1)) refl)

-- the tick that crosses downward drops the camera's
pub not_requests_by_ticks : TicksLeave Bool (λ s. (module_at camera s).requested) → ⊥
unfolding rules
not_requests_by_ticks says = false≢true (says (after fresh_state (sent about_to_fall)) (send quiet) tt)

-- in SAFE the camera is ordered on for a minute: its end is 60, and 59 after a tick
pub not_ends_by_others : OthersLeave ℕ (λ s. end_at camera s) → ⊥
unfolding rules
not_ends_by_others says = let e : ◌≡◌ {A = ℕ} 60 0 = says (after fresh_state (sent to_safe)) (send (camera_for 1 1)) refl in omega arith

abbrev pub minute_begun : List (List ℕ)
minute_begun = to_safe ++ (camera_for 1 1 ∷ [])

pub not_ends_by_ticks : TicksLeave ℕ (λ s. end_at camera s) → ⊥
unfolding rules
not_ends_by_ticks says = let e : ◌≡◌ {A = ℕ} 59 60 = says (after fresh_state (sent minute_begun)) (send quiet) tt in omega arith

-- a greeting sets how often it is to be sent
pub not_repeats_by_others : OthersLeave ℕ (λ s. s.message.repeats) → ⊥
unfolding rules
not_repeats_by_others says = let e : ◌≡◌ {A = ℕ} 1 0 = says fresh_state (send (greeting 1 1 hi)) refl in omega arith

-- in SAFE, with a beacon due in the next tick, that takes one
abbrev pub about_to_greet : List (List ℕ)
about_to_greet = to_safe ++ (greeting 1 1 hi ∷ seconds 29)

pub not_repeats_by_ticks : TicksLeave ℕ (λ s. s.message.repeats) → ⊥
unfolding rules
not_repeats_by_ticks says = let e : ◌≡◌ {A = ℕ} 0 1 = says (after fresh_state (sent about_to_greet)) (send quiet) tt in omega arith
