-- As told, a hair more: not by orders alone, of the camera too, and not after any call.
-- Assumes nothing.
use Prim.Native.Nat.{ℕ}
use mathlib.Core.Path.{refl}
use mathlib.Core.Bool.{true, false≢true}
use mathlib.Core.List.{List, ◌++◌}
use lib.Dec.{lit<}
use Rattle.basics.specs.Choice.{bit}
use Rattle.supervisor.proofs.Rules.{rules}
use Rattle.promises.specs.AsTold.{Requested, AsOrdered, OnAfter}
use Rattle.promises.proofs.Edge.Flights.{camera, camera_off, camera_runs, seconds, about_to_fall, send, sent}

-- the camera's request is dropped by a crossing down, though the last order said "on"
abbrev pub camera_falls : List (List ℕ)
camera_falls = about_to_fall ++ seconds 1

pub not_by_orders_alone : Requested (λ mission before after word. word) → ⊥
unfolding rules
not_by_orders_alone says = false≢true (says camera (lit< tt) (sent camera_falls))

pub not_the_camera_as_ordered : AsOrdered (λ i. bit i 0x37) → ⊥
unfolding rules
not_the_camera_as_ordered says = false≢true (says camera refl (sent camera_falls))

-- the camera is on and is ordered off: it stays on until the next tick, though the last word was "off"
pub not_after_any_call : OnAfter (λ s c. true) → ⊥
unfolding rules
not_after_any_call says = says camera (lit< tt) (sent camera_runs) (send (camera_off 2)) tt tt
