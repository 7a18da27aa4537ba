-- It ends, a hair more: not a tick sooner, and not a tick later.
-- Assumes nothing.
use Prim.Native.Nat.{ℕ, ◌+◌, ◌-◌, ◌*◌}
use mathlib.Core.Path.{refl}
use mathlib.Core.Bool.{true≢false, false≢true}
use lib.Dec.{T, lit≤, lit<}
use Rattle.frames.specs.declared.sender.Origin.TheVariants.{Ground}
use Rattle.supervisor.specs.Fresh.{fresh_state}
use Rattle.supervisor.specs.History.{Call, called, after}
use Rattle.supervisor.specs.declared.state.State.{State}
use Rattle.supervisor.proofs.Rules.{rules}
use Rattle.promises.specs.ItEnds.{StillAsked, OverBy, Runs, left_alone}
use Rattle.promises.proofs.Edge.Flights.{camera, camera_for, seconds, to_safe, send, sent}

-- in SAFE the camera is ordered on for a minute, with serial 1
abbrev pub in_safe : State
in_safe = after fresh_state (sent to_safe)

abbrev pub for_aMinute : Call
for_aMinute = send (camera_for 1 1)

-- then come so many ticks, and nothing else
minute_runs : (n : ℕ) → T (left_alone camera (called in_safe for_aMinute).result.state (sent (seconds n))) → Runs camera 1 in_safe for_aMinute (sent (seconds n))
unfolding rules
minute_runs n alone =
    record { begins = record { eight = refl; sender = record { origin = Ground; serial = 1 }; order = refl; done = refl }; alone = alone }

-- after 59 it is requested
pub not_a_tick_sooner : OverBy (λ minutes. 60 * minutes - 1) → ⊥
unfolding rules
not_a_tick_sooner says = true≢false (says camera 1 in_safe for_aMinute (sent (seconds 59)) (minute_runs 59 tt) (lit≤ tt)).requested

-- after 60 it is not
pub not_a_tick_later : StillAsked (λ minutes. 60 * minutes + 1) → ⊥
unfolding rules
not_a_tick_later says = false≢true (says camera 1 in_safe for_aMinute (sent (seconds 60)) (minute_runs 60 tt) (lit< tt))
