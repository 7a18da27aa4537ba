-- Quiet, a hair more: what was ordered off is on until the next tick.
-- Assumes nothing.
use mathlib.Core.Path.{refl}
use mathlib.Core.Bool.{true≢false}
use mathlib.Core.List.{[]}
use lib.Dec.{lit<, lit≤}
use Rattle.supervisor.proofs.Rules.{rules}
use Rattle.promises.specs.Quiet.{QuietAfter, SwitchedOff}
use Rattle.promises.proofs.Edge.Flights.{comm2, comm2_off, to_safe, send, sent}

-- COMM2 is on in SAFE and is ordered off: it stays on until the next tick
pub not_quiet_at_once : QuietAfter 0 → ⊥
unfolding rules
not_quiet_at_once says =
    let off : SwitchedOff comm2 (sent to_safe) (send (comm2_off 1)) [] = record { order = refl; done = refl; none_on = tt } in
    true≢false ((says comm2 (sent to_safe) (send (comm2_off 1)) [] (lit< tt) off).power (lit≤ tt))
