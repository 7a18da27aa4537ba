-- Serials by themselves, a hair more: they do not tell the answer.
-- Assumes nothing.
use Prim.Native.Nat.{ℕ}
use native.Mathlib.Omega.{arith}
use mathlib.Core.Path.{◌≡◌, refl}
use mathlib.Core.List.{[]}
use lib.Dec.{lit≤}
use Rattle.frames.specs.declared.sender.Origin.TheVariants.{Ground}
use Rattle.supervisor.specs.History.{Call}
use Rattle.supervisor.proofs.Rules.{rules}
use Rattle.promises.specs.Serials.{SerialsTell}
use Rattle.promises.proofs.Edge.Flights.{camera_on, to_safe, send, sent, sent_roomy}

-- ground's first frame, an "on" for the camera: answered 10 in DEPLOY_WAIT, and 0 in SAFE
abbrev pub first_order : Call
first_order = send (camera_on 1)

pub not_the_answer : SerialsTell ℕ (λ answer. answer) → ⊥
unfolding rules
not_the_answer says =
    let same : ◌≡◌ {A = ℕ} 10 0 = (says Ground [] (sent to_safe) tt (sent_roomy to_safe) refl 1 first_order first_order (lit≤ tt) (lit≤ tt) refl refl).same in
    omega arith
