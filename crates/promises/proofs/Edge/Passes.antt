-- The better battery, pass by pass, a hair more: room that lacks a byte, on either craft. Both are false.
-- Assumes nothing.
use Prim.Native.Nat.{ℕ, ◌-◌, ◌*◌}
use native.Mathlib.Omega.{arith}
use mathlib.Core.List.{List, [], ◌∷◌, ◌++◌, flatten}
use lib.Dec.{lit<, lit≤}
use lib.ListN.{length, replicate}
use Rattle.frames.specs.Cut.{cut_of, front_of}
use Rattle.frames.specs.Kind.{report_bytes}
use Rattle.supervisor.proofs.Rules.{rules}
use Rattle.pass.specs.Pass.{frames_up_to, frames_in, in_order, pass_of}
use Rattle.pass.specs.Flight.{Pass, singles}
use Rattle.promises.specs.TwoCraft.{in_reach}
use Rattle.promises.specs.Passes.{PairedPasses, no_pass, next_pass, PassByPassBut}
use Rattle.promises.proofs.Edge.Flights.{camera, camera_off, to_recovery, camera_runs}
use Rattle.promises.proofs.Edge.TwoCraft.{same_calls}

-- a flight in one pass, with room for its reports but for so many bytes
abbrev in_one_pass : (missing : ℕ) → List (List ℕ) → List Pass
in_one_pass missing frames = record { input = flatten frames; room = replicate (report_bytes * length frames - missing) 255 } ∷ []

-- the tick that ends the deployment has no room for its report on the second craft, which stays in DEPLOY_WAIT
pub not_if_second_lacks_a_byte : PassByPassBut 0 1 → ⊥
unfolding rules frames_up_to frames_in cut_of front_of in_order pass_of flatten
not_if_second_lacks_a_byte says =
    let paired : PairedPasses 0 1 (in_one_pass 0 to_recovery) (in_one_pass 1 to_recovery) =
    next_pass (lit≤ tt) (lit≤ tt) (same_calls in_reach (singles (frames_in (flatten to_recovery)))) no_pass in
    omega (arith, (says (in_one_pass 0 to_recovery) (in_one_pass 1 to_recovery) paired 1).mode)

-- the camera's "off" has none on the first, where it stays requested
abbrev pub camera_stopped : List (List ℕ)
camera_stopped = camera_runs ++ (camera_off 2 ∷ [])

pub not_if_first_lacks_a_byte : PassByPassBut 1 0 → ⊥
unfolding rules frames_up_to frames_in cut_of front_of in_order pass_of flatten
not_if_first_lacks_a_byte says =
    let paired : PairedPasses 1 0 (in_one_pass 1 camera_stopped) (in_one_pass 0 camera_stopped) =
    next_pass (lit≤ tt) (lit≤ tt) (same_calls in_reach (singles (frames_in (flatten camera_stopped)))) no_pass in
    (says (in_one_pass 1 camera_stopped) (in_one_pass 0 camera_stopped) paired 1).requested camera (lit< tt) tt
