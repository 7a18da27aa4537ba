-- Powered for a reason, a hair more: not in DEPLOY_WAIT, not judged before the tick, and not if it was failed.
-- Assumes nothing.
use Prim.Native.Nat.{ℕ}
use mathlib.Core.Bool.{true}
use mathlib.Core.List.{List, [], ◌∷◌, ◌++◌}
use lib.ListN.{replicate}
use Rattle.modules.specs.declared.power.Power.TheVariants.{On, Off}
use Rattle.supervisor.specs.Fresh.{fresh_state}
use Rattle.supervisor.specs.State.{with_modules}
use Rattle.supervisor.specs.History.{after}
use Rattle.supervisor.specs.declared.state.State.{State}
use Rattle.supervisor.proofs.Rules.{rules}
use Rattle.promises.specs.Deployment.{deployed}
use Rattle.promises.specs.ForAReason.{OnMeansWanted, WantedMeansOn, afterwards}
use Rattle.promises.proofs.Edge.Flights.{quiet, short, comm2, camera, camera_on, to_safe, about_to_rise, send, sent}

-- a state in range, of no flight: all modules on in DEPLOY_WAIT, where a tick switches nothing
abbrev pub lit_too_soon : State
lit_too_soon = with_modules (replicate 8 (record { power = On 5 0; requested = true })) fresh_state

pub not_in_deploy_wait : OnMeansWanted (λ s. true) afterwards → ⊥
unfolding rules
not_in_deploy_wait says = says comm2 lit_too_soon (send quiet) tt tt tt

-- another, of RECOVERY: all modules requested, and the next tick crosses upward. That allows the camera, which is on after it
abbrev pub asked_too_soon : State
asked_too_soon = with_modules (replicate 8 (record { power = Off 5; requested = true })) (after fresh_state (sent about_to_rise))

pub not_judged_before : OnMeansWanted deployed (λ before after. before) → ⊥
unfolding rules
not_judged_before says = says camera asked_too_soon (send quiet) tt tt tt

-- the camera, failed by five shorts, is wanted and not short, and waits
abbrev pub camera_failed : List (List ℕ)
camera_failed = to_safe ++ (camera_on 1 ∷ short 16 ∷ short 16 ∷ short 16 ∷ short 16 ∷ short 16 ∷ [])

pub not_if_failed : WantedMeansOn deployed (λ power. true) → ⊥
unfolding rules
not_if_failed says = says camera (after fresh_state (sent camera_failed)) (send quiet) tt tt tt tt
