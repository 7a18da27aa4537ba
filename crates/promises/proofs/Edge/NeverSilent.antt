-- Never silent, a hair more: not every 299 ticks, not every 59 in SAFE, and not in DEPLOY_WAIT.
-- Assumes nothing.
use mathlib.Core.Bool.{Bool, true, ◌&&◌}
use mathlib.Core.List.{List, [], ◌∷◌, ◌++◌}
use lib.Dec.{T, lit≤}
use Rattle.basics.proofs.ChoiceLaws.{is_true, and_left, and_right}
use Rattle.supervisor.specs.Fresh.{fresh_state}
use Rattle.supervisor.specs.State.{is_safe}
use Rattle.supervisor.specs.History.{Call, called, after}
use Rattle.supervisor.specs.declared.state.State.{State}
use Rattle.supervisor.proofs.Rules.{rules}
use Rattle.promises.specs.Deployment.{deployed}
use Rattle.promises.specs.NeverSilent.{DueIn, DueInSafe, SafeTicks}
use Rattle.promises.proofs.Edge.Flights.{seconds, to_recovery, to_safe, sent}

-- a board that enters RECOVERY has its first beacon due in the 300th tick after it
abbrev pub recovered : State
recovered = after fresh_state (sent to_recovery)

pub not_in_299 : DueIn deployed 299 → ⊥
unfolding rules
not_in_299 says = says recovered (sent (seconds 299)) tt (lit≤ tt)

-- in SAFE, after a tick in which a beacon was due, 59 ticks are without one
abbrev pub just_heard : State
just_heard = after fresh_state (sent (to_safe ++ seconds 30))

-- SAFE after each done tick, computed
abbrev all_safe : State → List Call → Bool
all_safe s [] = true
all_safe s (c ∷ cs) = is_safe (called s c).result.state.watch.mode && all_safe (called s c).result.state cs

safe_ticks : (cs : List Call) (s : State) → T (all_safe s cs) → SafeTicks s cs
safe_ticks [] s t = tt
safe_ticks (c ∷ cs) s t =
    let safe : Bool = is_safe (called s c).result.state.watch.mode in
    let later : Bool = all_safe (called s c).result.state cs in
    (λ d. is_true safe (and_left safe later t), safe_ticks cs (called s c).result.state (and_right safe later t))

pub not_in_59_safe : DueInSafe 59 → ⊥
unfolding rules
not_in_59_safe says = says just_heard (sent (seconds 59)) (safe_ticks (sent (seconds 59)) just_heard tt) (lit≤ tt)

-- the fresh board has none due in its first 300 ticks
pub not_in_deploy_wait : DueIn (λ s. true) 300 → ⊥
unfolding rules
not_in_deploy_wait says = says fresh_state (sent (seconds 300)) tt (lit≤ tt)
