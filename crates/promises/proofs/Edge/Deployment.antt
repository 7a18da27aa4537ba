-- Deployment ends, a hair more: not in 87,299 ticks.
-- Assumes nothing.
use Prim.Native.Nat.{ℕ, zero, suc, ◌+◌, ◌≤◌, ◌<◌}
use native.Mathlib.Nat.{add-zero}
use native.Mathlib.Omega.{arith}
use mathlib.Core.Path.{◌≡◌, refl, sym, ap, subst, ◌∙◌}
use mathlib.Core.Bool.{true, true≢false}
use mathlib.Core.List.{List, ◌++◌}
use lib.Dec.{lit≤, lit<}
use borrow.Author.Tests.{lt-ltb, ne_eqb}
use Rattle.supervisor.specs.Fresh.{fresh_state}
use Rattle.supervisor.specs.State.{with_mode, in_deploy_wait}
use Rattle.supervisor.specs.History.{called, after, done_tick, done_ticks}
use Rattle.supervisor.specs.declared.state.Phase.TheVariants.{Waiting}
use Rattle.supervisor.specs.declared.state.Mode.TheVariants.{DeployWait}
use Rattle.supervisor.specs.declared.state.State.{State}
use Rattle.supervisor.proofs.Rules.{rules}
use Rattle.promises.specs.Deployment.{EndsIn}
use Rattle.promises.proofs.Edge.Flights.{quiet, seconds, send, sent}

-- the antennas are never reported: after 87,299 ticks the board still settles, with 1 second left
abbrev pub never_reported : List (List ℕ)
never_reported = seconds 86399 ++ seconds 900

-- so long waited, from the fresh start
abbrev waiting : ℕ → State
waiting waited = with_mode (DeployWait (Waiting waited)) fresh_state

-- one tick more, before the day is over
one_waits : (w : ℕ) → w + 1 < 86400 → ((called (waiting w) (send quiet)).result.state ≡ waiting (w + 1)) × (done_tick (waiting w) (send quiet) ≡ true)
unfolding rules
one_waits w h = (rw (lt-ltb w 86400 (omega arith), ne_eqb (w + 1) 86400 (omega arith)), rw (lt-ltb w 86400 (omega arith)))

-- n ticks more
waits :
    (n w : ℕ) → w + n < 86400 → (frames : List (List ℕ)) →
    (after (waiting w) (sent (seconds n ++ frames)) ≡ after (waiting (w + n)) (sent frames))
    × (done_ticks (waiting w) (sent (seconds n ++ frames)) ≡ n + done_ticks (waiting (w + n)) (sent frames))
waits zero w h frames = rw add-zero (refl, omega arith)
waits (suc n) w h frames =
    let (next, done) = one_waits w (omega arith) in
    let e : w + 1 + n ≡ w + suc n = omega arith in
    let (state, ticks) = waits n (w + 1) (omega arith) frames in
    (ap (λ (s : State). after s (sent (seconds n ++ frames))) next ∙ state ∙ ap (λ (k : ℕ). after (waiting k) (sent frames)) e, rw (next, done, ← e) (omega (arith, ticks)))

pub not_in_87299 : EndsIn 87299 → ⊥
unfolding rules
not_in_87299 says =
    let (state, ticks) = waits 86399 0 (lit< tt) (seconds 900) in
    true≢false (sym (ap in_deploy_wait state) ∙ says fresh_state (sent never_reported) (subst (λ (n : ℕ). 87299 ≤ n) (sym ticks) (lit≤ tt)))
