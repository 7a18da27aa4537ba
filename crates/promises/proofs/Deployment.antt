-- Deployment ends, proved: the seconds left of it fall by one in each done tick.
-- Assumes nothing.
use Prim.Native.Nat.{ℕ, _+_, _-_, _≤_}
use native.Mathlib.Omega.{arith}
use mathlib.Core.Path.{_≡_, refl}
use mathlib.Core.Bool.{Bool, false, _||_, true≢false}
use mathlib.Core.List.{List, [], _∷_}
use lib.Dec.{T, eqb, ltb→lt}
use Rattle·basics.specs.Choice.{if_then_else_}
use Rattle·basics.proofs.ChoiceLaws.{and-left, either, within-low}
use Rattle·supervisor.specs.Range.{inRange, watchInRange, phaseInRange, waitSeconds, settleSeconds}
use Rattle·supervisor.specs.Fresh.{freshState}
use Rattle·supervisor.specs.Tick.{ticked, phaseTicked, controlled, moduleStage, beaconStage}
use Rattle·supervisor.specs.declared.state.Phase.{Phase}
use Rattle·supervisor.specs.declared.state.Phase.the-variants.{Waiting, Settling}
use Rattle·supervisor.specs.declared.state.Mode.{Mode}
use Rattle·supervisor.specs.declared.state.Mode.the-variants.{DeployWait, Recovery, Safe}
use Rattle·supervisor.specs.declared.state.State.{State}
use Rattle·supervisor.proofs.TickLaws.{inRange-phase}
use Rattle·promises·specs.specs.History.{Call, called, after, doneTick, doneTicks, isDeployWait, inDeployWait}
use Rattle·promises·specs.specs.Deployment.{Deployment}
use Rattle·promises·proofs.proofs.Calls.{Comes, stopped, second, other, comes}
use Rattle·promises·proofs.proofs.TickLaws.{Ticks, waits, runs, ticks, Controls, level, upward, downward, controls}
use Rattle·promises·proofs.proofs.ActLaws.{watch-still}
use Rattle·promises·proofs.proofs.InRange.{parts, after-in-range, fresh-in-range}

-- the seconds that are left of DEPLOY_WAIT
secondsLeft : Mode → ℕ
secondsLeft (DeployWait (Waiting waited)) = waitSeconds - waited + settleSeconds
secondsLeft (DeployWait (Settling left)) = left
secondsLeft Recovery = 0
secondsLeft Safe = 0

-- outside DEPLOY_WAIT there are none, and with none left the mode is outside
none-left : (m : Mode) → isDeployWait m ≡ false → secondsLeft m ≡ 0
unfolding secondsLeft
none-left (DeployWait phase) e = absurd (true≢false e)
none-left Recovery e = refl
none-left Safe e = refl

left-none : (m : Mode) (c b : ℕ) → T (watchInRange m c b) → secondsLeft m ≡ 0 → isDeployWait m ≡ false
unfolding secondsLeft
left-none (DeployWait (Waiting waited)) c b h e = absurd (omega arith)
left-none (DeployWait (Settling left)) c b h e = absurd (omega (arith, within-low 1 settleSeconds left (search (and-left))))
left-none Recovery c b h e = refl
left-none Safe c b h e = refl

-- a second of DEPLOY_WAIT takes one off
phase-left : (antennas : Bool) (p : Phase) → T (phaseInRange p) → secondsLeft (phaseTicked antennas p) ≤ secondsLeft (DeployWait p) - 1
unfolding secondsLeft
phase-left antennas (Waiting waited) h =
    either (λ (m : Mode). secondsLeft m ≤ waitSeconds - waited + settleSeconds - 1) (antennas || eqb (waited + 1) waitSeconds)
    (omega (arith, ltb→lt)) (omega (arith, ltb→lt))
phase-left antennas (Settling left) h = either (λ (m : Mode). secondsLeft m ≤ left - 1) (eqb (left - 1) 0) (omega arith) (omega arith)

-- a tick outside DEPLOY_WAIT stays outside
controlled-flies : (s : State) → isDeployWait (s .watch .mode) ≡ false → Controls s → isDeployWait (controlled s .watch .mode) ≡ false
controlled-flies s e (level count low w) = rw w e
controlled-flies s e (upward m w) = rw w refl
controlled-flies s e (downward m w) = rw w refl

pub ticked-flies : (shorts : ℕ) (s : State) → isDeployWait (s .watch .mode) ≡ false → Ticks shorts s → isDeployWait (ticked shorts s .state .watch .mode) ≡ false
unfolding beaconStage moduleStage
ticked-flies shorts s e (waits phase m w) = absurd (true≢false (rw m at e))
ticked-flies shorts s e (runs f w) = rw w (controlled-flies s e (controls s))

ticked-left : (shorts : ℕ) (s : State) → T (inRange s) → Ticks shorts s → secondsLeft (ticked shorts s .state .watch .mode) ≤ secondsLeft (s .watch .mode) - 1
ticked-left shorts s h (waits phase e w) =
    rw (w, e) (phase-left (s .antennas) phase (inRange-phase phase (s .watch .control) (s .watch .beacon) (rw e at (parts s h .watch))))
ticked-left shorts s h (runs e w) = omega (arith, none-left (ticked shorts s .state .watch .mode) (ticked-flies shorts s e (runs e w)))

-- a call takes off as many seconds as it is done ticks
left-after : (s : State) (c : Call) → Comes s c → secondsLeft (called s c .state .watch .mode) ≤ secondsLeft (s .watch .mode) - (if doneTick s c then 1 else 0)
left-after s c (stopped answer w) = rw (w .tick, w .left) (omega arith)
left-after s c (second shorts w) = rw (w .tick, w .left) (ticked-left shorts s (w .valid) (ticks shorts s))
left-after s c (other frame e w) = rw (w .tick, e, w .left, watch-still frame (w .fits) e s) (omega arith)

left-in-all : (cs : List Call) (s : State) → secondsLeft (after s cs .watch .mode) ≤ secondsLeft (s .watch .mode) - doneTicks s cs
left-in-all [] s = omega arith
left-in-all (c ∷ cs) s = omega (arith, left-in-all cs (called s c .state), left-after s c (comes s c))

-- a call outside DEPLOY_WAIT stays outside
stays-out : (s : State) (c : Call) → inDeployWait s ≡ false → Comes s c → inDeployWait (called s c .state) ≡ false
stays-out s c h (stopped answer w) = rw (w .left) h
stays-out s c h (second shorts w) = rw (w .left) (ticked-flies shorts s h (ticks shorts s))
stays-out s c h (other frame e w) = rw (w .left, watch-still frame (w .fits) e s) h

pub stays-over : (s : State) (cs : List Call) → inDeployWait s ≡ false → inDeployWait (after s cs) ≡ false
stays-over s [] h = h
stays-over s (c ∷ cs) h = stays-over (called s c .state) cs (stays-out s c h (comes s c))

pub deployment : Deployment
unfolding secondsLeft freshState
deployment =
    record {
      ends = λ cs h. left-none (after freshState cs .watch .mode) (after freshState cs .watch .control) (after freshState cs .watch .beacon)
          (parts (after freshState cs) (after-in-range cs freshState fresh-in-range) .watch) (omega (arith, left-in-all cs freshState));
      over = stays-over;
    }
