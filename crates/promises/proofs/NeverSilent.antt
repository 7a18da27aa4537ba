-- Never silent, proved: while no beacon falls due the beacon count grows with the done ticks, and it stays below 300.
-- Assumes nothing.
use Prim.Native.Nat.{◌+◌, ◌%◌, ◌<◌}
use native.Mathlib.Omega.{arith}
use mathlib.Core.Path.{◌≡◌, refl}
use mathlib.Core.Bool.{Bool, true, false, ◌||◌, true≢false}
use mathlib.Core.List.{List, [], ◌∷◌}
use lib.Dec.{T}
use borrow.Author.Tests.{not-true}
use Rattle.basics.proofs.ChoiceLaws.{is_true, holds}
use Rattle.supervisor.specs.Range.{in_range, complete_ticks}
use Rattle.supervisor.specs.History.{Call, called, after, done_ticks}
use Rattle.supervisor.specs.State.{in_deploy_wait}
use Rattle.supervisor.specs.declared.state.State.{State}
use Rattle.supervisor.proofs.HistoryLaws.{after_in_range}
use Rattle.supervisor.proofs.RangeLaws.{counts_of}
use Rattle.promises.specs.Deployment.{deployed}
use Rattle.promises.specs.NeverSilent.{NeverSilent, beacon_due, some_due, SafeTicks, five_minutes}
use Rattle.promises.proofs.OnlyTicks.{turn}
use Rattle.promises.proofs.OutOfRange.{no_ticks}
use Rattle.promises.proofs.Deployment.{stays_over}
use Rattle.promises.proofs.BeaconLaws.{call_count, call_sixty}

neither : (a b : Bool) → a || b ≡ false → (a ≡ false) × (b ≡ false)
neither true b e = absurd (true≢false e)
neither false b e = (refl, e)

-- the beacon count after a silent history
silent_count : (cs : List Call) (s : State) → in_deploy_wait s ≡ false → some_due s cs ≡ false → (after s cs).watch.beacon ≡ s.watch.beacon + done_ticks s cs
silent_count [] s out h = omega arith
silent_count (c ∷ cs) s out h =
    let (here, later) = neither (beacon_due s c) (some_due (called s c).result.state cs) h in
    omega (arith, silent_count cs (called s c).result.state (stays_over s (c ∷ []) out) later, call_count s c here out (turn s c))

silent_sixty : (cs : List Call) (s : State) → SafeTicks s cs → some_due s cs ≡ false → (after s cs).watch.beacon % complete_ticks ≡ s.watch.beacon % complete_ticks + done_ticks s cs
silent_sixty [] s safe h = omega arith
silent_sixty (c ∷ cs) s safe h =
    let (here, later) = neither (beacon_due s c) (some_due (called s c).result.state cs) h in
    omega (arith, silent_sixty cs (called s c).result.state safe.1 later, call_sixty s c here safe.0 (turn s c))

below_five_minutes : (cs : List Call) (s : State) (valid : Bool) → in_range s ≡ valid → in_deploy_wait s ≡ false → some_due s cs ≡ false → done_ticks s cs < five_minutes
below_five_minutes cs s false e out h = omega (arith, no_ticks cs s e)
below_five_minutes cs s true e out h =
    let t : State = after s cs in
    let valid : T (in_range t) = after_in_range cs s (holds (in_range s) e) in
    omega (arith, silent_count cs s out h, (counts_of t valid (stays_over s cs out)).beacon)

-- what is not silent has a beacon due
not_silent : (due : Bool) → (due ≡ false → ⊥) → T due
not_silent true h = tt
not_silent false h = absurd (h refl)

pub never_silent : NeverSilent
never_silent =
    record {
      always = λ s cs out many. not_silent (some_due s cs) (λ h. omega (arith, below_five_minutes cs s (in_range s) refl (not-true (in_deploy_wait s) (is_true (deployed s) out)) h));
      safe = λ s cs safe many. not_silent (some_due s cs) (λ h. omega (arith, silent_sixty cs s safe h));
    }
