-- Calls in which no beacon falls due: a done tick then adds one to the beacon count, which in SAFE is no multiple of 60.
-- Assumes nothing.
use Prim.Native.Nat.{ℕ, ◌+◌, ◌-◌, ◌%◌}
use native.Mathlib.Omega.{arith}
use mathlib.Core.Path.{◌≡◌, refl, ap, ◌∙◌}
use mathlib.Core.Bool.{Bool, true, false, not, ◌||◌, true≢false, false≢true}
use lib.Dec.{T, eqb}
use lib.ListN.{get_or}
use borrow.Author.Tests.{eqb-true}
use Rattle.basics.specs.Choice.{when◌then◌else◌}
use Rattle.basics.proofs.ChoiceLaws.{either}
use Rattle.frames.specs.declared.frame.Frame.TheVariants as frame
use Rattle.supervisor.specs.State.{in_deploy_wait, is_safe}
use Rattle.supervisor.specs.Range.{wait_seconds, complete_ticks}
use Rattle.supervisor.specs.Tick.{ticked, before_modules, module_stage}
use Rattle.supervisor.specs.Acted.{due_number}
use Rattle.supervisor.specs.Deploy.{phase_ticked}
use Rattle.supervisor.specs.Report.{beacon_byte}
use Rattle.supervisor.specs.Message.{is_to_be_sent}
use Rattle.supervisor.specs.Due.{beacon_stage, due_at}
use Rattle.supervisor.specs.History.{Call, called, done_tick}
use Rattle.supervisor.specs.declared.state.Phase.{Phase}
use Rattle.supervisor.specs.declared.state.Phase.TheVariants.{Waiting, Settling}
use Rattle.supervisor.specs.declared.state.Mode.{Mode}
use Rattle.supervisor.specs.declared.state.State.{State}
use Rattle.supervisor.proofs.HistoryLaws.{Works}
use Rattle.supervisor.proofs.TickLaws.{Ticks, waits, runs, ticks, staged_beacon}
use Rattle.supervisor.proofs.DueLaws.{count_stands, none_at_sixty}
use Rattle.supervisor.proofs.ReportLaws.{report_due}
use Rattle.promises.specs.NeverSilent.{beacon_due}
use Rattle.promises.proofs.OnlyTicks.{Turn, moves, still, only_ticks}

-- the stages, with none due
module _ (shorts : ℕ) (s : State) where
  staged : State
  staged = module_stage shorts (before_modules s)

  count_before : staged.watch.beacon ≡ s.watch.beacon
  unfolding staged
  count_before = staged_beacon shorts s

  silent_count : due_number (beacon_stage staged).due ≡ 0 → (beacon_stage staged).state.watch.beacon ≡ s.watch.beacon + 1
  unfolding beacon_stage
  silent_count d = count_stands (due_at staged.watch.mode (is_to_be_sent staged.message) (staged.watch.beacon + 1)) (staged.watch.beacon + 1) d ∙ ap (λ (n : ℕ). n + 1) count_before

  silent_sixty : is_safe (beacon_stage staged).state.watch.mode ≡ true → due_number (beacon_stage staged).due ≡ 0 → (s.watch.beacon + 1) % complete_ticks ≡ 0 → ⊥
  unfolding beacon_stage
  silent_sixty m d z = none_at_sixty staged.watch.mode (is_to_be_sent staged.message) (staged.watch.beacon + 1) m d (rw count_before z)

-- out of DEPLOY_WAIT no second leads into SAFE
not_safe : (antennas : Bool) (p : Phase) → is_safe (phase_ticked antennas p) ≡ true → ⊥
not_safe antennas (Waiting waited) = either (λ (m : Mode). is_safe m ≡ true → ⊥) (antennas || eqb (waited + 1) wait_seconds) false≢true false≢true
not_safe antennas (Settling left) = either (λ (m : Mode). is_safe m ≡ true → ⊥) (eqb (left - 1) 0) false≢true false≢true

tick_count :
    (shorts : ℕ) (s : State) → Ticks shorts s → in_deploy_wait s ≡ false → due_number (ticked shorts s).due ≡ 0 →
    (ticked shorts s).state.watch.beacon ≡ s.watch.beacon + 1
unfolding staged
tick_count shorts s (waits phase m w) out d = absurd (true≢false (rw m at out))
tick_count shorts s (runs m w) out d = rw w (silent_count shorts s (rw w at d))

tick_sixty :
    (shorts : ℕ) (s : State) → Ticks shorts s → is_safe (ticked shorts s).state.watch.mode ≡ true → due_number (ticked shorts s).due ≡ 0 →
    (ticked shorts s).state.watch.beacon % complete_ticks ≡ s.watch.beacon % complete_ticks + 1
unfolding staged
tick_sixty shorts s (waits phase m w) safe d = absurd (not_safe s.antennas phase (rw w at safe))
tick_sixty shorts s (runs m w) safe d = rw w (omega (arith, silent_count shorts s (rw w at d), silent_sixty shorts s (rw w at safe) (rw w at d)))

-- a call in which none falls due
not_false : (b : Bool) → not b ≡ false → b ≡ true
not_false true e = refl
not_false false e = absurd (true≢false e)

module _ (s : State) (c : Call) (silent : beacon_due s c ≡ false) where
  silent_tick : (shorts : ℕ) → Works s c (frame.Tick shorts) (ticked shorts s) → due_number (ticked shorts s).due ≡ 0
  silent_tick shorts w =
      let byte : ℕ = get_or (called s c).room beacon_byte 0 in
      let e : byte ≡ 0 = eqb-true byte 0 (not_false (eqb byte 0) (rw w.tick at silent)) in
      rw (w.leaves, report_due (frame.Tick shorts) (ticked shorts s) c.room) at e

  pub call_count : in_deploy_wait s ≡ false → Turn s c → (called s c).result.state.watch.beacon ≡ s.watch.beacon + (when done_tick s c then 1 else 0)
  call_count out (moves shorts w) = rw (w.tick, w.leaves) (tick_count shorts s (ticks shorts s) out (silent_tick shorts w))
  call_count out (still e) = rw (e, only_ticks.watch s c e) (omega arith)

  pub call_sixty :
      (T (done_tick s c) → is_safe (called s c).result.state.watch.mode ≡ true) → Turn s c →
      (called s c).result.state.watch.beacon % complete_ticks ≡ s.watch.beacon % complete_ticks + (when done_tick s c then 1 else 0)
  call_sixty safe (moves shorts w) = rw (w.tick, w.leaves) (tick_sixty shorts s (ticks shorts s) (rw w.leaves at (safe (rw w.tick tt))) (silent_tick shorts w))
  call_sixty safe (still e) = rw (e, only_ticks.watch s c e) (omega arith)
