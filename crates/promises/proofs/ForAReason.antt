-- Powered for a reason, proved: what the module stage makes of one module.
-- Assumes nothing.
use Prim.Native.Nat.{ℕ}
use mathlib.Core.Path.{◌≡◌, sym, ◌∙◌}
use mathlib.Core.Bool.{Bool, true, false, not, ◌&&◌, true≢false}
use lib.Dec.{T}
use borrow.Author.Tests.{not-true}
use Rattle.basics.specs.Choice.{bit}
use Rattle.basics.proofs.ChoiceLaws.{is_true}
use Rattle.modules.specs.Power.{switched, is_on, is_failed}
use Rattle.modules.specs.declared.power.Power.{Power}
use Rattle.modules.proofs.PowerLaws.{on_switched_law, switched_reason}
use Rattle.supervisor.specs.State.{in_deploy_wait, module_at}
use Rattle.supervisor.specs.Due.{beacon_stage}
use Rattle.supervisor.specs.Tick.{ticked, before_modules, module_stage, stages}
use Rattle.supervisor.specs.History.{Call, called, done_tick, about_of}
use Rattle.supervisor.specs.declared.state.State.{State}
use Rattle.supervisor.proofs.TickLaws.{Ticks, waits, runs, ticks, ticked_stages}
use Rattle.promises.specs.TwoCraft.{shorted}
use Rattle.promises.specs.Deployment.{deployed}
use Rattle.promises.specs.ForAReason.{ForAReason, wanted_in, sound}
use Rattle.supervisor.proofs.BeforeModulesLaws.{before_power}
use Rattle.supervisor.proofs.ModuleLaws.{at_stage}
use Rattle.promises.proofs.OnlyTicks.{Turn, moves, still, turn, only_ticks}

-- one module's second
wanted_on : (w short : Bool) (p : Power) → T (w && not short) → T (sound p) → T (is_on (switched w short p))
wanted_on true true p t h = absurd t
wanted_on true false p t h = rw (on_switched_law true p (not-true (is_failed p) (is_true (sound p) h))) tt
wanted_on false short p t h = absurd t

-- a tick outside DEPLOY_WAIT: a second of module i, by whether it is wanted after it
module _ (i shorts : ℕ) (s : State) where
  abbrev Second : State → Type 0
  Second t = (module_at i t).power ≡ switched (wanted_in t i) (bit i shorts) (module_at i s).power

  stages_second : Second (stages shorts s).state
  unfolding beacon_stage module_stage
  stages_second = rw (at_stage (before_modules s) i shorts, before_power s i)

  ticked_second : in_deploy_wait s ≡ false → Second (ticked shorts s).state
  ticked_second e = rw (← ticked_stages shorts s e) stages_second

-- a call
called_second :
    (i : ℕ) (s : State) (c : Call) → Turn s c → T (done_tick s c) → in_deploy_wait s ≡ false →
    (module_at i (called s c).result.state).power ≡ switched (wanted_in (called s c).result.state i) (shorted i (about_of c)) (module_at i s).power
called_second i s c (moves shorts w) d e = rw (w.leaves, w.read) (ticked_second i shorts s e)
called_second i s c (still n) d e = absurd (rw n at d)

-- in DEPLOY_WAIT no call switches a module
waits_by : (i shorts : ℕ) (s : State) → in_deploy_wait s ≡ true → Ticks shorts s → (module_at i (ticked shorts s).state).power ≡ (module_at i s).power
waits_by i shorts s e (waits phase m w) = rw w
waits_by i shorts s e (runs m w) = absurd (true≢false (sym e ∙ m))

deploy_by : (i : ℕ) (s : State) (c : Call) → in_deploy_wait s ≡ true → Turn s c → (module_at i (called s c).result.state).power ≡ (module_at i s).power
deploy_by i s c e (moves shorts w) = rw w.leaves (waits_by i shorts s e (ticks shorts s))
deploy_by i s c e (still n) = only_ticks.power i s c n

pub deploy_power : (i : ℕ) (s : State) (c : Call) → in_deploy_wait s ≡ true → (module_at i (called s c).result.state).power ≡ (module_at i s).power
deploy_power i s c e = deploy_by i s c e (turn s c)

module _ (i : ℕ) (s : State) (c : Call) (d : T (done_tick s c)) (out : T (deployed s)) where
  -- a done tick outside DEPLOY_WAIT
  pub second : (module_at i (called s c).result.state).power ≡ switched (wanted_in (called s c).result.state i) (shorted i (about_of c)) (module_at i s).power
  second = called_second i s c (turn s c) d (not-true (in_deploy_wait s) (is_true (deployed s) out))

  on : T (is_on (module_at i (called s c).result.state).power) → T (wanted_in (called s c).result.state i && not (shorted i (about_of c)))
  on t = switched_reason (wanted_in (called s c).result.state i) (shorted i (about_of c)) (module_at i s).power (rw second at t)

  is_on_law :
      T (wanted_in (called s c).result.state i && not (shorted i (about_of c))) → T (sound (module_at i s).power) →
      T (is_on (module_at i (called s c).result.state).power)
  is_on_law t h = rw second (wanted_on (wanted_in (called s c).result.state i) (shorted i (about_of c)) (module_at i s).power t h)

pub for_a_reason : ForAReason
for_a_reason = record { on = on; wanted = is_on_law }
