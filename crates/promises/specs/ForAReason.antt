-- Powered for a reason: a module that is on after a tick is wanted and not short, and one that is wanted and neither
-- short nor failed is on. So an "off" acts within one tick, and so does a short.
-- Assumes nothing.
use Rattle.std.specs.Prelude.{ℕ, Bool, not, ◌&&◌, T}
use Rattle.modules.specs.Power.{is_on, is_failed}
use Rattle.modules.specs.Stage.{is_wanted}
use Rattle.modules.specs.declared.power.Power.{Power}
use Rattle.supervisor.specs.State.{module_at}
use Rattle.supervisor.specs.Tick.{allowed_in}
use Rattle.supervisor.specs.History.{Call, called, about_of, done_tick}
use Rattle.supervisor.specs.declared.state.State.{State}
use Rattle.promises.specs.TwoCraft.{shorted}
use Rattle.promises.specs.Deployment.{deployed}

-- module i is requested, and allowed in the mode
abbrev pub wanted_in : State → ℕ → Bool
wanted_in s i = is_wanted (allowed_in s.watch.mode) i (module_at i s)

-- a module that is on after a done tick, from a state that passes a test, is not short in it, and wanted in the state
-- before it or after it
abbrev pub OnMeansWanted : (from : State → Bool) → (at : (before after : State) → State) → Type 0
OnMeansWanted from at =
    (i : ℕ) (s : State) (c : Call) → T (done_tick s c) → T (from s) →
    T (is_on (module_at i (called s c).result.state).power) →
    T (wanted_in (at s (called s c).result.state) i && not (shorted i (about_of c)))

-- one that is wanted in the state after it and not short in it, and whose power before it passes a test, is on after it
abbrev pub WantedMeansOn : (from : State → Bool) → (power : Power → Bool) → Type 0
WantedMeansOn from power =
    (i : ℕ) (s : State) (c : Call) → T (done_tick s c) → T (from s) →
    T (wanted_in (called s c).result.state i && not (shorted i (about_of c))) → T (power (module_at i s).power) →
    T (is_on (module_at i (called s c).result.state).power)

-- judged after the tick
abbrev pub afterwards : (before after : State) → State
afterwards before after = after

-- not failed
abbrev pub sound : Power → Bool
sound power = not (is_failed power)

-- the reason
pub record ForAReason : Type 0 where
  pub on : OnMeansWanted deployed afterwards
  pub wanted : WantedMeansOn deployed sound
