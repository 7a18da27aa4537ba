-- It ends: a module that was ordered on for m minutes is requested for 60m ticks less one, and from the next one on it
-- is neither requested nor on.
-- Assumes nothing.
use Rattle.std.specs.Prelude.{ℕ, ◌+◌, ◌*◌, ◌≤◌, ◌<◌, ◌≡◌, Bool, true, false, not, ◌&&◌, List, [], ◌∷◌, T, eqb, length}
use Rattle.basics.specs.Choice.{when◌then◌else◌}
use Rattle.modules.specs.Power.{is_on}
use Rattle.frames.specs.About.{a_command}
use Rattle.frames.specs.declared.command.Command.TheVariants.{Timed}
use Rattle.frames.specs.declared.sender.Sender.{Sender}
use Rattle.supervisor.specs.State.{is_recovery, is_safe, module_at}
use Rattle.supervisor.specs.History.{Call, about_of, called, answered, after}
use Rattle.supervisor.specs.declared.state.State.{State}
use Rattle.promises.specs.OnlyTicks.{done_order}
use Rattle.promises.specs.AsTold.{running_tick}

-- on a state with its eight modules, as every state of the code has, a timed order is done: for a module, of so many
-- minutes
pub record Begins (which minutes : ℕ) (s : State) (c : Call) : Type 0 where
  pub eight : length s.modules ≡ 8
  pub sender : Sender
  pub order : about_of c ≡ a_command sender (Timed which minutes)
  pub done : answered s c ≡ 0

-- a call crosses down: SAFE before, RECOVERY after
abbrev pub crosses_down : State → Call → Bool
crosses_down s c = is_safe s.watch.mode && is_recovery (called s c).result.state.watch.mode

-- no call of a history is a done order for module i, plain or timed, of either origin, and none crosses down
abbrev pub left_alone : ℕ → State → List Call → Bool
left_alone i s [] = true
left_alone i s (c ∷ cs) =
    not (done_order (eqb i) s c) && not (crosses_down s c) && left_alone i (called s c).result.state cs

-- how many calls of a history were done ticks outside DEPLOY_WAIT
abbrev pub running_ticks : State → List Call → ℕ
running_ticks s [] = 0
running_ticks s (c ∷ cs) = (when running_tick s c then 1 else 0) + running_ticks (called s c).result.state cs

-- a module was ordered on for so many minutes, that was done, and it was left alone since
pub record Runs (which minutes : ℕ) (s : State) (c : Call) (since : List Call) : Type 0 where
  pub begins : Begins which minutes s c
  pub alone : T (left_alone which (called s c).result.state since)

-- in fewer ticks than so many it is still requested
abbrev pub StillAsked : (ticks : (minutes : ℕ) → ℕ) → Type 0
StillAsked ticks =
    (which minutes : ℕ) (s : State) (c : Call) (since : List Call) → Runs which minutes s c since →
    running_ticks (called s c).result.state since < ticks minutes →
    (module_at which (after (called s c).result.state since)).requested ≡ true

-- a module is neither requested nor on
pub record Over (which : ℕ) (s : State) : Type 0 where
  pub requested : (module_at which s).requested ≡ false
  pub power : is_on (module_at which s).power ≡ false

-- once so many have passed it is neither, whatever was sent and whatever shorted
abbrev pub OverBy : (ticks : (minutes : ℕ) → ℕ) → Type 0
OverBy ticks =
    (which minutes : ℕ) (s : State) (c : Call) (since : List Call) → Runs which minutes s c since →
    ticks minutes ≤ running_ticks (called s c).result.state since →
    Over which (after (called s c).result.state since)

-- 60 ticks a minute
abbrev pub in_ticks : (minutes : ℕ) → ℕ
in_ticks minutes = 60 * minutes

-- how long a timed order lasts
pub record ItEnds : Type 0 where
  pub still : StillAsked in_ticks
  pub over : OverBy in_ticks
