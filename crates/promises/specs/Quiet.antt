-- Quiet: a module that was ordered off stays off until somebody orders it on, whatever the mode does.
-- Assumes nothing.
use Rattle.std.specs.Prelude.{ℕ, ◌≤◌, ◌<◌, ◌≡◌, Bool, true, false, not, ◌&&◌, List, [], ◌∷◌, T}
use Rattle.modules.specs.Groups.{module_count}
use Rattle.modules.specs.Power.{is_on}
use Rattle.supervisor.specs.State.{module_at}
use Rattle.supervisor.specs.Fresh.{fresh_state}
use Rattle.supervisor.specs.History.{Call, about_of, called, answered, is_done, after, done_ticks}
use Rattle.supervisor.specs.declared.state.State.{State}
use Rattle.promises.specs.AsTold.{plain, says, orders, SaysOff}

-- a call is a done order "on" for module i, plain or timed, of either origin
abbrev pub done_on : ℕ → State → Call → Bool
done_on i s c = says (orders i (about_of c) (plain false)) && is_done (answered s c)

-- no call of a history is
abbrev pub no_on : ℕ → State → List Call → Bool
no_on i s [] = true
no_on i s (c ∷ cs) = not (done_on i s c) && no_on i (called s c).result.state cs

-- in a flight from the fresh start a module was ordered off, and that was done; since then no "on" for it was
pub record SwitchedOff (which : ℕ) (cs : List Call) (off : Call) (since : List Call) : Type 0 where
  pub order : SaysOff which (about_of off)
  pub done : answered (after fresh_state cs) off ≡ 0
  pub none_on : T (no_on which (called (after fresh_state cs) off).result.state since)

-- a module is not requested after a history, and after so many done ticks of it is not on
pub record StillOff (ticks which : ℕ) (s : State) (since : List Call) : Type 0 where
  pub requested : (module_at which (after s since)).requested ≡ false
  pub power : ticks ≤ done_ticks s since → is_on (module_at which (after s since)).power ≡ false

-- of each of the eight
abbrev pub QuietAfter : (ticks : ℕ) → Type 0
QuietAfter ticks =
    (which : ℕ) (cs : List Call) (off : Call) (since : List Call) → which < module_count →
    SwitchedOff which cs off since → StillOff ticks which (called (after fresh_state cs) off).result.state since

-- from the next tick on
abbrev pub Quiet : Type 0
Quiet = QuietAfter 1
