-- Never silent: outside DEPLOY_WAIT a beacon falls due every five minutes at least, in SAFE every minute.
-- Assumes nothing.
use Rattle.std.specs.Prelude.{ℕ, ◌≤◌, ◌≡◌, Bool, true, false, not, ◌&&◌, ◌||◌, List, [], ◌∷◌, T, eqb, get_or}
use Rattle.supervisor.specs.State.{is_safe}
use Rattle.supervisor.specs.History.{Call, called, done_tick, done_ticks}
use Rattle.supervisor.specs.Report.{beacon_byte}
use Rattle.supervisor.specs.declared.state.State.{State}
use Rattle.promises.specs.Deployment.{deployed}

-- a beacon falls due in a call: a done tick whose report says so
abbrev pub beacon_due : State → Call → Bool
beacon_due s c = done_tick s c && not (eqb (get_or (called s c).room beacon_byte 0) 0)

-- in some call of a history
abbrev pub some_due : State → List Call → Bool
some_due s [] = false
some_due s (c ∷ cs) = beacon_due s c || some_due (called s c).result.state cs

-- the mode is SAFE after each done tick of a history
abbrev pub SafeTicks : State → List Call → Type 0
SafeTicks s [] = Unit {0}
SafeTicks s (c ∷ cs) =
    (T (done_tick s c) → is_safe (called s c).result.state.watch.mode ≡ true)
    × SafeTicks (called s c).result.state cs

-- from a state that passes a test, a beacon falls due in so many done ticks, whatever is sent between them
abbrev pub DueIn : (from : State → Bool) → (ticks : ℕ) → Type 0
DueIn from ticks = (s : State) (cs : List Call) → T (from s) → ticks ≤ done_ticks s cs → T (some_due s cs)

-- the same of done ticks after each of which the mode is SAFE
abbrev pub DueInSafe : (ticks : ℕ) → Type 0
DueInSafe ticks = (s : State) (cs : List Call) → SafeTicks s cs → ticks ≤ done_ticks s cs → T (some_due s cs)

-- five minutes, in seconds, whatever the rules call them
abbrev pub five_minutes : ℕ
five_minutes = 300

-- a minute
abbrev pub one_minute : ℕ
one_minute = 60

-- how long it may be silent at most
pub record NeverSilent : Type 0 where
  pub always : DueIn deployed five_minutes
  pub safe : DueInSafe one_minute
