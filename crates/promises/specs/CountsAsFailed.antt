-- It counts as failed: each short of a module that is on, or off and wanted, takes one of its tries, and at the last it
-- is failed, however often it came up cleanly in between; unless it was on for 60 ticks in a row.
-- Assumes nothing.
use Rattle.std.specs.Prelude.{ℕ, ◌+◌, ◌-◌, ◌<◌, ◌≡◌, Bool, true, false, not, ◌&&◌, ◌||◌, List, [], ◌∷◌, ◌⊎◌, T, leb}
use Rattle.basics.specs.Choice.{when◌then◌else◌}
use Rattle.modules.specs.Power.{is_on, tries_left}
use Rattle.modules.specs.declared.power.Power.{Power}
use Rattle.modules.specs.declared.power.Power.TheVariants.{On, Off, Failed}
use Rattle.supervisor.specs.State.{module_at}
use Rattle.supervisor.specs.History.{Call, about_of, called, after, done_tick, done_ticks}
use Rattle.supervisor.specs.declared.state.State.{State}
use Rattle.promises.specs.Deployment.{deployed}
use Rattle.promises.specs.ForAReason.{wanted_in}
use Rattle.promises.specs.TwoCraft.{shorted}

-- a short costs a try of a module that is on, or off and wanted
abbrev pub costs : (wanted : Bool) → Power → Bool
costs wanted (On tries seconds) = true
costs wanted (Off tries) = wanted
costs wanted (Failed left) = false

-- a costly short of module i: in a done tick; whether it is wanted is judged after that tick's ends and control
abbrev pub costly : ℕ → State → Call → Bool
costly i s c =
    done_tick s c && shorted i (about_of c) && costs (wanted_in (called s c).result.state i) (module_at i s).power

-- how many there were in a history
abbrev pub costly_shorts : ℕ → State → List Call → ℕ
costly_shorts i s [] = 0
costly_shorts i s (c ∷ cs) = (when costly i s c then 1 else 0) + costly_shorts i (called s c).result.state cs

-- a clean tick: module i is on before it and after it
abbrev pub is_clean : ℕ → State → Call → Bool
is_clean i s c = is_on (module_at i s).power && is_on (module_at i (called s c).result.state).power

-- the clean ticks in a row, a call later: a done tick that is not clean ends the row, and other calls leave it
abbrev pub row_after : ℕ → State → Call → (row : ℕ) → ℕ
row_after i s c row = when done_tick s c then (when is_clean i s c then row + 1 else 0) else row

-- somewhere in a history, at its end too, there are so many in a row; `row` of them came before it
abbrev pub has_row : (many i : ℕ) → State → List Call → (row : ℕ) → Bool
has_row many i s [] row = leb many row
has_row many i s (c ∷ cs) row = leb many row || has_row many i (called s c).result.state cs (row_after i s c row)

-- outside DEPLOY_WAIT, module i is off with so many tries, or on with them and 0 seconds; and in the history since then
-- there are never so many clean ticks in a row
pub record Tried (many i tries : ℕ) (s : State) (since : List Call) : Type 0 where
  pub flies : T (deployed s)
  pub begins : ((module_at i s).power ≡ Off tries) ⊎ ((module_at i s).power ≡ On tries 0)
  pub row : has_row many i s since 0 ≡ false

-- it has its tries less the costly shorts so far
abbrev pub TriesFall : (many : ℕ) → Type 0
TriesFall many =
    (i tries : ℕ) (s : State) (since : List Call) → Tried many i tries s since → costly_shorts i s since < tries →
    tries_left (module_at i (after s since)).power ≡ tries - costly_shorts i s since

-- and the costly short that would leave it so many tries leaves it failed, with 600 seconds left
abbrev pub FailsWith : (many left : ℕ) → Type 0
FailsWith many left =
    (i tries : ℕ) (s : State) (since : List Call) (c : Call) → Tried many i tries s since →
    T (costly i (after s since) c) → costly_shorts i s since + 1 + left ≡ tries →
    (module_at i (called (after s since) c).result.state).power ≡ Failed 600

-- in a tick module i is wanted, and it is short if the tick finds it on, and else not
abbrev pub starts_or_shorts : ℕ → State → Call → Bool
starts_or_shorts i s c =
    wanted_in (called s c).result.state i
    && (when is_on (module_at i s).power then shorted i (about_of c) else not (shorted i (about_of c)))

-- so it goes in every done tick of a history
abbrev pub starts_and_shorts : ℕ → State → List Call → Bool
starts_and_shorts i s [] = true
starts_and_shorts i s (c ∷ cs) =
    (when done_tick s c then starts_or_shorts i s c else true) && starts_and_shorts i (called s c).result.state cs

-- such a module comes from one power to another in so many ticks
abbrev pub ComesTo : (ticks : ℕ) → (from to : Power) → Type 0
ComesTo ticks from to =
    (i : ℕ) (s : State) (cs : List Call) → T (deployed s) → (module_at i s).power ≡ from → T (starts_and_shorts i s cs) →
    done_ticks s cs ≡ ticks → (module_at i (after s cs)).power ≡ to

-- the flaw that two teams flew
pub record CountsAsFailed : Type 0 where
  pub fall : TriesFall 60
  pub fails : FailsWith 60 0
  -- their own case: with 5 tries it is failed after 10 ticks
  pub teams : ComesTo 10 (Off 5) (Failed 600)
  -- and then again after every 602: 600 to wait, one to start, one to short
  pub again : ComesTo 602 (Failed 600) (Failed 600)
