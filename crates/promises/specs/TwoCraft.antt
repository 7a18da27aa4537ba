-- The better battery: of two craft with the same frames but for higher battery readings on the second, the second
-- is as good or better.
-- Assumes nothing.
use Rattle.std.specs.Prelude.{ℕ, ◌+◌, ◌≤◌, ◌<◌, ◌≡◌, Bool, true, false, List, [], ◌∷◌, take, T}
use Rattle.basics.specs.Choice.{when◌then◌else◌, within, word, bit}
use Rattle.modules.specs.Power.{is_on}
use Rattle.modules.specs.Groups.{module_count, is_core}
use Rattle.frames.specs.Kind.{battery_kind}
use Rattle.frames.specs.About.{About, a_tick, a_command, neither}
use Rattle.supervisor.specs.State.{mode_number, module_at}
use Rattle.supervisor.specs.Fresh.{fresh_state}
use Rattle.supervisor.specs.History.{Call, after, Roomy, about_of}
use Rattle.supervisor.specs.declared.state.State.{State}

-- the same bytes, whatever they are; or two battery frames whose readings pass a test, the second's the same or higher
pub data AsGood (readings : ℕ → Bool) : List ℕ → List ℕ → Type 0 where
  same : {bytes : List ℕ} → AsGood readings bytes bytes
  higher :
      (high low high' low' : ℕ) → T (readings (word high low)) → T (readings (word high' low')) →
      word high low ≤ word high' low' →
      AsGood readings (battery_kind ∷ high ∷ low ∷ []) (battery_kind ∷ high' ∷ low' ∷ [])

-- the calls of the two craft, one by one; their rooms may differ
pub data Paired (readings : ℕ → Bool) : List Call → List Call → Type 0 where
  start : Paired readings [] []
  next :
      {c d : Call} {cs ds : List Call} → AsGood readings c.input d.input → Paired readings cs ds →
      Paired readings (c ∷ cs) (d ∷ ds)

-- module i is reported shorted
abbrev pub shorted : ℕ → About → Bool
shorted i (a_tick shorts) = bit i shorts
shorted i (a_command sender command) = false
shorted i neither = false

-- in how many calls of a history it is
abbrev pub shorts_of : ℕ → List Call → ℕ
shorts_of i [] = 0
shorts_of i (c ∷ cs) = (when shorted i (about_of c) then 1 else 0) + shorts_of i cs

-- the second state is as good as the first or better, after the same calls
pub record Better (modules : ℕ → Bool) (shorts : ℕ) (cs : List Call) (a b : State) : Type 0 where
  -- the same mode or a better one
  pub mode : mode_number a.watch.mode ≤ mode_number b.watch.mode
  -- each module that is requested on in the first is requested on in the second
  pub requested : (i : ℕ) → i < module_count → T (module_at i a).requested → T (module_at i b).requested
  -- each that was reported shorted so often at most and is on in the first is on in the second
  pub on :
      (i : ℕ) → i < module_count → shorts_of i cs ≤ shorts →
      T (is_on (module_at i a).power) → T (is_on (module_at i b).power)
  -- each of these modules is the same on both, shorted or not: its request, its power, its tries and seconds
  pub alike : (i : ℕ) → modules i ≡ true → module_at i a ≡ module_at i b

-- from the fresh start, with room for every report: after every call
abbrev pub TwoCraftOf : (modules readings : ℕ → Bool) → (shorts : ℕ) → Type 0
TwoCraftOf modules readings shorts =
    (cs ds : List Call) → Roomy cs → Roomy ds → Paired readings cs ds →
    (n : ℕ) → Better modules shorts (take n cs) (after fresh_state (take n cs)) (after fresh_state (take n ds))

-- readings that are taken: 5,000 to 9,000 mV
abbrev pub in_reach : ℕ → Bool
in_reach millivolts = within 5000 9000 millivolts

-- shorts that a module bears, whenever they come: never shorted, as demand 3 has it, and up to four
abbrev pub shorts_borne : ℕ
shorts_borne = 4

-- all eight as good or better, the core four the same
abbrev pub TwoCraft : Type 0
TwoCraft = TwoCraftOf is_core in_reach shorts_borne
