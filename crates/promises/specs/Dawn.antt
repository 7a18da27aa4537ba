-- Dawn: once a frame of an origin was taken, no frame of that origin numbered like it or behind it is taken any more,
-- heard before or not; so what was ordered off for the night stays off, whatever "on" comes late.
-- Assumes nothing.
use Rattle.std.specs.Prelude.{ℕ, ◌+◌, ◌%◌, ◌≤◌, ◌<◌, ◌≡◌, Bool, List, [], ◌∷◌, ◌++◌, T}
use Rattle.basics.specs.Choice.{when◌then◌else◌, within}
use Rattle.frames.specs.Serial.{serial_count, distance, last_of}
use Rattle.modules.specs.Groups.{module_count}
use Rattle.frames.specs.About.{serial_from}
use Rattle.frames.specs.declared.sender.Origin.{Origin}
use Rattle.supervisor.specs.Fresh.{fresh_state}
use Rattle.supervisor.specs.History.{Call, about_of, called, answered, is_taken, after, HasRoom}
use Rattle.supervisor.specs.declared.state.State.{State}
use Rattle.promises.specs.AsTold.{SaysOn, SaysOff}
use Rattle.promises.specs.Quiet.{StillOff}

-- how far one frame moves an origin on: its distance, if it is the origin's and taken
abbrev pub stride : (taken : Bool) → (serials : List ℕ) → (last : ℕ) → ℕ
stride taken [] last = 0
stride taken (serial ∷ serials) last = when taken then distance serial last else 0

-- how far a history moves an origin on, in all
abbrev pub moved_on : Origin → State → List Call → ℕ
moved_on origin s [] = 0
moved_on origin s (c ∷ cs) =
    stride (is_taken (answered s c)) (serial_from origin (about_of c)) (last_of origin s.serials)
    + moved_on origin (called s c).result.state cs

-- a frame of an origin, with its serial, was taken; any calls were made since; now another frame of that origin comes,
-- with room for its report: its serial is the first's or k behind it, and k and what the origin moved on since are
-- together at most what is remembered
pub record Late (memory : ℕ) (origin : Origin) (s : State) (first : Call) (since : List Call) (late : Call)
    : Type 0 where
  pub serial : ℕ
  pub first_serial : serial_from origin (about_of first) ≡ serial ∷ []
  pub taken : T (is_taken (answered s first))
  pub old : ℕ
  pub late_serial : serial_from origin (about_of late) ≡ old ∷ []
  pub room : HasRoom late
  pub k : ℕ
  pub behind : (old + k) % serial_count ≡ serial % serial_count
  pub soon : k + moved_on origin (called s first).result.state since ≤ memory

-- answered 8 or 9, and the state is the same
pub record NotTaken (s : State) (late : Call) : Type 0 where
  pub answer : T (within 8 9 (answered s late))
  pub state : (called s late).result.state ≡ s

-- what is late is not taken
abbrev pub Old : (memory : ℕ) → Type 0
Old memory =
    (origin : Origin) (s : State) (first : Call) (since : List Call) (late : Call) →
    Late memory origin s first since late → NotTaken (after (called s first).result.state since) late

-- in a flight from the fresh start a module was ordered off, and that was done; since then every "on" for it that had
-- room was late
pub record OrderedOff (memory : ℕ) (origin : Origin) (which : ℕ) (cs : List Call) (off : Call) (since : List Call)
    : Type 0 where
  pub order : SaysOff which (about_of off)
  pub done : answered (after fresh_state cs) off ≡ 0
  pub late_ons :
      (before later : List Call) (on : Call) → since ≡ before ++ on ∷ later → SaysOn which (about_of on) → HasRoom on →
      Late memory origin (after fresh_state cs) off before on

-- what was ordered off stays off
abbrev pub StaysOff : (memory ticks : ℕ) → Type 0
StaysOff memory ticks =
    (origin : Origin) (which : ℕ) (cs : List Call) (off : Call) (since : List Call) → which < module_count →
    OrderedOff memory origin which cs off since →
    StillOff ticks which (called (after fresh_state cs) off).result.state since

-- how far behind, and moved on, together an old frame is still known as old
abbrev pub memory : ℕ
memory = 32768

-- what is late is not taken, and so a module that was ordered off is dark from the next tick on
pub record Dawn : Type 0 where
  pub old : Old memory
  pub dark : StaysOff memory 1
