-- Serials by themselves: whether a frame is a repeat, stale or neither hangs on its own serial and its origin's
-- earlier frames only.
-- Assumes nothing.
use Rattle.std.specs.Prelude.{ℕ, ◌≡◌, Bool, ◌||◌, List, [], ◌∷◌, ◌++◌, T, eqb}
use Rattle.basics.specs.Choice.{when◌then◌else◌, within}
use Rattle.frames.specs.About.{serial_from}
use Rattle.frames.specs.declared.sender.Origin.{Origin}
use Rattle.frames.specs.declared.serial.Class.{Class}
use Rattle.frames.specs.declared.serial.Class.TheVariants.{Repeat, Fresh, Stale}
use Rattle.supervisor.specs.Fresh.{fresh_state}
use Rattle.supervisor.specs.History.{Call, answered, after, HasRoom, Roomy, about_of}

-- the serials of an origin's frames that pass checks 3 to 7, in order
abbrev pub serials_of : Origin → List Call → List ℕ
serials_of origin [] = []
serials_of origin (c ∷ cs) = serial_from origin (about_of c) ++ serials_of origin cs

-- what an answer says of the serial, if its serial was judged at all
abbrev pub verdict : (answer : ℕ) → Class
verdict answer = when eqb answer 8 then Repeat else when eqb answer 9 then Stale else Fresh

-- the answers to a frame whose serial was judged
abbrev pub is_judged : (answer : ℕ) → Bool
is_judged answer = eqb answer 0 || within 8 10 answer

-- two such answers that tell the same
pub record Agree (A : Type 0) (told : (answer : ℕ) → A) (first second : ℕ) : Type 0 where
  pub judged : T (is_judged first)
  pub judged' : T (is_judged second)
  pub same : told first ≡ told second

-- two flights from the fresh start, with room for every report, in which an origin sent the same serials in the same
-- order: of a frame of that origin, with the same serial in both, the answers tell the same
abbrev pub SerialsTell : (A : Type 0) → (told : (answer : ℕ) → A) → Type 0
SerialsTell A told =
    (origin : Origin) (cs ds : List Call) → Roomy cs → Roomy ds → serials_of origin cs ≡ serials_of origin ds →
    (serial : ℕ) (c d : Call) → HasRoom c → HasRoom d →
    serial_from origin (about_of c) ≡ serial ∷ [] → serial_from origin (about_of d) ≡ serial ∷ [] →
    Agree A told (answered (after fresh_state cs) c) (answered (after fresh_state ds) d)

-- they tell the verdict
abbrev pub Serials : Type 0
Serials = SerialsTell Class verdict
