-- A flight: calls of `step` in a row, each with its input bytes and its reply room.
-- Assumes nothing.
use Rattle.std.specs.Prelude.{ℕ, ◌+◌, ◌≤◌, Bool, ◌&&◌, ◌||◌, List, [], ◌∷◌, eqb, length}
use Rattle.basics.specs.Choice.{when◌then◌else◌}
use Rattle.basics.specs.Outcome.{Outcome}
use Rattle.frames.specs.Answer.{answer_number}
use Rattle.frames.specs.Kind.{report_bytes}
use Rattle.frames.specs.Reading.{read_frame}
use Rattle.frames.specs.About.{About, about, is_tick}
use Rattle.frames.specs.declared.answer.Answer.TheVariants.{Done, NotNow}
use Rattle.supervisor.specs.Step.{step_of}
use Rattle.supervisor.specs.declared.state.State.{State}
use Rattle.supervisor.specs.declared.step.Stepped.{Stepped}

-- what a caller hands to `step` beside the state: the input bytes, and the reply room as it is before the call
pub record Call : Type 0 where
  pub input : List ℕ
  pub room : List ℕ

-- what a call is about: a tick, a command, or neither
abbrev pub about_of : Call → About
about_of c = about (read_frame c.input)

-- all that a call leaves, as the contract of `step` gives it
abbrev pub called : State → Call → Outcome Stepped
called s c = step_of s c.input c.room

-- the number that it answers
abbrev pub answered : State → Call → ℕ
answered s c = answer_number (called s c).result.answer

-- it is done: answered 0
abbrev pub is_done : (answer : ℕ) → Bool
is_done answer = eqb answer (answer_number Done)

-- a frame is taken: answered 0 or 10
abbrev pub is_taken : (answer : ℕ) → Bool
is_taken answer = is_done answer || eqb answer (answer_number NotNow)

-- the state after a history of calls
abbrev pub after : State → List Call → State
after s [] = s
after s (c ∷ cs) = after (called s c).result.state cs

-- room for the report
abbrev pub HasRoom : Call → Type 0
HasRoom c = report_bytes ≤ length c.room

-- room for every report of a history
abbrev pub Roomy : List Call → Type 0
Roomy [] = Unit {0}
Roomy (c ∷ cs) = HasRoom c × Roomy cs

-- a done tick: the input is a tick, and the answer 0
abbrev pub done_tick : State → Call → Bool
done_tick s c = is_tick (about_of c) && is_done (answered s c)

-- how many calls of a history were done ticks
abbrev pub done_ticks : State → List Call → ℕ
done_ticks s [] = 0
done_ticks s (c ∷ cs) = (when done_tick s c then 1 else 0) + done_ticks (called s c).result.state cs
