-- Cutting: the lot in two calls, the second with the state and the room that the first leaves, gives the same, if the
-- first does all its frames. So the cut is at the end of a frame: one that is cut off is not done.
-- Assumes nothing.
use Rattle.std.specs.Prelude.{ℕ, ◌*◌, ◌≡◌, List, ◌++◌, drop}
use Rattle.basics.specs.Outcome.{Outcome}
use Rattle.frames.specs.Kind.{report_bytes}
use Rattle.frames.specs.declared.answer.Answer.{Answer}
use Rattle.frames.specs.declared.answer.Answer.TheVariants.{Done}
use Rattle.supervisor.specs.declared.state.State.{State}
use Rattle.pass.specs.Pass.{ahead, pass_of}
use Rattle.pass.specs.declared.Passed.{Passed}

-- a second pass, from where a first left the state and the room
abbrev pub then_pass : Outcome Passed → (input : List ℕ) → Outcome Passed
then_pass first input =
    let reports = first.result.reported in
    ahead reports first.room (pass_of first.result.state input (drop (reports * report_bytes) first.room))

-- if the first stops with such an answer
abbrev pub CuttingAt : (stops : Answer → Type 0) → Type 0
CuttingAt stops =
    (s : State) (input more room : List ℕ) → stops (pass_of s input room).result.answer →
    pass_of s (input ++ more) room ≡ then_pass (pass_of s input room) more

-- it does all its frames
abbrev pub DoesAll : Answer → Type 0
DoesAll answer = answer ≡ Done

abbrev pub Cutting : Type 0
Cutting = CuttingAt DoesAll
