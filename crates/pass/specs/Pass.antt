-- A pass: frames end to end, each taken as a single call would, until one gets no report.
-- Assumes nothing.
use Rattle.std.specs.Prelude.{ℕ, zero, suc, ◌+◌, ◌*◌, List, [], ◌∷◌, ◌++◌, length, take, drop}
use Rattle.basics.specs.Choice.{when◌then◌else◌}
use Rattle.basics.specs.Outcome.{Outcome, outcome}
use Rattle.frames.specs.Answer.{is_reported}
use Rattle.frames.specs.Cut.{front_of}
use Rattle.frames.specs.Kind.{report_bytes}
use Rattle.frames.specs.declared.answer.Answer.{Answer}
use Rattle.frames.specs.declared.answer.Answer.TheVariants.{Done, BadState}
use Rattle.supervisor.specs.Range.{in_range}
use Rattle.supervisor.specs.Step.{step_of}
use Rattle.supervisor.specs.declared.state.State.{State}
use Rattle.supervisor.specs.declared.step.Stepped.{Stepped}
use Rattle.pass.specs.declared.Passed.{Passed}
use Rattle.pass.specs.declared.Worked.{Worked}

-- at most so many frames, each from its kind on; what is of no known kind, or is cut off, is the last
unfoldable pub frames_up_to : (most : ℕ) → (bytes : List ℕ) → List (List ℕ)
frames_up_to zero bytes = []
frames_up_to (suc most) [] = []
frames_up_to (suc most) (kind ∷ fields) =
    let frame = front_of (kind ∷ fields) in frame ∷ frames_up_to most (drop (length frame) (kind ∷ fields))

-- the frames of a pass: no frame is empty, so there are no more of them than bytes
unfoldable pub frames_in : (bytes : List ℕ) → List (List ℕ)
frames_in bytes = frames_up_to (length bytes) bytes

-- a pass that stops before its next frame, and why
abbrev pub stopped : State → Answer → (room : List ℕ) → Outcome Passed
stopped s answer room = outcome (record { state = s; reported = 0; answer = answer }) room

-- so many reports at the front of the room, then what the rest of the pass gives
abbrev pub ahead : (reports : ℕ) → (room : List ℕ) → Outcome Passed → Outcome Passed
ahead reports room rest =
    outcome (record {
      state = rest.result.state;
      reported = reports + rest.result.reported;
      answer = rest.result.answer;
    }) (take (reports * report_bytes) room ++ rest.room)

-- a frame that gets a report is followed by the rest of the pass; before any other it stops
abbrev pub continued : Outcome Stepped → (rest : Outcome Passed) → Outcome Passed
continued after rest =
    when is_reported after.result.answer then ahead 1 after.room rest
    else stopped after.result.state after.result.answer after.room

-- single calls in order, each with the room that is left: where no frame is left, the answer is 0
unfoldable pub in_order : State → (frames : List (List ℕ)) → (room : List ℕ) → Outcome Passed
in_order s [] room = stopped s Done room
in_order s (frame ∷ frames) room =
    let after = step_of s frame room in
    continued after (in_order after.result.state frames (drop report_bytes after.room))

-- a state out of range is refused before all, also where there are no frames
unfoldable pub pass_of : State → (input room : List ℕ) → Outcome Passed
pass_of s input room = when in_range s then in_order s (frames_in input) room else stopped s BadState room

-- one frame: that at the front of what is left
unfoldable pub work_of : State → (rest room : List ℕ) → Outcome Worked
work_of s rest room =
    let after = step_of s (front_of rest) room in
    outcome (record {
      answer = after.result.answer;
      state = after.result.state;
      bytes = length (front_of rest);
    }) after.room
