-- What a frame that passed checks 1 to 7 gives: the next state, the answer, the beacon due.
-- Assumes nothing.
use Rattle.std.specs.Prelude.{ℕ, Option, Some, None}
use Rattle.frames.specs.declared.answer.Answer.{Answer}
use Rattle.frames.specs.declared.answer.Answer.TheVariants.{Done}
use Rattle.supervisor.specs.declared.form.Form.{Form}
use Rattle.supervisor.specs.declared.form.Form.TheVariants.{Basic, Complete, Extended}
use Rattle.supervisor.specs.declared.state.State.{State}
use Rattle.supervisor.specs.declared.acted.Acted.{Acted}

-- beacon: 0 none, 1 basic, 2 complete, 3 extended
abbrev pub due_number : Option Form → ℕ
due_number None = 0
due_number (Some Basic) = 1
due_number (Some Complete) = 2
due_number (Some Extended) = 3

-- no beacon due, always so but for a tick
abbrev pub silent : Answer → State → Acted
silent answer s = record { state = s; answer = answer; due = None }

-- done, with no beacon due
abbrev pub done : State → Acted
done s = silent Done s

-- a tick, with the beacon that it makes due
abbrev pub done_with : Option Form → State → Acted
done_with due s = record { state = s; answer = Done; due = due }
