-- The log's next entry: the frame at the front of a stream, worked, and its line.
-- Assumes nothing.
use Rattle.std.specs.Prelude.{ℕ, ◌+◌, ◌%◌, ◌^◌, Bool, List, length, take, replicate, nat_le, Option, Result, Ok, Err, unwrap_or}
use Rattle.basics.specs.Choice.{when◌then◌else◌}
use Rattle.basics.specs.Outcome.{Outcome, outcome}
use Rattle.frames.specs.Answer.{is_reported}
use Rattle.frames.specs.Kind.{report_bytes}
use Rattle.frames.specs.Cut.{cut_of}
use Rattle.frames.specs.declared.answer.Answer.{Answer}
use Rattle.frames.specs.declared.cut.Uncut.{Uncut}
use Rattle.frames.specs.declared.cut.Uncut.TheVariants as uncut
use Rattle.supervisor.specs.Fresh.{fresh_state}
use Rattle.supervisor.specs.Step.{step_of}
use Rattle.supervisor.specs.declared.step.Stepped.{Stepped}
use Rattle.supervisor.specs.declared.state.State.{State}
use Rattle.frame_log.specs.Line.{longest, placed, line_of, refused_line}
use Rattle.frame_log.specs.declared.entry.Log.{Log}
use Rattle.frame_log.specs.declared.entry.Entry.{Entry}
use Rattle.frame_log.specs.declared.entry.Entered.{Entered}
use Rattle.frame_log.specs.declared.entry.Entry.TheVariants as entry

-- a log starts from the fresh state and counts frames from 1
unfoldable pub fresh_log : Log
fresh_log = record { state = fresh_state; n = 1 }

-- an entry, and where the log stands after it
abbrev pub entered : Entry → Log → Entered
entered e log = record { entry = e; log = log }

-- a line for a frame: the log goes on, in the next state and with the next n (of 64 bits)
abbrev pub goes_on : (line : Outcome (Option ℕ)) (frame : ℕ) → State → Log → Outcome Entered
goes_on line frame s log =
    outcome (entered (entry.Line frame (unwrap_or line.result 0)) (record { state = s; n = (log.n + 1) % 2 ^ 64 })) line.room

-- a line that says that the frame is refused: the log ends
abbrev pub ends : (line : Outcome (Option ℕ)) → Log → Outcome Entered
ends line log = outcome (entered (entry.Last (unwrap_or line.result 0)) log) line.room

-- what is printed of a step's answer, next state and report
abbrev pub printed : Answer → State → (report : List ℕ) → Log → (frame room : List ℕ) → Outcome Entered
printed answer s report log frame room =
    when is_reported answer then goes_on (placed (line_of log.n report) room) (length frame) s log
    else ends (placed (refused_line log.n answer) room) log

-- the same, of all that a step leaves
abbrev printed_step : Outcome Stepped → Log → (frame room : List ℕ) → Outcome Entered
printed_step step log frame room = printed step.result.answer step.result.state step.room log frame room

-- a frame is handed to a step
unfoldable pub worked : Log → (frame room : List ℕ) → Outcome Entered
worked log frame room = printed_step (step_of log.state frame (replicate report_bytes 0)) log frame room

-- a byte that is no kind is handed over with what follows it, and a frame cut off where the stream ends as it is:
-- both are refused
abbrev pub entered_at : Result ℕ Uncut → Log → (bytes : List ℕ) (ended : Bool) (room : List ℕ) → Outcome Entered
entered_at (Ok total) log bytes ended room = worked log (take total bytes) room
entered_at (Err uncut.Unknown) log bytes ended room = worked log bytes room
entered_at (Err uncut.Short) log bytes ended room =
    when ended then worked log bytes room else outcome (entered entry.More log) room
entered_at (Err uncut.Empty) log bytes ended room = outcome (entered entry.More log) room

-- the frame at the front of the bytes is entered, where the room has place for every line
unfoldable pub enter_of : Log → (bytes : List ℕ) (ended : Bool) (room : List ℕ) → Outcome Entered
enter_of log bytes ended room =
    when nat_le longest (length room) then entered_at (cut_of bytes) log bytes ended room
    else outcome (entered entry.Full log) room
