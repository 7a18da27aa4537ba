-- What writing a beacon's text answers, and what it leaves in the room.
-- Assumes nothing.
use Rattle.std.specs.Prelude.{ℕ, not, List, Result, Ok, Err, ltb, length}
use Rattle.basics.specs.Choice.{when◌then◌else◌}
use Rattle.basics.specs.Outcome.{Outcome, outcome, written, Reply, reply}
use Rattle.morse.specs.Answers.{done, no_room}
use Rattle.frames.specs.Answer.{answer_number}
use Rattle.frames.specs.declared.answer.Answer.TheVariants as answer
use Rattle.supervisor.specs.Range.{in_range}
use Rattle.supervisor.specs.declared.state.State.{State}
use Rattle.beacon.specs.Text.{text_of, has_text}
use Rattle.supervisor.specs.declared.form.Form.{Form}
use Rattle.beacon.specs.declared.writing.WriteFault.{WriteFault}
use Rattle.beacon.specs.declared.writing.WriteFault.TheVariants.{BadState, NoRoom, NoMessage}

-- no message kept
abbrev pub no_message : ℕ
no_message = 21

-- the page's number of each refusal
abbrev pub fault_number : WriteFault → ℕ
fault_number BadState = answer_number answer.BadState
fault_number NoRoom = no_room
fault_number NoMessage = no_message

-- the page's number and the length of each answer
abbrev pub written_reply : Result ℕ WriteFault → Reply
written_reply (Ok n) = reply done n
written_reply (Err fault) = reply (fault_number fault) 0

-- 1: the state outside its ranges; 21: the extended text with no message kept; 14: the room shorter than the text;
-- else the text and its length
unfoldable pub beacon_of : Form → State → (room : List ℕ) → Outcome (Result ℕ WriteFault)
beacon_of form s room =
    when not (in_range s) then outcome (Err BadState) room else
    when not (has_text form s.message.length) then outcome (Err NoMessage) room else
    when ltb (length room) (length (text_of form s)) then outcome (Err NoRoom) room
    else outcome (Ok (length (text_of form s))) (written (text_of form s) room)
