-- "Replies by number": the page's number of each answer, and what becomes of the reply room.
-- Assumes nothing.
use Rattle.std.specs.Prelude.{ℕ, Bool, true, false}
use Rattle.frames.specs.declared.answer.Answer.{Answer}
use Rattle.frames.specs.declared.answer.Answer.TheVariants.{Done, BadState, ShortRoom, NoInput}
use Rattle.frames.specs.declared.answer.Answer.TheVariants.{UnknownKind, BadLength, BadField, NotPermitted}
use Rattle.frames.specs.declared.answer.Answer.TheVariants.{Repeat, Stale, NotNow}

-- the number of an answer
abbrev pub answer_number : Answer → ℕ
answer_number Done = 0
answer_number BadState = 1
answer_number ShortRoom = 2
answer_number NoInput = 3
answer_number UnknownKind = 4
answer_number BadLength = 5
answer_number BadField = 6
answer_number NotPermitted = 7
answer_number Repeat = 8
answer_number Stale = 9
answer_number NotNow = 10

-- the reply room: a report, or untouched
abbrev pub is_reported : Answer → Bool
is_reported Done = true
is_reported BadState = false
is_reported ShortRoom = false
is_reported NoInput = false
is_reported UnknownKind = false
is_reported BadLength = false
is_reported BadField = false
is_reported NotPermitted = false
is_reported Repeat = true
is_reported Stale = true
is_reported NotNow = true
