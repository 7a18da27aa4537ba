-- A flight with books: calls of `step_books` in a row, with the same books.
-- Assumes nothing.
use Rattle.std.specs.Prelude.{ℕ, Bool, ◌&&◌, List, [], ◌∷◌, ◌++◌, take, Result}
use Rattle.basics.specs.Choice.{when◌then◌else◌}
use Rattle.basics.specs.Outcome.{Outcome}
use Rattle.frames.specs.Kind.{report_bytes}
use Rattle.frames.specs.About.{is_tick}
use Rattle.frames.specs.declared.answer.Answer.{Answer}
use Rattle.supervisor.specs.History.{Call, about_of, is_done}
use Rattle.supervisor.specs.declared.state.State.{State}
use Rattle.books.specs.Answer.{book_number}
use Rattle.books.specs.Step.{WithBooks, step_books_of}
use Rattle.books.specs.declared.answer.BookFault.{BookFault}
use Rattle.books.specs.declared.step.Booked.{Booked}

-- the board between two calls: its state, and the books beside it
pub record Board : Type 0 where
  pub state : State
  pub books : List ℕ

-- all that a call leaves, as the contract of `step_books` gives it
abbrev pub called_with : Board → Call → Outcome (WithBooks Booked)
called_with b c = step_books_of b.state c.input c.room b.books

-- what it answers
abbrev pub answer_with : Board → Call → Result Answer BookFault
answer_with b c = (called_with b c).result.result.answer

-- the board that it leaves
abbrev pub board_of : Outcome (WithBooks Booked) → Board
board_of after = record { state = after.result.result.state; books = after.result.books }

-- the board after it
abbrev pub board_after : Board → Call → Board
board_after b c = board_of (called_with b c)

-- the board after a history of calls
abbrev pub after_with : Board → List Call → Board
after_with b [] = b
after_with b (c ∷ cs) = after_with (board_after b c) cs

-- a done tick: the input is a tick, and the answer 0
abbrev pub done_tick_with : Board → Call → Bool
done_tick_with b c = is_tick (about_of c) && is_done (book_number (answer_with b c))

-- the report of a call
abbrev pub report_with : Board → Call → List ℕ
report_with b c = take report_bytes (called_with b c).room

-- the reports of a history's done ticks, in order
abbrev pub tick_reports : Board → List Call → List (List ℕ)
tick_reports b [] = []
tick_reports b (c ∷ cs) =
    (when done_tick_with b c then report_with b c ∷ [] else []) ++ tick_reports (board_after b c) cs
