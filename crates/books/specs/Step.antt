-- A call with books: the plain call, and its done ticks counted.
-- Assumes nothing.
use Rattle.std.specs.Prelude.{ℕ, Bool, not, ◌&&◌, List, eqb, length, Result, Ok, Err}
use Rattle.basics.specs.Choice.{when◌then◌else◌, within}
use Rattle.basics.specs.Outcome.{Outcome, outcome}
use Rattle.frames.specs.Answer.{answer_number}
use Rattle.frames.specs.declared.answer.Answer.{Answer}
use Rattle.supervisor.specs.History.{Call, called, done_tick}
use Rattle.supervisor.specs.declared.state.State.{State}
use Rattle.supervisor.specs.declared.step.Stepped.{Stepped}
use Rattle.books.specs.Books.{book_numbers, found_in, later, holds_later}
use Rattle.books.specs.declared.answer.BookFault.{BookFault}
use Rattle.books.specs.declared.answer.BookFault.TheVariants.{Full, NotBooks}
use Rattle.books.specs.declared.step.Booked.{Booked}

-- what a call hands back, and the later content of the books
pub record WithBooks (Result : Type 0) : Type 0 where
  pub result : Result
  pub books : List ℕ

-- both in one
abbrev pub with_books : {Result : Type 0} → Result → (books : List ℕ) → WithBooks Result
with_books result books = record { result = result; books = books }

-- a refusal of the books: state, room and books are the same
abbrev pub halted : Result Answer BookFault → State → (room books : List ℕ) → Outcome (WithBooks Booked)
halted answer s room books = outcome (with_books (record { answer = answer; state = s }) books) room

-- answer, report and state are those of the call without books
abbrev pub as_plain : Outcome Stepped → (books : List ℕ) → Outcome (WithBooks Booked)
as_plain plain books =
    let after = plain.result in
    outcome (with_books (record { answer = Ok after.answer; state = after.state }) books) plain.room

-- what a call hands back, of the plain call's answer and state, or of a refusal of the books, which leaves the state
abbrev pub booked : State → Result Stepped BookFault → Booked
booked s (Ok after) = record { answer = Ok after.answer; state = after.state }
booked s (Err fault) = record { answer = Err fault; state = s }

-- 1 to 6 go before 17
abbrev pub is_early : Answer → Bool
is_early answer = within 1 6 (answer_number answer)

-- what module m is found as after a call
abbrev pub found_after : State → Call → (m : ℕ) → ℕ
found_after s c = found_in (called s c).result.state

-- 17: any number is above the most, or a done tick would take it above
abbrev pub is_full : State → Call → (books : List ℕ) → Bool
is_full s c books =
    not (is_early (called s c).result.answer) && not (holds_later (done_tick s c) (found_after s c) books)

-- 18 first, unless 24 numbers are lent
unfoldable pub step_books_of : State → (input room books : List ℕ) → Outcome (WithBooks Booked)
step_books_of s input room books =
    let c : Call = record { input = input; room = room } in
    when not (eqb (length books) book_numbers) then halted (Err NotBooks) s room books
    else when is_full s c books then halted (Err Full) s room books
    else as_plain (called s c) (later (done_tick s c) (found_after s c) books)
