-- What a call with books answers, by its number.
-- Assumes nothing.
use Rattle.std.specs.Prelude.{ℕ, Bool, true, false, Result, Ok, Err}
use Rattle.frames.specs.Answer.{answer_number, is_reported}
use Rattle.frames.specs.declared.answer.Answer.{Answer}
use Rattle.books.specs.declared.answer.BookFault.{BookFault}
use Rattle.books.specs.declared.answer.BookFault.TheVariants.{Full, NotBooks}

-- the number of a refusal of the books
abbrev pub book_fault_number : BookFault → ℕ
book_fault_number Full = 17
book_fault_number NotBooks = 18

-- the number of an answer
abbrev pub book_number : Result Answer BookFault → ℕ
book_number (Ok answer) = answer_number answer
book_number (Err fault) = book_fault_number fault

-- 17 and 18 are the books' own
abbrev pub is_books : Result Answer BookFault → Bool
is_books (Ok answer) = false
is_books (Err fault) = true

-- the reply room: a report, or untouched
abbrev pub is_book_reported : Result Answer BookFault → Bool
is_book_reported (Ok answer) = is_reported answer
is_book_reported (Err fault) = false
