-- As without books: unless it answers 17 or 18, a call with books does just what the plain call does; and what it answers
-- so leaves everything as it was. So a flight with books is a flight.
-- Assumes nothing.
use Rattle.std.specs.Prelude.{◌≡◌, Bool, true, false, not, ◌&&◌, List, [], ◌∷◌, Result, Ok}
use Rattle.basics.specs.Choice.{when◌then◌else◌}
use Rattle.frames.specs.declared.answer.Answer.{Answer}
use Rattle.supervisor.specs.History.{Call, called, after}
use Rattle.books.specs.Answer.{is_books}
use Rattle.books.specs.History.{Board, called_with, answer_with, board_after, after_with}
use Rattle.books.specs.declared.answer.BookFault.{BookFault}

-- answer, report and state are those of the plain call
pub record AsCalled (b : Board) (c : Call) : Type 0 where
  pub answer : answer_with b c ≡ Ok (called b.state c).result.answer
  pub room : (called_with b c).room ≡ (called b.state c).room
  pub state : (board_after b c).state ≡ (called b.state c).result.state

-- nothing moves
pub record Halted (b : Board) (c : Call) : Type 0 where
  pub board : board_after b c ≡ b
  pub room : (called_with b c).room ≡ c.room

-- the calls of a history that the books don't halt
abbrev pub unhalted : Board → List Call → List Call
unhalted b [] = []
unhalted b (c ∷ cs) =
    when is_books (answer_with b c) then unhalted (board_after b c) cs else c ∷ unhalted (board_after b c) cs

-- they halt none of a history
abbrev pub halts_none : Board → List Call → Bool
halts_none b [] = true
halts_none b (c ∷ cs) = not (is_books (answer_with b c)) && halts_none (board_after b c) cs

-- with such answers of the books' own
pub record PlainBut (halts : Result Answer BookFault → Bool) : Type 0 where
  pub plain : (b : Board) (c : Call) → halts (answer_with b c) ≡ false → AsCalled b c
  pub halted : (b : Board) (c : Call) → halts (answer_with b c) ≡ true → Halted b c
  -- every promise about flights is one about flights with books
  pub flies : (b : Board) (cs : List Call) → (after_with b cs).state ≡ after b.state (unhalted b cs)

abbrev pub PlainCall : Type 0
PlainCall = PlainBut is_books
