-- The summary of the books: each module's share on, in thousandths.
-- Assumes nothing.
use Rattle.std.specs.Prelude.{ℕ, ◌+◌, ◌*◌, ◌/◌, not, List, ◌++◌, eqb, length, take, drop, replicate, Result, Ok, Err}
use Rattle.basics.specs.Choice.{when◌then◌else◌}
use Rattle.basics.specs.Each.{each}
use Rattle.modules.specs.Groups.{module_count}
use Rattle.books.specs.Books.{book_numbers, number_in, none_above}
use Rattle.books.specs.declared.answer.BookFault.{BookFault}
use Rattle.books.specs.declared.answer.BookFault.TheVariants.{Full, NotBooks}

-- thousandths of the three together, rounded down, 0 where they are 0
abbrev pub share_of : (on off failed : ℕ) → ℕ
share_of on off failed =
    let all = on + off + failed in when eqb all 0 then 0 else on * 1000 / all

-- the share on of module m
abbrev pub share_in : (books : List ℕ) → (m : ℕ) → ℕ
share_in books m = share_of (number_in books m 0) (number_in books m 1) (number_in books m 2)

-- every share 0
abbrev pub no_shares : List ℕ
no_shares = replicate module_count 0

-- the shares of all modules
unfoldable pub shares_of : (books : List ℕ) → List ℕ
shares_of books = each (λ m none. share_in books m) no_shares

-- 18, unless there are 24 numbers, then 17, when any is above the most
unfoldable pub summary_of : (books : List ℕ) → Result (List ℕ) BookFault
summary_of books =
    when not (eqb (length books) book_numbers) then Err NotBooks
    else when none_above books then Ok (shares_of books)
    else Err Full

-- shares at the front of a room, as many as it has place for; what stands past them stays
unfoldable pub put_into : (shares room : List ℕ) → List ℕ
put_into shares room = take (length room) shares ++ drop (length shares) room
