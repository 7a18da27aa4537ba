-- The books: three numbers for each module, and what a done tick adds to them.
-- Assumes nothing.
use Rattle.std.specs.Prelude.{ℕ, ◌+◌, ◌*◌, ◌/◌, ◌%◌, Bool, ◌&&◌, List, eqb, leb, get_or, Result, Ok, Err}
use Rattle.std.specs.List.{list_all}
use Rattle.basics.specs.Choice.{when◌then◌else◌, bit}
use Rattle.basics.specs.Each.{each}
use Rattle.basics.specs.Outcome.{Outcome, outcome}
use Rattle.modules.specs.declared.power.Power.{Power}
use Rattle.modules.specs.declared.power.Power.TheVariants.{On, Off, Failed}
use Rattle.modules.specs.declared.masks.Masks.{Masks}
use Rattle.supervisor.specs.State.{module_at}
use Rattle.supervisor.specs.declared.state.State.{State}
use Rattle.books.specs.declared.answer.BookFault.{BookFault}
use Rattle.books.specs.declared.answer.BookFault.TheVariants.{Full}

-- how many numbers are lent
abbrev pub book_numbers : ℕ
book_numbers = 24

-- the most seconds that a number holds: 10 to the 15th
abbrev pub most_seconds : ℕ
most_seconds = 1000000000000000

-- seconds on, off and failed
abbrev pub second_of : Power → ℕ
second_of (On tries seconds) = 0
second_of (Off tries) = 1
second_of (Failed left) = 2

-- those of module m stand in numbers 3m, 3m + 1 and 3m + 2
abbrev pub place_of : (m second : ℕ) → ℕ
place_of m second = 3 * m + second

-- one of them
abbrev pub number_in : (books : List ℕ) (m second : ℕ) → ℕ
number_in books m second = get_or books (place_of m second) 0

-- what module m of a state is found as
abbrev pub found_in : State → (m : ℕ) → ℕ
found_in s m = second_of (module_at m s).power

-- what masks show of it
abbrev pub shown_as : Masks → (m : ℕ) → ℕ
shown_as masks m = when bit m masks.on then 0 else when bit m masks.failed then 2 else 1

-- what a tick adds to number i, given what each module is found as after it
abbrev pub added_to : (found : ℕ → ℕ) → (i : ℕ) → ℕ
added_to found i = when eqb (found (i / 3)) (i % 3) then 1 else 0

-- the books with a tick counted
unfoldable pub counted : (found : ℕ → ℕ) → (books : List ℕ) → List ℕ
counted found books = each (λ i n. n + added_to found i) books

-- no number is above the most
unfoldable pub none_above : (books : List ℕ) → Bool
none_above books = list_all (λ n. leb n most_seconds) books

-- the books after a call: a done tick is counted
abbrev pub later : (tick : Bool) (found : ℕ → ℕ) → (books : List ℕ) → List ℕ
later tick found books = when tick then counted found books else books

-- they hold that: no number is above the most, and none is taken above
abbrev pub holds_later : (tick : Bool) (found : ℕ → ℕ) → (books : List ℕ) → Bool
holds_later tick found books = none_above books && none_above (later tick found books)

-- what is kept, and the books then; books that can't hold it stay
unfoldable pub kept_of : (tick : Bool) (found : ℕ → ℕ) → (books : List ℕ) → Outcome (Result Unit BookFault)
kept_of tick found books =
    when holds_later tick found books then outcome (Ok tt) (later tick found books)
    else outcome (Err Full) books
