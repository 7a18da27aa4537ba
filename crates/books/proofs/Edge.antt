-- A hair more than the books promise is false, each at a board that is defined by name.
-- Assumes nothing.
use Prim.Native.Nat.{ℕ, ◌+◌, ◌*◌, ◌≤◌}
use Rattle.std.specs.Prelude.{Err}
use mathlib.Core.Path.{◌≡◌, refl, ap, sym, ◌∙◌}
use mathlib.Core.Bool.{Bool, not}
use mathlib.Core.List.{List, [], ◌∷◌}
use native.Mathlib.Omega.{arith}
use lib.Dec.{T, eqb}
use lib.ListN.{get_or, length, replicate}
use Rattle.basics.specs.Each.{each, each_from}
use Rattle.frames.specs.Kind.{report_bytes}
use Rattle.frames.specs.declared.serial.Serials.{Serials}
use Rattle.supervisor.specs.Fresh.{fresh_state}
use Rattle.supervisor.specs.Report.{mode_byte}
use Rattle.supervisor.specs.History.{Call, called, answered}
use Rattle.supervisor.proofs.Rules.{rules}
use Rattle.books.specs.Books.{book_numbers, number_in, most_seconds, counted, none_above}
use Rattle.books.specs.Answer.{book_number}
use Rattle.books.specs.Step.{step_books_of}
use Rattle.books.specs.History.{Board, answer_with, board_after, after_with, tick_reports}
use Rattle.books.specs.Seconds.{those, anew, SecondsOf}
use Rattle.books.specs.Plain.{PlainBut}
use Rattle.books.specs.Summary.{shares_of}
use Rattle.books.specs.RoundedDown.{SharesBy}
use Rattle.books.specs.declared.answer.BookFault.TheVariants.{Full, NotBooks}

-- a call with room
abbrev with_room : (input : List ℕ) → Call
with_room input = record { input = input; room = replicate report_bytes 0 }

tick : Call
tick = with_room (1 ∷ 0 ∷ [])

-- ground's first order, COMM2 off
quiet : Call
quiet = with_room (4 ∷ 1 ∷ 0 ∷ 1 ∷ 2 ∷ 0 ∷ [])

-- a report of a tick outside DEPLOY_WAIT
pub outside : (report : List ℕ) → Bool
outside report = not (eqb (get_or report mode_byte 0) 0)

in_the_books :
    number_in (after_with (anew fresh_state) (tick ∷ [])).books 0 0 + number_in (after_with (anew fresh_state) (tick ∷ [])).books 0 1
    + number_in (after_with (anew fresh_state) (tick ∷ [])).books 0 2 ≡ 1
unfolding rules step_books_of counted none_above each each_from tick
in_the_books = refl

none_outside : length (those outside (tick_reports (anew fresh_state) (tick ∷ []))) ≡ 0
unfolding rules step_books_of counted none_above each each_from tick outside
none_outside = refl

-- without DEPLOY_WAIT's ticks
pub not_outside_alone : SecondsOf outside → ⊥
not_outside_alone says = omega (arith, (says fresh_state (tick ∷ []) 0 (omega arith)).sum, in_the_books, none_outside)

-- the fresh board, MCS off for as long as its number holds
brimful : Board
brimful = record { state = fresh_state; books = 0 ∷ most_seconds ∷ replicate 22 0 }

-- a number less than there must be
torn : Board
torn = record { state = fresh_state; books = replicate 23 0 }

plain_done : answered fresh_state tick ≡ 0
unfolding rules tick
plain_done = refl

full_halts : answer_with brimful tick ≡ Err Full
unfolding rules step_books_of counted none_above each each_from tick brimful
full_halts = refl

torn_halts : answer_with torn tick ≡ Err NotBooks
unfolding step_books_of torn
torn_halts = refl

-- with 18 alone
pub not_but_for_18 : PlainBut (λ answer. eqb (book_number answer) 18) → ⊥
unfolding brimful
not_but_for_18 says = omega (arith, ap book_number (sym full_halts ∙ (says.plain brimful tick (rw full_halts)).answer), plain_done)

-- with 17 alone
pub not_but_for_17 : PlainBut (λ answer. eqb (book_number answer) 17) → ⊥
unfolding torn
not_but_for_17 says = omega (arith, ap book_number (sym torn_halts ∙ (says.plain torn tick (rw torn_halts)).answer), plain_done)

-- a number above the most, so that orders are halted too
overfull : Board
overfull = record { state = fresh_state; books = 1000000000000001 ∷ replicate 23 0 }

unheard : (board_after overfull quiet).state.serials.ground ≡ 0
unfolding rules step_books_of counted none_above each each_from quiet overfull
unheard = refl

heard : (called fresh_state quiet).result.state.serials.ground ≡ 1
unfolding rules quiet
heard = refl

-- that serials move as without books: a 17 uses up none
pub not_serials : ((b : Board) (c : Call) → (board_after b c).state.serials ≡ (called b.state c).result.state.serials) → ⊥
unfolding overfull
not_serials says = omega (arith, unheard, heard, ap (λ (n : Serials). n.ground) (says overfull quiet))

-- one second on and two off: 333 and a third
a_third : List ℕ
a_third = 1 ∷ 2 ∷ replicate 22 0

-- so many thousandths cover it
abbrev pub Up : (on all share : ℕ) → Type 0
Up on all share = on * 1000 ≤ share * all

third : get_or (shares_of a_third) 0 0 ≡ 333
unfolding shares_of each each_from a_third
third = refl

low_third : T (none_above a_third)
unfolding none_above a_third
low_third = tt

size_third : length a_third ≡ book_numbers
unfolding a_third
size_third = refl

-- rounded up
pub not_up : SharesBy Up → ⊥
unfolding a_third
not_up says = omega (arith, third, (says a_third size_third low_third).shares 0 (omega arith))
