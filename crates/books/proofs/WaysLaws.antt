-- The two ways of a call with books: the books halt it, or it is the plain call; and what becomes of the state.
-- Assumes nothing.
use Prim.Native.Nat.{ℕ}
use Rattle.std.specs.Prelude.{Result, Ok, Err}
use mathlib.Core.Path.{◌≡◌, refl, ap, subst, sym, ◌∙◌}
use mathlib.Core.Bool.{Bool, true, false, not, ◌&&◌, true≢false, false≢true}
use mathlib.Core.List.{List}
use lib.Dec.{T, eqb}
use lib.ListN.{length}
use Rattle.basics.specs.Outcome.{Outcome}
use Rattle.basics.proofs.ChoiceLaws.{holds, and_right}
use Rattle.frames.specs.declared.answer.Answer.{Answer}
use Rattle.frames.specs.declared.answer.Answer.TheVariants.{BadState}
use Rattle.supervisor.specs.Range.{in_range}
use Rattle.supervisor.specs.History.{Call, called, done_tick, is_done}
use Rattle.supervisor.specs.declared.step.Stepped.{Stepped}
use Rattle.supervisor.proofs.HistoryLaws.{called_in_range}
use Rattle.supervisor.proofs.StepLaws.{reported_valid, refused_left, step_outside}
use Rattle.books.specs.Answer.{book_number, is_books, is_book_reported}
use Rattle.books.specs.Books.{book_numbers, later, holds_later, none_above}
use Rattle.books.specs.Step.{WithBooks, halted, as_plain, is_early, found_after, is_full, step_books_of}
use Rattle.books.specs.History.{Board, called_with, board_of, board_after}
use Rattle.books.specs.declared.answer.BookFault.{BookFault}
use Rattle.books.specs.declared.answer.BookFault.TheVariants.{Full, NotBooks}
use Rattle.books.specs.declared.step.Booked.{Booked}
use Rattle.books.proofs.CallLaws.{early_no_tick}
use Rattle.books.proofs.StepLaws.{early_books}

-- the books after the plain call
abbrev pub books_after : Board → Call → List ℕ
books_after b c = later (done_tick b.state c) (found_after b.state c) b.books

pub data Way (b : Board) (c : Call) : Type 0 where
  halts : (a : Result Answer BookFault) → is_books a ≡ true → called_with b c ≡ halted a b.state c.room b.books → Way b c
  plain : (T (none_above b.books) → T (none_above (books_after b c))) → called_with b c ≡ as_plain (called b.state c) (books_after b c) → Way b c

module _ (b : Board) (c : Call) where
  pub board_halted : (a : Result Answer BookFault) → called_with b c ≡ halted a b.state c.room b.books → board_after b c ≡ b
  board_halted a w = ap board_of w

  pub board_plain : called_with b c ≡ as_plain (called b.state c) (books_after b c) → board_after b c ≡ record { state = (called b.state c).result.state; books = books_after b c }
  board_plain w = ap board_of w

  -- what is not full stays so
  still_low : is_full b.state c b.books ≡ false → T (none_above b.books) → T (none_above (books_after b c))
  still_low e t = by (is_early (called b.state c).result.answer) refl (holds_later (done_tick b.state c) (found_after b.state c) b.books) refl e
    where
      by :
          (early : Bool) → is_early (called b.state c).result.answer ≡ early → (held : Bool) → holds_later (done_tick b.state c) (found_after b.state c) b.books ≡ held →
          (not early && not held) ≡ false → T (none_above (books_after b c))
      by true f held g h = rw (early_no_tick b.state c f) t
      by false f true g h = and_right (none_above b.books) (none_above (books_after b c)) (holds (holds_later (done_tick b.state c) (found_after b.state c) b.books) g)
      by false f false g h = absurd (true≢false h)

  by_full : (full : Bool) → is_full b.state c b.books ≡ full → eqb (length b.books) book_numbers ≡ true → Way b c
  unfolding step_books_of
  by_full true e f = halts (Err Full) refl (rw (f, e))
  by_full false e f = plain (still_low e) (rw (f, e))

  by_size : (books : Bool) → eqb (length b.books) book_numbers ≡ books → Way b c
  unfolding step_books_of
  by_size false f = halts (Err NotBooks) refl (rw f)
  by_size true f = by_full (is_full b.state c b.books) refl f

  pub way : Way b c
  way = by_size (eqb (length b.books) book_numbers) refl

-- 17 and 18 are not 0
pub halted_undone : (tick : Bool) (a : Result Answer BookFault) → is_books a ≡ true → (tick && is_done (book_number a)) ≡ false
halted_undone tick (Ok answer) e = absurd (false≢true e)
halted_undone true (Err Full) e = refl
halted_undone false (Err Full) e = refl
halted_undone true (Err NotBooks) e = refl
halted_undone false (Err NotBooks) e = refl

-- ---- the state

-- the books' own answers have no report
halted_silent : (a : Result Answer BookFault) → is_books a ≡ true → is_book_reported a ≡ false
halted_silent (Ok answer) e = absurd (false≢true e)
halted_silent (Err fault) e = refl

module _ (b : Board) (c : Call) where
  reports : {o : Outcome (WithBooks Booked)} → called_with b c ≡ o → is_book_reported (called_with b c).result.result.answer ≡ is_book_reported o.result.result.answer
  reports w = ap (λ (o : Outcome (WithBooks Booked)). is_book_reported o.result.result.answer) w

  -- with a report, the state was in range
  valid_by : Way b c → is_book_reported (called_with b c).result.result.answer ≡ true → T (in_range b.state)
  valid_by (halts a n w) e = absurd (false≢true (sym (reports w ∙ halted_silent a n) ∙ e))
  valid_by (plain low w) e = reported_valid b.state c (sym (reports w) ∙ e)

  pub booked_valid : is_book_reported (called_with b c).result.result.answer ≡ true → T (in_range b.state)
  booked_valid = valid_by (way b c)

  -- what is in range stays so
  kept_by : Way b c → T (in_range b.state) → T (in_range (board_after b c).state)
  kept_by (halts a n w) v = subst (λ (x : Board). T (in_range x.state)) (sym (board_halted b c a w)) v
  kept_by (plain low w) v = subst (λ (x : Board). T (in_range x.state)) (sym (board_plain b c w)) (called_in_range b.state c v)

  pub booked_in_range : T (in_range b.state) → T (in_range (board_after b c).state)
  booked_in_range = kept_by (way b c)

  -- with no report, the state is the same
  left_by : Way b c → is_book_reported (called_with b c).result.result.answer ≡ false → (board_after b c).state ≡ b.state
  left_by (halts a n w) e = ap (λ (x : Board). x.state) (board_halted b c a w)
  left_by (plain low w) e =
      ap (λ (x : Board). x.state) (board_plain b c w)
      ∙ ap (λ (o : Outcome Stepped). o.result.state) (refused_left b.state c (sym (reports w) ∙ e))

  pub booked_left : is_book_reported (called_with b c).result.result.answer ≡ false → (board_after b c).state ≡ b.state
  booked_left = left_by (way b c)

  -- a state out of range is refused with 1
  pub booked_outside : length b.books ≡ book_numbers → in_range b.state ≡ false → called_with b c ≡ halted (Ok BadState) b.state c.room b.books
  booked_outside size e =
      let outside = step_outside b.state c.input c.room e in
      sym (early_books b.state c.input c.room b.books size (ap (λ (o : Outcome Stepped). is_early o.result.answer) outside))
      ∙ ap (λ (o : Outcome Stepped). as_plain o b.books) outside
