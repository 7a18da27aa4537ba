-- `flight::calls::ems_step_books` meets its contract: no 24 numbers are refused, then bytes of another layout; else the state that they say is
-- worked, and its image becomes the next state's if a report was written.
use mathlib.Core.Path.{◌≡◌, sym, ◌∙◌}
use borrow.Author.Tests.{ne_eqb}
use Rattle.std.specs.Prelude.{Some}
use Rattle.flight.specs.Loading.{fields_say}
use Rattle.flight.proofs.CallsLaws.{size_said, books_none, books_foreign, books_in_range, books_reported, books_refused}
use borrow.Author.Rules.{rules}
use Rattle.flight.proofs.calls.ems_step_books.Goals as goal
use Rattle.flight.proofs.calls.ems_step_books.Goals.{then-is_reported, else-is_reported}

pub returns-then-books-ne-NUMBERS : goal.returns-then-books-ne-NUMBERS
returns-then-books-ne-NUMBERS c = simp c.number.ensures (books_none _ _ _ _ (ne_eqb _ _ c.if-books-ne-NUMBERS.true))

pub returns-in_default : goal.returns-in_default
returns-in_default c =
    simp c.number-in_default.ensures
    (books_foreign _ _ (sym c.load.ensures ∙ c.in_default.is) _ _ c.if-books-ne-NUMBERS.false)

pub save-requires : goal.save-requires
save-requires c =
    let say : fields_say c.args.image.now ≡ Some c.in-Some.state = sym c.load.ensures ∙ c.in-Some.is in
    let after =
    books_in_range _ _ _ say _ _ c.if-books-ne-NUMBERS.false c.step_books-booked.result _ _ c.step_books-booked.ensures (sym c.is_reported.ensures ∙ c.if-is_reported.true) in
    (size_said _ c.args.room.now _ say, search (after))

pub returns : goal.returns
returns c =
    let say : fields_say c.args.image.now ≡ Some c.in-Some.state = sym c.load.ensures ∙ c.in-Some.is in
    simp c.number-2.ensures
    (elim c.if-is_reported.branch [
      | then-is_reported w ↦ simp (w.image-is, w.save.ensures)
          (books_reported _ _ _ say _ _ c.if-books-ne-NUMBERS.false c.step_books-booked.result _ _ c.step_books-booked.ensures (sym c.is_reported.ensures ∙ w.if-is_reported.true))
      | else-is_reported w ↦ simp w.image-is
          (books_refused _ _ _ say _ _ c.if-books-ne-NUMBERS.false c.step_books-booked.result _ _ c.step_books-booked.ensures
          (λ i. search rules) (sym c.is_reported.ensures ∙ w.if-is_reported.false))
    ])
