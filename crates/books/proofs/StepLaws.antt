-- Laws of a call with books, one for each way that it ends.
-- Assumes nothing.
use Prim.Native.Nat.{ℕ, ◌<◌, ◌≤◌}
use Rattle.std.specs.Prelude.{Result, Ok, Err}
use Rattle.std.specs.Result.{is_ok}
use mathlib.Core.Path.{◌≡◌, refl, ap, sym, ◌∙◌}
use mathlib.Core.Bool.{Bool, true, false, true≢false, false≢true}
use mathlib.Core.List.{List, ◌++◌}
use lib.Dec.{eqb}
use lib.ListN.{get_or, length, take, drop}
use borrow.Author.Tests.{eq-eqb}
use Rattle.basics.specs.Outcome.{Outcome, outcome}
use Rattle.frames.specs.Answer.{is_reported}
use Rattle.frames.specs.Kind.{report_bytes, tick_kind}
use Rattle.supervisor.specs.Step.{step_of}
use Rattle.supervisor.specs.History.{Call, called, done_tick}
use Rattle.supervisor.specs.declared.state.State.{State}
use Rattle.supervisor.specs.declared.step.Stepped.{Stepped}
use Rattle.supervisor.proofs.StepLaws.{refused_left}
use Rattle.books.specs.Books.{book_numbers, shown_as, later, holds_later, kept_of}
use Rattle.books.specs.Step.{with_books, booked, halted, as_plain, is_early, found_after, step_books_of}
use Rattle.books.specs.declared.answer.BookFault.{BookFault}
use Rattle.books.specs.declared.answer.BookFault.TheVariants.{Full, NotBooks}
use Rattle.books.proofs.BooksLaws.{counted_same}
use Rattle.books.proofs.CallLaws.{early_left, early_no_tick, short_early, tick_masks, blank, own_result, own_tick, own_report}

-- why nothing was kept
fault_in : Result Unit BookFault → BookFault
fault_in (Ok done) = NotBooks
fault_in (Err fault) = fault

-- what is kept, and that it was
kept_held : (tick : Bool) (found : ℕ → ℕ) (books books' : List ℕ) → outcome (Ok tt) books' ≡ kept_of tick found books → (holds_later tick found books ≡ true) × (books' ≡ later tick found books)
unfolding kept_of
kept_held tick found books books' e = by (holds_later tick found books) refl
  where
    by : (t : Bool) → holds_later tick found books ≡ t → (holds_later tick found books ≡ true) × (books' ≡ later tick found books)
    by true h = (h, ap (λ (k : Outcome (Result Unit BookFault)). k.room) (rw h at e))
    by false h = absurd (true≢false (ap (λ (k : Outcome (Result Unit BookFault)). is_ok k.result) (rw h at e)))

kept_not :
    (tick : Bool) (found : ℕ → ℕ) (books books' : List ℕ) (fault : BookFault) → outcome (Err fault) books' ≡ kept_of tick found books →
    (holds_later tick found books ≡ false) × ((books' ≡ books) × (fault ≡ Full))
unfolding kept_of fault_in
kept_not tick found books books' fault e = by (holds_later tick found books) refl
  where
    by : (t : Bool) → holds_later tick found books ≡ t → (holds_later tick found books ≡ false) × ((books' ≡ books) × (fault ≡ Full))
    by true h = absurd (false≢true (ap (λ (k : Outcome (Result Unit BookFault)). is_ok k.result) (rw h at e)))
    by false h = (h, (ap (λ (k : Outcome (Result Unit BookFault)). k.room) (rw h at e), ap (λ (k : Outcome (Result Unit BookFault)). fault_in k.result) (rw h at e)))

-- of no tick it is no matter what is found
kept_same :
    (tick : Bool) (found shown : ℕ → ℕ) (books : List ℕ) → length books ≡ book_numbers → (tick ≡ true → (m : ℕ) → found m ≡ shown m) →
    kept_of tick found books ≡ kept_of tick shown books
unfolding kept_of
kept_same true found shown books size alike = rw (counted_same found shown books size (λ m h. alike refl m))
kept_same false found shown books size alike = refl

module _ (s : State) (input room books : List ℕ) where
  abbrev c : Call
  c = record { input = input; room = room }

  pub not_books : eqb (length books) book_numbers ≡ false → halted (Err NotBooks) s room books ≡ step_books_of s input room books
  unfolding step_books_of
  not_books e = simp e

  module _ (size : length books ≡ book_numbers) where
    sized : eqb (length books) book_numbers ≡ true
    sized = eq-eqb (length books) book_numbers size

    -- 1 to 6 are the plain call's
    pub early_books : is_early (called s c).result.answer ≡ true → as_plain (called s c) books ≡ step_books_of s input room books
    unfolding step_books_of
    early_books e = rw (sized, e, early_no_tick s c e)

    pub full_books :
        is_early (called s c).result.answer ≡ false → holds_later (done_tick s c) (found_after s c) books ≡ false →
        halted (Err Full) s room books ≡ step_books_of s input room books
    unfolding step_books_of
    full_books e f = rw (sized, e, f)

    pub kept_books :
        is_early (called s c).result.answer ≡ false → holds_later (done_tick s c) (found_after s c) books ≡ true →
        as_plain (called s c) (later (done_tick s c) (found_after s c) books) ≡ step_books_of s input room books
    unfolding step_books_of
    kept_books e f = rw (sized, e, f)

    -- a room that is too short
    pub short_books :
        length room < report_bytes → (after : Stepped) (room' : List ℕ) → outcome after room' ≡ step_of s input room →
        outcome (with_books (booked s (Ok after)) books) room' ≡ step_books_of s input room books
    short_books h after room' steps = ap (λ (o : Outcome Stepped). as_plain o books) steps ∙ early_books (short_early s c h)

    -- one that is not: the step is done into eleven bytes of one's own
    module _ (long : report_bytes ≤ length room) (after : Stepped) (report : List ℕ) (steps : outcome after report ≡ step_of s input blank) where
      result : after ≡ (called s c).result
      result = own_result s input room long after report steps

      pub own_early : is_early after.answer ≡ true → outcome (with_books (booked s (Ok after)) books) room ≡ step_books_of s input room books
      own_early e =
          let early : is_early (called s c).result.answer ≡ true = ap (λ (r : Stepped). is_early r.answer) (sym result) ∙ e in
          ap (λ (r : Stepped). outcome (with_books (booked s (Ok r)) books) room) result
          ∙ ap (λ (room' : List ℕ). outcome (with_books (booked s (Ok (called s c).result)) books) room') (sym (ap (λ (o : Outcome Stepped). o.room) (early_left s c early)))
          ∙ early_books early

      module _ (late : is_early after.answer ≡ false) (held : Result Unit BookFault) (books' : List ℕ)
          (keeps : outcome held books' ≡ kept_of (eqb (get_or report 1 0) tick_kind) (shown_as after.state.masks) books) where
        late_too : is_early (called s c).result.answer ≡ false
        late_too = ap (λ (r : Stepped). is_early r.answer) (sym result) ∙ late

        keeps_too : outcome held books' ≡ kept_of (done_tick s c) (found_after s c) books
        keeps_too =
            keeps
            ∙ ap (λ (t : Bool). kept_of t (shown_as after.state.masks) books) (own_tick s input room long after report steps)
            ∙ kept_same (done_tick s c) (shown_as after.state.masks) (found_after s c) books size
            (λ e m. ap (λ (r : Stepped). shown_as r.state.masks m) result ∙ tick_masks s c e m)

        pub own_full : (fault : BookFault) → held ≡ Err fault → outcome (with_books (booked s (Err fault)) books') room ≡ step_books_of s input room books
        own_full fault e =
            let k = kept_not (done_tick s c) (found_after s c) books books' fault (rw e at keeps_too) in
            rw (k.1.0, k.1.1) (full_books late_too k.0)

        module _ (e : held ≡ Ok tt) where
          whole : (room' : List ℕ) → room' ≡ (called s c).room → outcome (with_books (booked s (Ok after)) books') room' ≡ step_books_of s input room books
          whole room' same =
              let k = kept_held (done_tick s c) (found_after s c) books books' (rw e at keeps_too) in
              rw (k.1, same) (ap (λ (r : Stepped). outcome (with_books (booked s (Ok r)) (later (done_tick s c) (found_after s c) books)) (called s c).room) result)
              ∙ kept_books late_too k.0

          pub own_reported :
              is_reported after.answer ≡ true → (room' : List ℕ) → room' ≡ take (length report) report ++ drop (length report) room →
              outcome (with_books (booked s (Ok after)) books') room' ≡ step_books_of s input room books
          own_reported reported room' copied = whole room' (own_report s input room long after report steps reported room' copied)

          pub own_silent : is_reported after.answer ≡ false → outcome (with_books (booked s (Ok after)) books') room ≡ step_books_of s input room books
          own_silent silent =
              whole room (sym (ap (λ (o : Outcome Stepped). o.room) (refused_left s c (ap (λ (r : Stepped). is_reported r.answer) (sym result) ∙ silent))))
