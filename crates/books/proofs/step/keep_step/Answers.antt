-- `books::step::keep_step` meets its contract: each way that it ends is a law.
use Rattle.std.proofs.Common.{sym, ap, ◌∙◌, length}
use Rattle.std.proofs.lemmas.Result.{err_from_is_err_and}
use borrow.Author.Tests.{ne_eqb}
use Rattle.books.proofs.StepLaws.{not_books, short_books, own_early, own_full, own_reported, own_silent}
use Rattle.books.proofs.step.keep_step.Goals as goal

pub returns-in_default : goal.returns-in_default
returns-in_default c = not_books _ _ _ _ (ne_eqb _ _ c.in_default.ensures.cases)

pub returns-then-room-lt-REPORT_BYTES : goal.returns-then-room-lt-REPORT_BYTES
returns-then-room-lt-REPORT_BYTES c =
    let whole = c.in-Some.ensures.cases in
    rw (← whole.same) (short_books _ _ _ _ (ap length whole.same ∙ whole.long) c.if-room-lt-REPORT_BYTES.true _ _ c.step.ensures)

pub returns-then-is_early : goal.returns-then-is_early
returns-then-is_early c =
    let whole = c.in-Some.ensures.cases in
    rw (← whole.same)
    (own_early _ _ _ _ (ap length whole.same ∙ whole.long) c.if-room-lt-REPORT_BYTES.false _ _ c.step-after.ensures
    (sym c.is_early.ensures ∙ c.if-is_early.true))

pub returns-in_err-keep : goal.returns-in_err-keep
returns-in_err-keep c =
    let whole = c.in-Some.ensures.cases in
    let fault = err_from_is_err_and c.from_residual.result c.from_residual.ensures.1 in
    rw (← whole.same, fault.1, fault.2)
    (own_full _ _ _ _ (ap length whole.same ∙ whole.long) c.if-room-lt-REPORT_BYTES.false _ _ c.step-after.ensures
    (sym c.is_early.ensures ∙ c.if-is_early.false) _ _ c.keep.ensures _ c.in_err-keep.was)

pub returns-then-is_reported : goal.returns-then-is_reported
returns-then-is_reported c =
    let whole = c.in-Some.ensures.cases in
    rw (← whole.same)
    (own_reported _ _ _ _ (ap length whole.same ∙ whole.long) c.if-room-lt-REPORT_BYTES.false _ _ c.step-after.ensures
    (sym c.is_early.ensures ∙ c.if-is_early.false) _ _ c.keep.ensures c.in_ok-keep.was
    (sym c.is_reported.ensures ∙ c.if-is_reported.true) _ c.copy.ensures.1)

pub returns-else-is_reported : goal.returns-else-is_reported
returns-else-is_reported c =
    let whole = c.in-Some.ensures.cases in
    rw (← whole.same)
    (own_silent _ _ _ _ (ap length whole.same ∙ whole.long) c.if-room-lt-REPORT_BYTES.false _ _ c.step-after.ensures
    (sym c.is_early.ensures ∙ c.if-is_early.false) _ _ c.keep.ensures c.in_ok-keep.was
    (sym c.is_reported.ensures ∙ c.if-is_reported.false))
