-- `books::summary::summary` meets its contract: the first m shares are made.
use Rattle.std.proofs.Common.{◌≡◌, ◌+◌, ◌*◌, ◌<◌, ◌≤◌, ℕ, true, refl, ap, sym, ◌∙◌, arith, add-zero, get_or, length}
use lib.Dec.{T}
use Rattle.std.proofs.lemmas.Option.{MatchOption-at_some}
use borrow.Author.Tests.{eq-eqb}
use Rattle.basics.proofs.ChoiceLaws.{holds}
use Rattle.basics.proofs.EachLaws.{worked_none, worked_turn, worked_all}
use Rattle.modules.specs.Groups.{module_count}
use Rattle.books.specs.Books.{book_numbers, most_seconds, none_above}
use Rattle.books.specs.Summary.{share_in, no_shares, shares_of, summary_of}
use Rattle.books.proofs.BooksLaws.{none_above_at}
use Rattle.books.proofs.summary.summary.Goals as goal

pub loop-m-init : goal.loop-m-init
loop-m-init c = worked_none _ _

pub share-requires : goal.share-requires
share-requires c =
    let books = c.in_ok-books.books.now in
    let m = c.loop-m.m in
    let low : T (none_above books) = holds (none_above books) (sym c.none_above.ensures ∙ c.if-not-none_above.false) in
    let at : (k : ℕ) → k < 3 → get_or books (3 * m + k) 0 ≤ most_seconds = λ k h. none_above_at books low (3 * m + k) (omega (arith, c.type_inv.books, h)) in
    (rw (add-zero (3 * m)) at (at 0 (omega arith)), at 1 (omega arith), at 2 (omega arith))

pub loop-m-preserved : goal.loop-m-preserved
loop-m-preserved c =
    let books = c.in_ok-books.books.now in
    let m = c.loop-m.m in
    rw (c.loop-m.invariant, c.share.ensures) (rw (add-zero (3 * m)) at (worked_turn (λ k none. share_in books k) m no_shares 0))

pub returns : goal.returns
unfolding summary_of shares_of
returns c =
    let l = c.loop-m in
    let e : l.m ≡ module_count = omega arith in
    let all = (rw e at l.invariant) ∙ worked_all _ module_count no_shares refl in
    let whole = MatchOption-at_some _ _ _ c.in_ok-books.ensures.ok_part c.as_array.ensures.cases in
    let low : none_above c.args.books.now ≡ true = ap none_above (sym whole.same) ∙ sym c.none_above.ensures ∙ c.if-not-none_above.false in
    simp (eq-eqb (length c.args.books.now) book_numbers whole.long, low, all, whole.same)
