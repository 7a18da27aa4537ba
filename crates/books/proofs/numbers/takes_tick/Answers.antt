-- `books::numbers::takes_tick` meets its contract: the numbers that it adds to for the modules below m are below the most.
use Rattle.std.proofs.Common.{sym, arith}
use Rattle.books.specs.Books.{shown_as}
use Rattle.books.proofs.BooksLaws.{shown_small, takes_tick, takes_no_tick}
use Rattle.books.proofs.numbers.takes_tick.Goals as goal

pub returns-then-books-m-ge-MOST : goal.returns-then-books-m-ge-MOST
returns-then-books-m-ge-MOST c =
    let masks = c.args.masks in
    sym (takes_no_tick (shown_as masks) (shown_small masks) c.args.books.now (omega arith) c.loop-m.m c.loop-m-test.true (rw c.second.ensures at c.if-books-m-ge-MOST.true))

pub returns : goal.returns
returns c =
    let masks = c.args.masks in
    sym (takes_tick (shown_as masks) (shown_small masks) c.args.books.now (omega arith) c.requires (λ m h. c.loop-m.invariant m (omega (arith, h))))
