-- `books::numbers::count` meets its contract: the modules below m are counted.
use Rattle.std.proofs.Common.{◌≡◌, ◌+◌, ◌*◌, ◌≤◌, ◌∙◌, arith, get_or}
use Rattle.modules.specs.Groups.{module_count}
use Rattle.books.specs.Books.{most_seconds, shown_as}
use Rattle.books.proofs.BooksLaws.{shown_small}
use Rattle.books.proofs.CountLaws.{counted_none, counted_all, counted_turn, counted_low}
use Rattle.books.proofs.numbers.count.Goals as goal

pub loop-m-init : goal.loop-m-init
loop-m-init c = counted_none (shown_as c.args.masks) c.args.books.now

-- the number is not at its most
pub overflow_add-books-in-loop-m : goal.overflow_add-books-in-loop-m
overflow_add-books-in-loop-m c =
    let l = c.loop-m in
    let masks = c.args.masks in
    let below : get_or l.books (3 * l.m + c.second.result) 0 ≤ most_seconds =
    rw (l.invariant, c.second.ensures)
    (counted_low (shown_as masks) (shown_small masks) c.args.books.now (omega arith) c.requires l.m c.loop-m-test.true) in
    omega (arith, below)

pub loop-m-preserved : goal.loop-m-preserved
loop-m-preserved c =
    let l = c.loop-m in
    rw (l.invariant, c.second.ensures) (counted_turn (shown_as c.args.masks) l.m (shown_small c.args.masks l.m) c.args.books.now)

pub returns : goal.returns
returns c =
    let l = c.loop-m in
    let e : l.m ≡ module_count = omega arith in
    (rw e at l.invariant) ∙ counted_all (shown_as c.args.masks) c.args.books.now (omega arith)
