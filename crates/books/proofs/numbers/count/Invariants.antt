-- `books::numbers::count` meets its contract: the modules below m are counted.
use Rattle.std.proofs.Common.{◌≡◌}
use Rattle.books.specs.Books.{shown_as, counted}
use Rattle.books.proofs.CountLaws.{up_to}
use Rattle.books.proofs.numbers.count.Given as goal

abbrev pub invariant-loop-m : goal.invariant-loop-m
invariant-loop-m l = l.books ≡ counted (up_to l.m (shown_as l.masks)) l.initial.books
