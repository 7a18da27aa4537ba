-- `books::numbers::takes_tick` meets its contract: the numbers that it adds to for the modules below m are below the most.
use Rattle.std.proofs.Common.{ℕ, ◌<◌, get_or}
use Rattle.books.specs.Books.{most_seconds, place_of, shown_as}
use Rattle.books.proofs.numbers.takes_tick.Given as goal

abbrev pub invariant-loop-m : goal.invariant-loop-m
invariant-loop-m l =
    (k : ℕ) → k < l.m → get_or l.books (place_of k (shown_as l.masks k)) 0 < most_seconds
