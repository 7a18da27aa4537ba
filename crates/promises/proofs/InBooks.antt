-- The better battery, with books.
-- Assumes nothing.
use Rattle.books.proofs.Plain.{unhalted_flies}
use Rattle.promises.specs.InBooks.{keeping, InBooks}
use Rattle.promises.proofs.TwoCraft.{two_craft}

pub in_books : InBooks
in_books books books' cs ds r r' paired u u' n =
    rw (unhalted_flies n cs (keeping books) u, unhalted_flies n ds (keeping books') u') (two_craft cs ds r r' paired n)
