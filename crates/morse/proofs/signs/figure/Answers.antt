-- `morse::signs::figure` meets its contract: its bits are the figure's marks.
use borrow.Author.Tests.{lt-ltb, le-ltb}
use Rattle.morse.specs.SignTable.{marks_of}
use Rattle.morse.proofs.SignsLaws.{figure_bits_law}
use Rattle.morse.proofs.signs.figure.Goals as goal

pub returns-then-digit-lt-FIVE : goal.returns-then-digit-lt-FIVE
unfolding marks_of
returns-then-digit-lt-FIVE c = rw (lt-ltb _ _ c.if-digit-lt-FIVE.true) at (figure_bits_law c.args.digit c.requires)

pub returns-else-digit-lt-FIVE : goal.returns-else-digit-lt-FIVE
unfolding marks_of
returns-else-digit-lt-FIVE c = rw (le-ltb _ _ c.if-digit-lt-FIVE.false) at (figure_bits_law c.args.digit c.requires)
