-- `hearing::numbers::byte_of` meets its contract: an entry of the table is right by the table's rule, and a figure or
-- punctuation by the test over the signs of five and six marks.
use mathlib.Core.Path.{◌∙◌}
use borrow.Author.Tests.{le-ltb}
use Rattle.basics.proofs.TablesLaws.{upto}
use Rattle.hearing.specs.Numbers.{four_marks, is_byte, byte_of}
use Rattle.hearing.proofs.NumbersLaws.{same_byte_eq, letter_some, long_heard}
use Rattle.hearing.proofs.numbers.byte_of.Goals as goal

pub returns-then-number-lt-FOUR_MARKS : goal.returns-then-number-lt-FOUR_MARKS
returns-then-number-lt-FOUR_MARKS c =
    let number = c.args.number in
    c.then_some.ensures ∙ rw c.from.ensures
    (letter_some _
    ∙ same_byte_eq _ _ (upto (is_byte c.table.result) four_marks c.table.ensures number c.if-number-lt-FOUR_MARKS.true))

pub returns-then-number-ge-SIX_MARKS : goal.returns-then-number-ge-SIX_MARKS
unfolding byte_of
returns-then-number-ge-SIX_MARKS c = simp (le-ltb _ _ c.if-number-ge-SIX_MARKS.true)

pub returns : goal.returns
returns c =
    let heard = long_heard c.args.number c.if-number-lt-FOUR_MARKS.false c.if-number-ge-SIX_MARKS.false in
    cc
