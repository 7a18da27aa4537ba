-- `hearing::numbers::table` meets its contract: antt computes the rule's test at each entry.
use Rattle.morse.specs.Signs.{alphabet}
use Rattle.hearing.specs.Numbers.{byte_of}
use Rattle.hearing.proofs.numbers.table.Goals as goal

pub returns : goal.returns
unfolding alphabet byte_of
returns c = tt
