-- `morse::signs::letters` meets its contract: antt computes the rule's test at each entry.
use lib.Count.{ones_in}
use Rattle.morse.specs.Signs.{alphabet, sign_of}
use Rattle.morse.specs.SignTable.{marks_of}
use Rattle.morse.proofs.signs.letters.Goals as goal

pub returns : goal.returns
unfolding ones_in alphabet sign_of marks_of
returns c = tt
