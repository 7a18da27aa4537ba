-- `pass` meets its contract. The invariant: what was done and what is left make up the whole. The measure is the bytes left.
use lib.ListN.{length}
use Rattle.pass.proofs.PassLaws.{Underway}
use Rattle.pass.proofs.pass.Given as goal

abbrev pub invariant-loop-rest : goal.invariant-loop-rest
invariant-loop-rest l = Underway l.initial.state l.input l.initial.room l.state l.room l.rest l.reported

abbrev pub decreases-loop-rest : goal.decreases-loop-rest
decreases-loop-rest l = length l.rest
