-- `totals` meets its contract: the rule's test is computed at each entry.
use Rattle.frames.specs.Kind.{total_of}
use Rattle.frames.proofs.kind.totals.Goals as goal

pub returns : goal.returns
unfolding total_of
returns c = tt
