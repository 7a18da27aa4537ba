-- No more units are down than were passed.
use Rattle.std.proofs.Common.{◌≤◌}
use Rattle.signs.proofs.say_marks.Given as goal

abbrev pub invariant-loop-unit : goal.invariant-loop-unit
invariant-loop-unit g l = l.down ≤ l.unit-index
