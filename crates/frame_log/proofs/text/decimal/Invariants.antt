-- The digits that are still to write, and then those written, are the number's.
use Rattle.std.proofs.Common.{◌≡◌, ◌++◌, drop}
use Rattle.frame_log.specs.Text.{decimal, decimal_up_to}
use Rattle.frame_log.proofs.text.decimal.Given as goal

abbrev pub invariant-loop-i : goal.invariant-loop-i
invariant-loop-i l = decimal_up_to l.i l.rest ++ drop l.i l.digits ≡ decimal l.n
