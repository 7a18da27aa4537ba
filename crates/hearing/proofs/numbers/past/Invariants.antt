-- `hearing::numbers::past` meets its contract: the part at hand comes to the byte that the first one comes to, and there
-- are turns left for as long as it is short of 32.
use mathlib.Core.Path.{◌≡◌}
use Prim.Native.Nat.{◌+◌, ◌-◌, ◌<◌, ◌≤◌}
use Rattle.hearing.specs.Numbers.{four_marks, past_by}
use Rattle.hearing.proofs.numbers.past.Given as goal

abbrev pub invariant-loop-rest : goal.invariant-loop-rest
invariant-loop-rest l =
    (l.first ≤ l.byte)
    × (l.byte < l.first + l.rest)
    × (l.rest < four_marks + four_marks)
    × (past_by (four_marks + l.first - l.byte) l.byte l.rest ≡ past_by four_marks l.first l.part)

abbrev pub decreases-loop-rest : goal.decreases-loop-rest
decreases-loop-rest l = four_marks + four_marks - l.rest
