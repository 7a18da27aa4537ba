-- `fill` meets its contract. The invariant: what is left, entered after what is used, gives the whole. The measure is the bytes left.
use Prim.Native.Nat.{◌-◌}
use lib.ListN.{length}
use Rattle.stream.proofs.FillLaws.{Underway}
use Rattle.stream.proofs.piece.fill.Given as goal

abbrev pub invariant-loop-frame : goal.invariant-loop-frame
invariant-loop-frame l = Underway l.initial.log l.bytes l.ended l.initial.room l.log l.room l.used l.lines

abbrev pub decreases-loop-frame : goal.decreases-loop-frame
decreases-loop-frame l = length l.bytes - l.used
