-- `morse::units::put_run` meets its contract: what is left to store, put into the room as it is, makes what all of it
-- makes of the room at entry.
use mathlib.Core.Path.{◌≡◌}
use Prim.Native.Nat.{◌-◌}
use lib.ListN.{replicate}
use lib.Seq.{sets}
use Rattle.morse.proofs.units.put_run.Given as goal

abbrev pub invariant-loop-i : goal.invariant-loop-i
invariant-loop-i l = sets l.room l.i (replicate (l.end - l.i) l.v) ≡ sets l.initial.room l.at (replicate l.n l.v)
