-- `morse::units::put_run` meets its contract: what is left to store, put into the room as it is, makes what all of it
-- makes of the room at entry.
use Prim.Native.Nat.{◌+◌}
use native.Mathlib.Omega.{arith}
use Rattle.morse.proofs.UnitsLaws.{run_step}
use Rattle.morse.proofs.units.put_run.Goals as goal

pub loop-i-preserved : goal.loop-i-preserved
loop-i-preserved c =
    let l = c.loop-i in
    let a = c.args in
    cc (run_step (a.at + a.n) a.v l.i l.room (omega arith))
