-- `morse::units::put_sign` meets its contract: the marks that are left, put into the room as it is, make what all of
-- them make of the room at entry.
use mathlib.Core.Path.{◌≡◌}
use Prim.Native.Nat.{◌+◌, ◌-◌}
use native.Mathlib.Omega.{arith}
use Rattle.morse.specs.SignTable.{marks_of}
use Rattle.morse.proofs.UnitsLaws.{length_sign, sets_sign}
use Rattle.morse.proofs.units.put_sign.Goals as goal

pub put_run-down-requires : goal.put_run-down-requires
unfolding marks_of
put_run-down-requires c =
    let l = c.loop in
    omega (arith, length_sign (c.args.sign.len - l.counter) l.marks l.up (omega arith))

pub put_run-i-requires : goal.put_run-i-requires
unfolding marks_of
put_run-i-requires c =
    let l = c.loop in
    omega (arith, length_sign (c.args.sign.len - l.counter) l.marks l.up (omega arith))

pub loop-preserved : goal.loop-preserved
loop-preserved c =
    let l = c.loop in
    let n = c.args.sign.len - l.counter in
    let e : n - 1 ≡ c.args.sign.len - (l.counter + 1) = omega arith in
    let far = rw e at (length_sign n l.marks l.up (omega arith)) in
    (omega (arith, far), cc (rw e at (sets_sign n l.marks l.up (omega arith) l.room l.i)))

pub returns : goal.returns
unfolding marks_of
returns c =
    let l = c.loop in
    let z : c.args.sign.len - l.counter ≡ 0 = omega arith in
    (omega (arith, rw z at l.invariant.0), rw z at l.invariant.1)
