-- `morse::units::put_sign` meets its contract: the marks that are left, put into the room as it is, make what all of
-- them make of the room at entry.
use mathlib.Core.Path.{◌≡◌}
use Prim.Native.Nat.{◌+◌, ◌-◌}
use lib.ListN.{length}
use lib.Seq.{sets}
use Rattle.morse.specs.SignTable.{unpack}
use Rattle.morse.specs.Units.{sign_units}
use Rattle.morse.proofs.units.put_sign.Given as goal

abbrev pub invariant-loop : goal.invariant-loop
invariant-loop l =
    let left = sign_units l.up (unpack (l.end - l.counter) l.marks) in
    let all = sign_units l.gap (unpack l.end l.initial.marks) in
    (l.i + length left ≡ l.at + length all) × (sets l.room l.i left ≡ sets l.initial.room l.at all)
