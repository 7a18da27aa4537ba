-- `hearing::decoding::decode` meets its contract: whatever it leaves of the units that are left, it leaves of them all.
use Prim.Native.Nat.{◌*◌, ◌≤◌}
use Rattle.hearing.proofs.DecodingLaws.{Leads}
use Rattle.hearing.proofs.decoding.decode.Given as goal

abbrev pub invariant-loop-unit : goal.invariant-loop-unit
invariant-loop-unit l =
    Leads l.units l.unit-index l.ear l.initial.text l.text l.at
    × (l.at ≤ 2 * l.unit-index)
    × (l.ear.down ≤ l.unit-index)
    × (l.ear.up ≤ l.unit-index)
