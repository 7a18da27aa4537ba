-- `morse::units::put_text` meets its contract: the units of what is left of the text, put into the room as it is, make
-- what all of them make of the room at entry.
use mathlib.Core.Path.{◌≡◌}
use Prim.Native.Nat.{◌+◌}
use lib.ListN.{length, drop}
use lib.Seq.{sets}
use Rattle.morse.specs.Units.{units_after}
use Rattle.morse.proofs.units.put_text.Given as goal

abbrev pub invariant-loop-c : goal.invariant-loop-c
invariant-loop-c l =
    (l.at + length (units_after l.gap (drop l.c-index l.text)) ≡ length (units_after 0 l.text))
    × (sets l.room l.at (units_after l.gap (drop l.c-index l.text)) ≡ sets l.initial.room 0 (units_after 0 l.text))
