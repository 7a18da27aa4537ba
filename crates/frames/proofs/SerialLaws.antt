-- Laws of a serial's distance: a fresh one lies ahead of the last, and is the last one moved on by it.
-- Assumes nothing.
use Rattle.std.proofs.Common.{◌≡◌, ℕ, ◌+◌, ◌%◌, ◌<◌, Bool, true, false, eqb, ltb, refl, arith, ltb-true}
use borrow.Author.Tests.{eqb-false}
use Rattle.basics.specs.Choice.{when◌then◌else◌}
use Rattle.frames.specs.Serial.{serial_count, stale_from, distance, class_of}
use Rattle.frames.specs.declared.serial.Class.TheVariants.{Repeat, Fresh, Stale}

ahead :
    (d : ℕ) (zero near : Bool) → eqb d 0 ≡ zero → ltb d stale_from ≡ near → (when zero then Repeat else when near then Fresh else Stale) ≡ Fresh →
    (0 < d) × (d < stale_from)
ahead d true near e f h = let z : ◌≡◌ {A = ℕ} 0 1 = cc in absurd (omega arith)
ahead d false false e f h = let z : ◌≡◌ {A = ℕ} 0 1 = cc in absurd (omega arith)
ahead d false true e f h = (omega (arith, eqb-false d 0 e), ltb-true d stale_from f)

-- a fresh serial lies 1 to 32,767 ahead of the last
pub fresh_ahead : (serial last : ℕ) → class_of serial last ≡ Fresh → (0 < distance serial last) × (distance serial last < stale_from)
unfolding class_of
fresh_ahead serial last e = ahead (distance serial last) (eqb (distance serial last) 0) (ltb (distance serial last) stale_from) refl refl e

-- what lies ahead is the last one moved on by its distance
pub moved_on_law : (serial last : ℕ) → 0 < distance serial last → serial % serial_count ≡ (last + distance serial last) % serial_count
moved_on_law serial last h = omega arith
