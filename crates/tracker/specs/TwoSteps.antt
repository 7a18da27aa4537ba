-- Two steps: once a move has crossed the peak, the set point is never as far as two steps from it.
-- Assumes nothing.
use Rattle.std.specs.Prelude.{ℕ, ◌+◌, ◌*◌, ◌<◌, ◌≤◌}
use Rattle.tracker.specs.Tracker.{most_millivolts}
use Rattle.tracker.specs.Walk.{Curve, Place, size_of, Called, Calls}

-- how the power falls past the peak: a later one is lower than an earlier one
abbrev pub Lower : ℕ → ℕ → Type 0
Lower a b = a < b

-- the power rises strictly to one peak, and falls after it as is asked
pub record Peaked (Falls : ℕ → ℕ → Type 0) (curve : Curve) (peak : ℕ) : Type 0 where
  -- the peak is a set point
  pub low : peak ≤ most_millivolts
  pub rises : (a b : ℕ) → a < b → b ≤ peak → curve.at a < curve.at b
  pub falls : (a b : ℕ) → peak ≤ a → a < b → b ≤ most_millivolts → Falls (curve.at b) (curve.at a)

-- a move that started on one side of the peak, or at it, and ended on the other, or at it
pub data Crosses (peak from to : ℕ) : Type 0 where
  upward : from ≤ peak → peak ≤ to → Crosses peak from to
  downward : peak ≤ from → to ≤ peak → Crosses peak from to

-- nearer to the peak than that
pub record Within (reach peak point : ℕ) : Type 0 where
  pub not_below : peak < point + reach
  pub not_above : point < peak + reach

-- on every curve that falls so, after every such move across the peak, and after any number of calls
abbrev pub StaysWithin :
    (Falls : ℕ → ℕ → Type 0) (Moved : Curve → Place → Place → Type 0) (reach : ℕ → ℕ) → Type 0
StaysWithin Falls Moved reach =
    (curve : Curve) (peak : ℕ) → Peaked Falls curve peak → (p q : Place) → Moved curve p q →
    Crosses peak p.point q.point →
    (n : ℕ) (r : Place) → Calls curve q n r → Within (reach (size_of p)) peak r.point

-- two steps of a size
abbrev pub two_steps : ℕ → ℕ
two_steps size = 2 * size

-- the power falls strictly, the move is a call's own, and it stays less than two steps away
abbrev pub TwoSteps : Type 0
TwoSteps = StaysWithin Lower Called two_steps
