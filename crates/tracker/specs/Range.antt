-- What a call keeps in range, and where a move stops.
-- Assumes nothing.
use Rattle.std.specs.Prelude.{ℕ, ◌+◌, ◌<◌, ◌≤◌, ◌≡◌, Bool, true, false, ℤ, pos, neg_ℤ, nat_abs, Ok, Err, IsOk}
use Rattle.tracker.specs.Tracker.{most_millivolts, in_range, out_of_range, track_of, left_at}
use Rattle.tracker.specs.declared.Reading.{Reading}
use Rattle.tracker.specs.declared.Tracked.{Tracked}

-- a step of a size, up or down
abbrev pub step_to : (up : Bool) (size : ℕ) → ℤ
step_to true size = pos size
step_to false size = neg_ℤ (pos size)

-- a move up or down from a set point: where it comes to, and the step handed back
pub data Moves (size from : ℕ) : (up : Bool) (to : ℕ) (step : ℤ) → Type 0 where
  -- it stays within the ends, or comes to one exactly, and the step is kept
  goes_up :
      {to : ℕ} {step : ℤ} → to ≤ most_millivolts → to ≡ from + size → step ≡ step_to true size →
      Moves size from true to step
  goes_down :
      {to : ℕ} {step : ℤ} → to + size ≡ from → step ≡ step_to false size → Moves size from false to step
  -- past an end: it stops there, and the step is turned
  stops_above :
      {to : ℕ} {step : ℤ} → most_millivolts < from + size → to ≡ most_millivolts → step ≡ step_to false size →
      Moves size from true to step
  stops_below :
      {to : ℕ} {step : ℤ} → from < size → to ≡ 0 → step ≡ step_to true size → Moves size from false to step

-- a done call, from a set point with a step
pub record Kept (most point : ℕ) (step : ℤ) (t : Tracked) : Type 0 where
  -- the set point is within the ends
  pub low : t.point ≤ most
  -- the step has the size it had
  pub size : nat_abs t.step ≡ nat_abs step
  -- the set point has moved by that size, up or down, or to an end
  pub way : Bool
  pub move : Moves (nat_abs step) point way t.point t.step

-- where a refused call leaves them: both stand
pub record Stands (point : ℕ) (step : ℤ) (t : Tracked) : Type 0 where
  pub point_same : t.point ≡ point
  pub step_same : t.step ≡ step

-- with set points up to a number
pub record RangeTo (most : ℕ) : Type 0 where
  -- what is in range is done
  pub taken :
      (before after : Reading) (point : ℕ) (step : ℤ) → in_range before after point step ≡ true →
      IsOk (track_of before after point step)
  pub kept :
      (before after : Reading) (point : ℕ) (step : ℤ) (t : Tracked) → track_of before after point step ≡ Ok t →
      Kept most point step t
  pub refused :
      (before after : Reading) (point : ℕ) (step : ℤ) → track_of before after point step ≡ Err out_of_range →
      Stands point step (left_at point step (track_of before after point step))

abbrev pub Range : Type 0
Range = RangeTo most_millivolts
