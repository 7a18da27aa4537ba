-- Laws of a call on a curve: which way it goes, and what power is won or lost on either side of the peak.
-- Assumes nothing.
use Prim.Native.Nat.{ℕ, ◌+◌, ◌<◌, ◌≤◌}
use native.Mathlib.Omega.{arith}
use native.Mathlib.Nat.{le_of_mul-le-mul_right, lt_of_mul-lt-mul_right}
use mathlib.Core.Path.{◌≡◌, ap, ◌∙◌}
use mathlib.Core.Bool.{Bool, true, false, not}
use lib.IntN.{ℤ, neg_ℤ}
use Rattle.std.proofs.Common.{is_ok}
use Rattle.basics.proofs.ChoiceLaws.{within_low, within_high}
use Rattle.tracker.specs.Tracker.{most_millivolts, longest_step, headed, done, in_range}
use Rattle.tracker.specs.Range.{step_to, Moves, goes_up, goes_down, stops_above, stops_below, Kept}
use Rattle.tracker.specs.Walk.{Curve, Place, size_of, Called}
use Rattle.tracker.specs.TwoSteps.{Lower, Peaked}
use Rattle.tracker.specs.Arrival.{way_to}
use Rattle.tracker.proofs.SignedLaws.{step_to_turned}
use Rattle.tracker.proofs.TrackerLaws.{headed_kept, headed_turned, InRange, ranges, done_in_range}
use Rattle.tracker.proofs.RangeLaws.{track_moves, range}

-- a set point that is one step further, up or down
abbrev pub Further : (up : Bool) (size from to : ℕ) → Type 0
Further true size from to = to ≡ from + size
Further false size from to = to + size ≡ from

module _ (curve : Curve) (p q : Place) (c : Called curve p q) where
  called_in_range : in_range c.before c.after p.point p.step ≡ true
  called_in_range = done_in_range c.before c.after p.point p.step (ap is_ok c.tracks)

  in_range_law : InRange c.before c.after p.point p.step
  in_range_law = ranges c.before c.after p.point p.step called_in_range

  pub some_step : 1 ≤ size_of p
  some_step = within_low 1 longest_step (size_of p) in_range_law.is_step_law

  pub short_step : size_of p ≤ longest_step
  short_step = within_high 1 longest_step (size_of p) in_range_law.is_step_law

  pub point_low : p.point ≤ most_millivolts
  point_low = in_range_law.point_low

  pub was_low : p.was ≤ most_millivolts
  was_low = omega (arith, in_range_law.voltage_before, c.read_before.voltage)

  goes : (up : Bool) (size : ℕ) → headed c.before c.after p.step ≡ step_to up size → Moves size p.point up q.point q.step
  goes up size e =
      track_moves c.before c.after p.point p.step up size (done q.point q.step) c.tracks e

  -- a call after a move that lost no power goes on the same way
  pub keeps : (up : Bool) (size : ℕ) → p.step ≡ step_to up size → curve.at p.was ≤ curve.at p.point → Moves size p.point up q.point q.step
  keeps up size e h =
      goes up size (headed_kept c.before c.after p.step (le_of_mul-le-mul_right {k = curve.parts} (omega (arith, c.read_before.product, c.read_after.product)) curve.some) ∙ e)

  -- a call after a move that lost power goes the other way
  pub turns : (up : Bool) (size : ℕ) → p.step ≡ step_to up size → curve.at p.point < curve.at p.was → Moves size p.point (not up) q.point q.step
  turns up size e h =
      goes (not up) size
      (headed_turned c.before c.after p.step (lt_of_mul-lt-mul_right curve.parts (omega (arith, c.read_before.product, c.read_after.product)))
      ∙ ap neg_ℤ e ∙ step_to_turned up size)

  -- a call goes up or down
  pub record Goes : Type 0 where
    pub way : Bool
    pub move : Moves (size_of p) p.point way q.point q.step

  pub some_way : Goes
  some_way =
      let k : Kept most_millivolts p.point p.step (done q.point q.step) = range.kept c.before c.after p.point p.step (done q.point q.step) c.tracks in
      record { way = k.way; move = k.move }

module _ (curve : Curve) (peak : ℕ) (peaked : Peaked Lower curve peak) where
  -- what is further on the way to the peak has more power
  pub towards : (up : Bool) (a b : ℕ) → a ≤ most_millivolts → 0 < way_to up b a → way_to (not up) peak b ≡ 0 → curve.at a < curve.at b
  towards true a b l h k = peaked.rises a b (omega arith) (omega arith)
  towards false a b l h k = peaked.falls b a (omega arith) (omega arith) l

  -- what is further on the way from it has less
  pub away : (up : Bool) (a b : ℕ) → b ≤ most_millivolts → 0 < way_to up b a → way_to up peak a ≡ 0 → curve.at b < curve.at a
  away true a b l h k = peaked.falls a b (omega arith) (omega arith) l
  away false a b l h k = peaked.rises b a (omega arith) (omega arith)

-- the end that a move up or down may come to
abbrev pub end_of : (up : Bool) → ℕ
end_of true = most_millivolts
end_of false = 0

-- a move goes a step further, or stops at the end that is nearer than that, and is turned there
pub data Went (up : Bool) (size from to : ℕ) (step : ℤ) : Type 0 where
  on : Further up size from to → to ≤ most_millivolts → step ≡ step_to up size → Went up size from to step
  ended : to ≡ end_of up → way_to up (end_of up) from < size → step ≡ step_to (not up) size → Went up size from to step

pub went : (up : Bool) (size from to : ℕ) (step : ℤ) → from ≤ most_millivolts → Moves size from up to step → Went up size from to step
went true size from to step low (goes_up f e s) = on e f s
went true size from to step low (stops_above f e s) = ended e (omega arith) s
went false size from to step low (goes_down e s) = on e (omega arith) s
went false size from to step low (stops_below f e s) = ended e (omega arith) s
