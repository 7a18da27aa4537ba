-- It gets there: on its way to the peak a walk is there in as many calls as steps fit into the way, the last one
-- counted whole, and from then on it stays there.
-- Assumes nothing.
use Rattle.std.specs.Prelude.{ℕ, ◌+◌, ◌-◌, ◌/◌, ◌<◌, ◌≤◌, ◌≡◌, Bool, true, false}
use Rattle.tracker.specs.Range.{step_to}
use Rattle.tracker.specs.Walk.{Curve, Place, size_of, Calls}
use Rattle.tracker.specs.TwoSteps.{Lower, Peaked, Within, two_steps}

-- how far it is, going up or down, from a set point to another: 0 at it and past it
abbrev pub way_to : (up : Bool) (goal point : ℕ) → ℕ
way_to true goal point = goal - point
way_to false goal point = point - goal

-- on the way to the peak, from below or from above: the last move went that way, and so does the step
pub record Heads (up : Bool) (peak : ℕ) (p : Place) : Type 0 where
  pub away : 0 < way_to up peak p.point
  pub last : 0 < way_to up p.point p.was
  pub onward : p.step ≡ step_to up (size_of p)

-- in as many calls, and in none before, a move ends at the peak or past it; and the set point then stays
pub record Arrives (curve : Curve) (up : Bool) (peak : ℕ) (p : Place) (calls : ℕ) : Type 0 where
  pub not_yet : (n : ℕ) (q : Place) → Calls curve p n q → n < calls → 0 < way_to up peak q.point
  pub there : (q : Place) → Calls curve p calls q → way_to up peak q.point ≡ 0
  pub stays :
      (n : ℕ) (q : Place) → Calls curve p n q → calls ≤ n → Within (two_steps (size_of p)) peak q.point

-- how many steps of a size a way takes, the last one counted whole
abbrev pub steps_for : (size way : ℕ) → ℕ
steps_for size way = (way + (size - 1)) / size

-- it arrives in so many calls
abbrev pub ArrivesIn : (calls : (size way : ℕ) → ℕ) → Type 0
ArrivesIn calls =
    (curve : Curve) (up : Bool) (peak : ℕ) → Peaked Lower curve peak → (p : Place) → 1 ≤ size_of p →
    Heads up peak p →
    Arrives curve up peak p (calls (size_of p) (way_to up peak p.point))

abbrev pub GetsThere : Type 0
GetsThere = ArrivesIn steps_for
