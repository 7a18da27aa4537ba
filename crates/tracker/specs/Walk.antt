-- The tracker on a panel's curve: the measured voltage is the set point, and the readings are the curve's own.
-- Assumes nothing.
use Rattle.std.specs.Prelude.{ℕ, suc, ◌*◌, ◌≤◌, ◌≡◌, ℤ, nat_abs, Ok}
use Rattle.tracker.specs.Tracker.{power, done, track_of}
use Rattle.tracker.specs.declared.Reading.{Reading}

-- a panel's curve: the power at each set point. It counts in parts of a microwatt, as many to one as it takes, so that
-- whole numbers keep no curve out
pub record Curve : Type 0 where
  pub parts : ℕ
  pub some : 1 ≤ parts
  pub at : ℕ → ℕ

-- a reading at a set point that is the curve's own: the voltage is the set point, and the product is the power there
pub record ReadAt (curve : Curve) (point : ℕ) (r : Reading) : Type 0 where
  pub voltage : r.millivolts ≡ point
  pub product : power r * curve.parts ≡ curve.at point

-- the tracker between two calls: where its last move started, the set point, and the step
pub record Place : Type 0 where
  pub was : ℕ
  pub point : ℕ
  pub step : ℤ

-- the size of its step
abbrev pub size_of : Place → ℕ
size_of p = nat_abs p.step

-- a done call, with readings of the curve's own where the last move started and where it ended
pub record Called (curve : Curve) (p q : Place) : Type 0 where
  pub before : Reading
  pub after : Reading
  pub read_before : ReadAt curve p.was before
  pub read_after : ReadAt curve p.point after
  pub tracks : track_of before after p.point p.step ≡ Ok (done q.point q.step)
  pub from : q.was ≡ p.point

-- so many calls, one after the other
pub data Calls (curve : Curve) (p : Place) : ℕ → Place → Type 0 where
  none : Calls curve p 0 p
  then_call : {n : ℕ} {q r : Place} → Calls curve p n q → Called curve q r → Calls curve p (suc n) r
