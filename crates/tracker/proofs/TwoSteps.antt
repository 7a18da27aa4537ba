-- Once a move has crossed the peak, the set point is less than two steps from it, after any number of calls.
-- Assumes nothing.
use Prim.Native.Nat.{ℕ, zero, suc, ◌<◌, ◌≤◌}
use native.Mathlib.Omega.{arith}
use native.Mathlib.Nat.{le_of_lt, lt_irrefl, lt_of_lt_of_le}
use mathlib.Core.Path.{◌≡◌, refl, ap, ◌∙◌}
use mathlib.Core.Bool.{Bool, true, false, not}
use lib.Dec.{leb}
use lib.IntN.{nat_abs}
use borrow.Author.Tests.{leb-true, leb-false}
use Rattle.tracker.specs.Tracker.{most_millivolts, longest_step}
use Rattle.tracker.specs.Range.{step_to}
use Rattle.tracker.specs.Walk.{Curve, Place, size_of, Called, Calls, none, then_call}
use Rattle.tracker.specs.TwoSteps.{Lower, Peaked, Crosses, upward, downward, Within, two_steps, TwoSteps}
use Rattle.tracker.specs.Arrival.{way_to}
use Rattle.tracker.proofs.SignedLaws.{step_to_size}
use Rattle.tracker.proofs.WalkLaws.{Further, end_of, Went, on, ended, went, some_way}
use Rattle.tracker.proofs.WalkLaws.{some_step, short_step, point_low, was_low, keeps, turns, towards, away}

-- the tracker after a crossing
pub data Around (size peak : ℕ) (p : Place) : Type 0 where
  -- its last move, a step up or down as the step still is, crossed the peak
  crossed :
      (up : Bool) → p.step ≡ step_to up size → Further up size p.was p.point →
      way_to (not up) peak p.was ≡ 0 → way_to up peak p.point ≡ 0 → Around size peak p
  -- it went on beyond the peak, and has lost power
  beyond :
      (up : Bool) → p.step ≡ step_to up size → Further up size p.was p.point →
      way_to up peak p.was ≡ 0 → way_to (not up) peak p.was < size → Around size peak p
  -- it went back towards the peak, and has won power
  again :
      (up : Bool) → p.step ≡ step_to up size → Further up size p.was p.point →
      way_to (not up) peak p.point ≡ 0 → way_to up peak p.point < size → Around size peak p
  -- it was stopped by an end, beside which the peak is, and its step leads away from there
  stopped :
      (up : Bool) → p.step ≡ step_to up size → p.point ≡ end_of (not up) →
      way_to up peak p.point < two_steps size → Around size peak p

pub around_within : (size peak : ℕ) → 1 ≤ size → peak ≤ most_millivolts → (p : Place) → Around size peak p → Within (two_steps size) peak p.point
around_within size peak some low p (crossed true s f h k) = record { not_below = omega arith; not_above = omega arith }
around_within size peak some low p (crossed false s f h k) = record { not_below = omega arith; not_above = omega arith }
around_within size peak some low p (beyond true s f h k) = record { not_below = omega arith; not_above = omega arith }
around_within size peak some low p (beyond false s f h k) = record { not_below = omega arith; not_above = omega arith }
around_within size peak some low p (again true s f h k) = record { not_below = omega arith; not_above = omega arith }
around_within size peak some low p (again false s f h k) = record { not_below = omega arith; not_above = omega arith }
around_within size peak some low p (stopped true s e h) = record { not_below = omega arith; not_above = omega arith }
around_within size peak some low p (stopped false s e h) = record { not_below = omega arith; not_above = omega arith }

-- a step further is further
pub ahead : (up : Bool) (size from to : ℕ) → 1 ≤ size → Further up size from to → 0 < way_to up to from
ahead true size from to some f = omega arith
ahead false size from to some f = omega arith

module _ (curve : Curve) (peak : ℕ) (peaked : Peaked Lower curve peak) (size : ℕ) (some : 1 ≤ size) (p q : Place) (c : Called curve p q) where
  -- a move across the peak that lost no power did not start at it
  short_of : (up : Bool) → Further up size p.was p.point → curve.at p.was ≤ curve.at p.point → 0 < way_to up peak p.was
  short_of up f h = by (way_to up peak p.was) refl
    where
      by : (n : ℕ) → way_to up peak p.was ≡ n → 0 < way_to up peak p.was
      by zero e =
          absurd (lt_irrefl _ (lt_of_lt_of_le (away curve peak peaked up p.was p.point (point_low curve p q c) (ahead up size p.was p.point some f) e) h))
      by (suc n) e = omega (arith, e)

  -- on from a crossing: beyond the peak, or to an end
  crossed_on : (up : Bool) → Further up size p.was p.point → way_to up peak p.point ≡ 0 → 0 < way_to up peak p.was → Went up size p.point q.point q.step → Around size peak q
  crossed_on true f k h (on g l s) = beyond true s (omega (arith, c.from)) (omega (arith, c.from)) (omega (arith, c.from))
  crossed_on true f k h (ended e g s) = stopped false s e (omega arith)
  crossed_on false f k h (on g l s) = beyond false s (omega (arith, c.from)) (omega (arith, c.from)) (omega (arith, c.from))
  crossed_on false f k h (ended e g s) = stopped true s e (omega arith)

  -- back from where it came: there is no end in between
  crossed_back : (up : Bool) → Further up size p.was p.point → way_to (not up) peak p.was ≡ 0 → way_to up peak p.point ≡ 0 → Went (not up) size p.point q.point q.step → Around size peak q
  crossed_back true f h k (on g l s) = crossed false s (omega (arith, c.from)) (omega (arith, c.from)) (omega arith)
  crossed_back true f h k (ended e g s) = absurd (omega arith)
  crossed_back false f h k (on g l s) = crossed true s (omega (arith, c.from)) (omega (arith, c.from)) (omega arith)
  crossed_back false f h k (ended e g s) = absurd (omega (arith, was_low curve p q c))

  beyond_back : (up : Bool) → Further up size p.was p.point → way_to up peak p.was ≡ 0 → way_to (not up) peak p.was < size → Went (not up) size p.point q.point q.step → Around size peak q
  beyond_back true f h k (on g l s) = again false s (omega (arith, c.from)) (omega arith) (omega arith)
  beyond_back true f h k (ended e g s) = absurd (omega arith)
  beyond_back false f h k (on g l s) = again true s (omega (arith, c.from)) (omega arith) (omega arith)
  beyond_back false f h k (ended e g s) = absurd (omega (arith, was_low curve p q c))

  -- on towards the peak: across it, or to an end
  again_on : (up : Bool) → way_to (not up) peak p.point ≡ 0 → way_to up peak p.point < size → Went up size p.point q.point q.step → Around size peak q
  again_on true h k (on g l s) = crossed true s (omega (arith, c.from)) (omega (arith, c.from)) (omega arith)
  again_on true h k (ended e g s) = stopped false s e (omega arith)
  again_on false h k (on g l s) = crossed false s (omega (arith, c.from)) (omega (arith, c.from)) (omega arith)
  again_on false h k (ended e g s) = stopped true s e (omega arith)

  -- away from an end: across the peak, or towards it
  leaves : (up : Bool) → size ≤ longest_step → p.point ≡ end_of (not up) → way_to up peak p.point < two_steps size → Went up size p.point q.point q.step → Around size peak q
  leaves true short e h (ended g k s) = absurd (omega arith)
  leaves true short e h (on g l s) = by (leb peak q.point) refl
    where
      by : (there : Bool) → leb peak q.point ≡ there → Around size peak q
      by true t = crossed true s (omega (arith, c.from)) (omega (arith, c.from)) (omega (arith, leb-true peak q.point t))
      by false t = again true s (omega (arith, c.from)) (omega (arith, leb-false peak q.point t)) (omega arith)
  leaves false short e h (ended g k s) = absurd (omega arith)
  leaves false short e h (on g l s) = by (leb q.point peak) refl
    where
      by : (there : Bool) → leb q.point peak ≡ there → Around size peak q
      by true t = crossed false s (omega (arith, c.from)) (omega (arith, c.from, peaked.low)) (omega (arith, leb-true q.point peak t))
      by false t = again false s (omega (arith, c.from)) (omega (arith, leb-false q.point peak t)) (omega arith)

  -- or it still stands there
  stands : (up : Bool) → p.point ≡ end_of (not up) → way_to up peak p.point < two_steps size → Went (not up) size p.point q.point q.step → Around size peak q
  stands true e h (on g l s) = absurd (omega arith)
  stands true e h (ended g k s) = stopped true s g (omega arith)
  stands false e h (on g l s) = absurd (omega arith)
  stands false e h (ended g k s) = stopped false s g (omega arith)

  -- what a call makes of a move that lost no power, and of one that lost some
  kept : (up : Bool) → p.step ≡ step_to up size → curve.at p.was ≤ curve.at p.point → Went up size p.point q.point q.step
  kept up s h = went up size p.point q.point q.step (point_low curve p q c) (keeps curve p q c up size s h)

  turned : (up : Bool) → p.step ≡ step_to up size → curve.at p.point < curve.at p.was → Went (not up) size p.point q.point q.step
  turned up s h = went (not up) size p.point q.point q.step (point_low curve p q c) (turns curve p q c up size s h)

  pub around_next : Around size peak p → Around size peak q
  around_next (crossed up s f h k) = by (leb (curve.at p.was) (curve.at p.point)) refl
    where
      by : (no_loss : Bool) → leb (curve.at p.was) (curve.at p.point) ≡ no_loss → Around size peak q
      by true e =
          let no_less = leb-true (curve.at p.was) (curve.at p.point) e in
          crossed_on up f k (short_of up f no_less) (kept up s no_less)
      by false e = crossed_back up f h k (turned up s (leb-false (curve.at p.was) (curve.at p.point) e))
  around_next (beyond up s f h k) =
      beyond_back up f h k
      (turned up s (away curve peak peaked up p.was p.point (point_low curve p q c) (ahead up size p.was p.point some f) h))
  around_next (again up s f h k) =
      again_on up h k
      (kept up s (le_of_lt (towards curve peak peaked up p.was p.point (was_low curve p q c) (ahead up size p.was p.point some f) h)))
  around_next (stopped up s e h) = by (leb (curve.at p.was) (curve.at p.point)) refl
    where
      short : size ≤ longest_step
      short = omega (arith, ap nat_abs s ∙ step_to_size up size, short_step curve p q c)

      by : (no_loss : Bool) → leb (curve.at p.was) (curve.at p.point) ≡ no_loss → Around size peak q
      by true t = leaves up short e h (kept up s (leb-true (curve.at p.was) (curve.at p.point) t))
      by false t = stands up e h (turned up s (leb-false (curve.at p.was) (curve.at p.point) t))

-- the call whose move crosses the peak
module _ (curve : Curve) (peak : ℕ) (low : peak ≤ most_millivolts) (p q : Place) (c : Called curve p q) where
  crossing : (up : Bool) → Crosses peak p.point q.point → Went up (size_of p) p.point q.point q.step → Around (size_of p) peak q
  crossing true (upward h k) (on g l s) = crossed true s (omega (arith, c.from)) (omega (arith, c.from)) (omega arith)
  crossing true (downward h k) (on g l s) = absurd (omega (arith, some_step curve p q c))
  crossing true (upward h k) (ended e g s) = stopped false s e (omega arith)
  crossing true (downward h k) (ended e g s) = stopped false s e (omega (arith, some_step curve p q c))
  crossing false (downward h k) (on g l s) = crossed false s (omega (arith, c.from)) (omega (arith, c.from)) (omega arith)
  crossing false (upward h k) (on g l s) = absurd (omega (arith, some_step curve p q c))
  crossing false (downward h k) (ended e g s) = stopped true s e (omega arith)
  crossing false (upward h k) (ended e g s) = stopped true s e (omega (arith, some_step curve p q c))

  around_crossed : Crosses peak p.point q.point → Around (size_of p) peak q
  around_crossed x =
      let way : Bool = (some_way curve p q c).way in
      crossing way x (went way (size_of p) p.point q.point q.step (point_low curve p q c) (some_way curve p q c).move)

module _ (curve : Curve) (peak : ℕ) (peaked : Peaked Lower curve peak) (size : ℕ) (some : 1 ≤ size) (q : Place) where
  around_after : (n : ℕ) (r : Place) → Around size peak q → Calls curve q n r → Around size peak r
  around_after n r a none = a
  around_after n r a (then_call {q = s} before c) = around_next curve peak peaked size some s r c (around_after _ s a before)

pub two_steps_law : TwoSteps
two_steps_law curve peak peaked p q c x n r calls =
    let some = some_step curve p q c in
    around_within (size_of p) peak some peaked.low r
    (around_after curve peak peaked (size_of p) some q n r (around_crossed curve peak peaked.low p q c x) calls)
