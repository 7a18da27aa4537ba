-- Laws of a call: which way the step heads, and what a call in range comes to.
-- Assumes nothing.
use Prim.Native.Nat.{ℕ, ◌<◌, ◌≤◌}
use mathlib.Core.Path.{◌≡◌, refl, sym, ap, subst, ◌∙◌}
use mathlib.Core.Bool.{Bool, true, false, ◌&&◌, false≢true}
use lib.Dec.{T, leb, leb→le}
use lib.IntN.{ℤ, pos, neg_ℤ, nat_abs, ◌+ℤ◌}
use lib.Signed.{lt_z}
use borrow.Author.Tests.{le-leb, lt-leb}
use Rattle.std.proofs.Common.{Ok, Err, is_ok}
use Rattle.basics.specs.Choice.{when◌then◌else◌, within}
use Rattle.basics.proofs.ChoiceLaws.{holds, and_left, and_right}
use Rattle.tracker.specs.Tracker.{most_millivolts, most_milliamperes, longest_step, is_reading, is_step, power, headed, done, stopped, moved, in_range, out_of_range, track_of}
use Rattle.tracker.specs.declared.Reading.{Reading}
use Rattle.tracker.proofs.SignedLaws.{nat_abs_neg}

module _ (before after : Reading) (step : ℤ) where
  -- no power was lost: the step is kept
  pub headed_kept : power before ≤ power after → headed before after step ≡ step
  unfolding headed
  headed_kept h = simp (le-leb (power before) (power after) h)

  -- some was: it is turned
  pub headed_turned : power after < power before → headed before after step ≡ neg_ℤ step
  unfolding headed
  headed_turned h = simp (lt-leb (power before) (power after) h)

  -- either way it is as long
  pub headed_size : nat_abs (headed before after step) ≡ nat_abs step
  unfolding headed
  headed_size = by (leb (power before) (power after))
    where
      by : (kept : Bool) → nat_abs (when kept then step else neg_ℤ step) ≡ nat_abs step
      by true = refl
      by false = nat_abs_neg step

module _ (point : ℕ) (step : ℤ) where
  -- a move past the upper end, past the lower one, and within them
  pub moved_above : lt_z (pos most_millivolts) (pos point +ℤ step) ≡ true → moved point step ≡ done most_millivolts (neg_ℤ step)
  unfolding moved stopped
  moved_above e = simp e

  pub moved_below : lt_z (pos most_millivolts) (pos point +ℤ step) ≡ false → lt_z (pos point +ℤ step) (pos 0) ≡ true → moved point step ≡ done 0 (neg_ℤ step)
  unfolding moved stopped
  moved_below e f = simp (e, f)

  pub moved_inside : lt_z (pos most_millivolts) (pos point +ℤ step) ≡ false → lt_z (pos point +ℤ step) (pos 0) ≡ false → moved point step ≡ done (nat_abs (pos point +ℤ step)) step
  unfolding moved stopped
  moved_inside e f = simp (e, f)

module _ (before after : Reading) (point : ℕ) (step : ℤ) where
  -- what a call in range has in range
  pub record InRange : Type 0 where
    pub voltage_before : before.millivolts ≤ most_millivolts
    pub point_low : point ≤ most_millivolts
    pub is_step_law : T (is_step step)

  pub ranges : in_range before after point step ≡ true → InRange
  ranges e =
      let all = holds (in_range before after point step) e in
      let first = and_left (is_reading before && is_reading after && leb point most_millivolts) (is_step step) all in
      let readings = and_left (is_reading before && is_reading after) (leb point most_millivolts) first in
      record {
        voltage_before =
            leb→le before.millivolts most_millivolts
            (and_left (leb before.millivolts most_millivolts) (leb before.milliamperes most_milliamperes)
            (and_left (is_reading before) (is_reading after) readings));
        point_low = leb→le point most_millivolts (and_right (is_reading before && is_reading after) (leb point most_millivolts) first);
        is_step_law = and_right (is_reading before && is_reading after && leb point most_millivolts) (is_step step) all;
      }

  pub track_done : in_range before after point step ≡ true → track_of before after point step ≡ Ok (moved point (headed before after step))
  unfolding track_of
  track_done e = simp e

  pub track_refused : in_range before after point step ≡ false → track_of before after point step ≡ Err out_of_range
  unfolding track_of
  track_refused e = simp e

  -- a call that is done was in range
  pub done_in_range : is_ok (track_of before after point step) ≡ true → in_range before after point step ≡ true
  done_in_range d = by (in_range before after point step) refl
    where
      by : (b : Bool) → in_range before after point step ≡ b → in_range before after point step ≡ true
      by true e = e
      by false e = absurd (false≢true (ap is_ok (sym (track_refused e)) ∙ d))
