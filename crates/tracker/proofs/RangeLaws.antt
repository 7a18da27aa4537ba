-- A done call moves the set point by its step, or to an end, and keeps both in range; a refused one moves nothing.
-- Assumes nothing.
use Prim.Native.Nat.{ℕ, zero, suc, ◌+◌, ◌-◌, ◌≤◌}
use native.Mathlib.Omega.{arith}
use mathlib.Core.Path.{◌≡◌, refl, sym, ap, ◌∙◌}
use mathlib.Core.Bool.{Bool, true, false, cond}
use lib.Dec.{ltb}
use lib.IntN.{ℤ, pos, negsuc, neg_ℤ, nat_abs}
use borrow.Author.Tests.{le-ltb, ltb-true, ltb-false}
use Rattle.std.proofs.Common.{Ok, Err, is_ok}
use Rattle.basics.proofs.ChoiceLaws.{within_low}
use Rattle.tracker.specs.Tracker.{most_millivolts, longest_step, done, headed, stopped, moved, in_range, out_of_range, track_of, left_at}
use Rattle.tracker.specs.Range.{step_to, Moves, goes_up, goes_down, stops_above, stops_below, Kept, Stands, Range}
use Rattle.tracker.specs.declared.Reading.{Reading}
use Rattle.tracker.specs.declared.Tracked.{Tracked}
use Rattle.tracker.proofs.SignedLaws.{Signed, sign_of, step_to_size}
use Rattle.tracker.proofs.TrackerLaws.{headed_size, InRange, ranges, track_done, done_in_range}

module _ (size from : ℕ) (some : 1 ≤ size) (low : from ≤ most_millivolts) where
  moves_up : (past : Bool) → ltb most_millivolts (from + size) ≡ past → Moves size from true (moved from (pos size)).point (moved from (pos size)).step
  unfolding moved stopped
  moves_up true e = simp e (stops_above (ltb-true most_millivolts (from + size) e) refl refl)
  moves_up false e = simp (e, le-ltb (from + size) 0 (omega arith)) (goes_up (ltb-false most_millivolts (from + size) e) refl refl)

  moves_down : (e : ℕ) → size ≡ suc e → (past : Bool) → ltb from (suc e) ≡ past → (r : Tracked) → stopped (cond past (negsuc (suc e - suc from)) (pos (from - suc e))) (negsuc e) ≡ r → Moves size from false r.point r.step
  unfolding stopped
  moves_down e q true t r w =
      stops_below (omega (arith, ltb-true from (suc e) t)) (ap (λ (x : Tracked). x.point) (sym w)) (ap (λ (x : Tracked). x.step) (sym w) ∙ ap pos (sym q))
  moves_down e q false t r w =
      let v : done (from - suc e) (negsuc e) ≡ r = simp (le-ltb most_millivolts (from - suc e) (omega arith), le-ltb (from - suc e) 0 (omega arith)) at w in
      goes_down {to = r.point} (omega (arith, ltb-false from (suc e) t, ap (λ (x : Tracked). x.point) v)) (ap (λ (x : Tracked). x.step) (sym v) ∙ sym (ap (λ (n : ℕ). neg_ℤ (pos n)) q))

-- the move by a step of a size, up or down
moves : (size from : ℕ) (way : Bool) → 1 ≤ size → from ≤ most_millivolts → Moves size from way (moved from (step_to way size)).point (moved from (step_to way size)).step
unfolding moved
moves size from true some low = moves_up size from some low (ltb most_millivolts (from + size)) refl
moves zero from false some low = absurd (omega arith)
moves (suc e) from false some low = moves_down (suc e) from some low e refl (ltb from (suc e)) refl (moved from (negsuc e)) refl

-- it ends within the ends, and its step is as long
moves_low : (size from : ℕ) (way : Bool) (to : ℕ) (step : ℤ) → from ≤ most_millivolts → Moves size from way to step → to ≤ most_millivolts
moves_low size from true to step low (goes_up h e s) = h
moves_low size from true to step low (stops_above h e s) = omega arith
moves_low size from false to step low (goes_down e s) = omega arith
moves_low size from false to step low (stops_below h e s) = omega arith

moves_size : (size from : ℕ) (way : Bool) (to : ℕ) (step : ℤ) → Moves size from way to step → nat_abs step ≡ size
moves_size size from true to step (goes_up h e s) = ap nat_abs s ∙ step_to_size true size
moves_size size from true to step (stops_above h e s) = ap nat_abs s ∙ step_to_size false size
moves_size size from false to step (goes_down e s) = ap nat_abs s ∙ step_to_size false size
moves_size size from false to step (stops_below h e s) = ap nat_abs s ∙ step_to_size true size

module _ (before after : Reading) (point : ℕ) (step : ℤ) where
  -- a call in range moves by the step that is kept or turned
  pub track_moves : (way : Bool) (size : ℕ) (t : Tracked) → track_of before after point step ≡ Ok t → headed before after step ≡ step_to way size → Moves size point way t.point t.step
  track_moves way size t d h =
      let e : in_range before after point step ≡ true = done_in_range before after point step (ap is_ok d) in
      let r : InRange before after point step = ranges before after point step e in
      let same : nat_abs step ≡ size = sym (headed_size before after step) ∙ ap nat_abs h ∙ step_to_size way size in
      rw (ap (left_at point step) (sym d ∙ track_done before after point step e), h)
      (moves size point way (omega (arith, same, within_low 1 longest_step (nat_abs step) r.is_step_law)) r.point_low)

  done_kept : (t : Tracked) → track_of before after point step ≡ Ok t → Kept most_millivolts point step t
  done_kept t d =
      let r : InRange before after point step = ranges before after point step (done_in_range before after point step (ap is_ok d)) in
      let sign : Signed (nat_abs (headed before after step)) (headed before after step) = sign_of (headed before after step) in
      let m : Moves (nat_abs step) point sign.way t.point t.step = track_moves sign.way (nat_abs step) t d (sign.is ∙ ap (step_to sign.way) (headed_size before after step)) in
      record {
        low = moves_low (nat_abs step) point sign.way t.point t.step r.point_low m;
        size = moves_size (nat_abs step) point sign.way t.point t.step m;
        way = sign.way;
        move = m;
      }

  refused_stands : track_of before after point step ≡ Err out_of_range → Stands point step (left_at point step (track_of before after point step))
  refused_stands e = rw e (record { point_same = refl; step_same = refl })

pub range : Range
range =
    record {
      taken = λ before after point step e. ap is_ok (track_done before after point step e);
      kept = done_kept;
      refused = refused_stands;
    }
