-- On its way to the peak a walk arrives in as many calls as steps fit into the way, the last one counted whole.
-- Assumes nothing.
use Prim.Native.Nat.{ℕ, zero, suc, ◌+◌, ◌-◌, ◌*◌, ◌<◌, ◌≤◌}
use native.Mathlib.Omega.{arith}
use native.Mathlib.Nat.{le_of_lt, div-add-mod', mod-lt, mul-le-mul_right}
use mathlib.Core.Path.{◌≡◌, refl}
use mathlib.Core.Bool.{Bool, true, false, not}
use lib.Dec.{ltb}
use borrow.Author.Tests.{ltb-true, ltb-false}
use Rattle.tracker.specs.Tracker.{most_millivolts}
use Rattle.tracker.specs.Range.{step_to}
use Rattle.tracker.specs.Walk.{Curve, Place, size_of, Called, Calls, none, then_call}
use Rattle.tracker.specs.TwoSteps.{Lower, Peaked, Within, two_steps}
use Rattle.tracker.specs.Arrival.{way_to, Arrives, steps_for, GetsThere}
use Rattle.tracker.proofs.WalkLaws.{Further, end_of, Went, on, ended, went, point_low, was_low, keeps, towards}
use Rattle.tracker.proofs.TwoSteps.{Around, crossed, stopped, ahead, around_within, around_next}

-- the steps for a way cover it, and one fewer does not
module _ (size way : ℕ) (some : 1 ≤ size) where
  steps_cover : way ≤ steps_for size way * size
  steps_cover = omega (arith, div-add-mod' (way + (size - 1)) size, mod-lt (way + (size - 1)) some)

  steps_least : steps_for size way * size < way + size
  steps_least = omega (arith, div-add-mod' (way + (size - 1)) size)

-- before the peak is not past it
not_past : (up : Bool) (peak point : ℕ) → 0 < way_to up peak point → way_to (not up) peak point ≡ 0
not_past true peak point h = omega arith
not_past false peak point h = omega arith

-- a step further is a step closer, as long as the way is
closer : (up : Bool) (size peak from to : ℕ) → Further up size from to → size ≤ way_to up peak from → way_to up peak to + size ≡ way_to up peak from
closer true size peak from to f h = omega arith
closer false size peak from to f h = omega arith

-- and there, if the way is no longer
at_last : (up : Bool) (size peak from to : ℕ) → Further up size from to → way_to up peak from ≤ size → way_to up peak to ≡ 0
at_last true size peak from to f h = omega arith
at_last false size peak from to f h = omega arith

-- the end beyond the peak is past it, and no nearer
at_end : (up : Bool) (peak : ℕ) → peak ≤ most_millivolts → way_to up peak (end_of up) ≡ 0
at_end true peak low = omega arith
at_end false peak low = omega arith

nearer : (up : Bool) (peak from : ℕ) → peak ≤ most_millivolts → way_to up peak from ≤ way_to up (end_of up) from
nearer true peak from low = omega arith
nearer false peak from low = omega arith

-- stopped by that end on its way, it is beside the peak
at_an_end : (up : Bool) (size peak from : ℕ) (r : Place) → way_to (not up) peak from ≡ 0 → r.point ≡ end_of up → way_to up (end_of up) from < size → r.step ≡ step_to (not up) size → Around size peak r
at_an_end true size peak from r clear g l s = stopped false s g (omega arith)
at_an_end false size peak from r clear g l s = stopped true s g (omega arith)

module _ (curve : Curve) (up : Bool) (peak : ℕ) (peaked : Peaked Lower curve peak) (size way calls : ℕ) (some : 1 ≤ size)
    (cover : way ≤ calls * size) (least : calls * size < way + size) where
  -- where a walk is after so many calls
  data On (n : ℕ) (q : Place) : Type 0 where
    -- still on its way, so many steps closer
    walking :
        n < calls → way_to up peak q.point + n * size ≡ way → 0 < way_to up q.point q.was →
        q.step ≡ step_to up size → On n q
    -- there, at or past the peak in the call that is told
    arrived : calls ≤ n → (n ≡ calls → way_to up peak q.point ≡ 0) → Around size peak q → On n q

  -- fewer calls than it takes leave some of the way
  left : (n : ℕ) → n < calls → n * size < way
  left n h = omega (arith, least, mul-le-mul_right size h)

  -- a call on the way
  module _ (n : ℕ) (q r : Place) (c : Called curve q r) where
    on_its_way : way_to (not up) peak q.point ≡ 0 → 0 < way_to up q.point q.was → q.step ≡ step_to up size → Went up size q.point r.point r.step
    on_its_way clear l s =
        went up size q.point r.point r.step (point_low curve q r c)
        (keeps curve q r c up size s (le_of_lt (towards curve peak peaked up q.was q.point (was_low curve q r c) l clear)))

    -- it walks on, as long as the way is longer than a step; then it is there
    walked : n < calls → way_to up peak q.point + n * size ≡ way → way_to (not up) peak q.point ≡ 0 → (more : Bool) → ltb (suc n) calls ≡ more → Went up size q.point r.point r.step → On (suc n) r
    walked h e clear true k (on g l s) =
        let more = left (suc n) (ltb-true (suc n) calls k) in
        walking (ltb-true (suc n) calls k) (omega (arith, e, more, closer up size peak q.point r.point g (omega (arith, e, more)))) (rw c.from (ahead up size q.point r.point some g)) s
    walked h e clear true k (ended g l s) =
        absurd (omega (arith, e, left (suc n) (ltb-true (suc n) calls k), nearer up peak q.point peaked.low, l))
    walked h e clear false k (on g l s) =
        let last : calls ≡ suc n = omega (arith, h, ltb-false (suc n) calls k) in
        let here : way_to up peak r.point ≡ 0 = at_last up size peak q.point r.point g (omega (arith, e, rw last at cover)) in
        arrived (omega (arith, last)) (λ e. here) (crossed up s (rw c.from g) (rw c.from clear) here)
    walked h e clear false k (ended g l s) =
        let last : calls ≡ suc n = omega (arith, h, ltb-false (suc n) calls k) in
        arrived (omega (arith, last)) (λ e. rw g (at_end up peak peaked.low)) (at_an_end up size peak q.point r clear g l s)

    on_next : On n q → On (suc n) r
    on_next (arrived h t a) = arrived (omega arith) (λ e. absurd (omega arith)) (around_next curve peak peaked size some q r c a)
    on_next (walking h e l s) =
        let clear : way_to (not up) peak q.point ≡ 0 = not_past up peak q.point (omega (arith, e, left n h)) in
        walked h e clear (ltb (suc n) calls) refl (on_its_way clear l s)

  on_after : (p : Place) → On 0 p → (n : ℕ) (q : Place) → Calls curve p n q → On n q
  on_after p o n q none = o
  on_after p o n q (then_call {n = m} {q = s} before c) = on_next m s q c (on_after p o m s before)

  arrives : (p : Place) → size_of p ≡ size → On 0 p → Arrives curve up peak p calls
  arrives p same o = record { not_yet = not_yet; there = there; stays = stays }
    where
      not_yet : (n : ℕ) (q : Place) → Calls curve p n q → n < calls → 0 < way_to up peak q.point
      not_yet n q cs h = by (on_after p o n q cs)
        where
          by : On n q → 0 < way_to up peak q.point
          by (walking k e l s) = omega (arith, e, left n k)
          by (arrived k t a) = absurd (omega arith)

      there : (q : Place) → Calls curve p calls q → way_to up peak q.point ≡ 0
      there q cs = by (on_after p o calls q cs)
        where
          by : On calls q → way_to up peak q.point ≡ 0
          by (walking k e l s) = absurd (omega arith)
          by (arrived k t a) = t refl

      stays : (n : ℕ) (q : Place) → Calls curve p n q → calls ≤ n → Within (two_steps (size_of p)) peak q.point
      stays n q cs h = by (on_after p o n q cs)
        where
          by : On n q → Within (two_steps (size_of p)) peak q.point
          by (walking k e l s) = absurd (omega arith)
          by (arrived k t a) = rw same (around_within size peak some peaked.low q a)

-- some way takes some calls
some_calls : (calls size way : ℕ) → way ≤ calls * size → 0 < way → 0 < calls
some_calls zero size way h k = omega arith
some_calls (suc n) size way h k = omega arith

pub gets_there : GetsThere
gets_there curve up peak peaked p some heads =
    let way : ℕ = way_to up peak p.point in
    let size : ℕ = size_of p in
    let cover = steps_cover size way some in
    arrives curve up peak peaked size way (steps_for size way) some cover (steps_least size way some) p refl
    (walking (some_calls (steps_for size way) size way cover heads.away) (omega arith) heads.last heads.onward)
