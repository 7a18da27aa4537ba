-- A hair more than the tracker promises is false, each at a curve and a walk that are defined by name.
-- Assumes nothing.
use Prim.Native.Nat.{ℕ, ◌+◌, ◌-◌, ◌*◌, ◌/◌, ◌<◌, ◌≤◌}
use native.Mathlib.Omega.{arith}
use mathlib.Core.Path.{◌≡◌, refl}
use mathlib.Core.Bool.{Bool, true, false}
use lib.Dec.{leb, ltb}
use lib.IntN.{pos}
use Rattle.std.proofs.Common.{Ok}
use borrow.Author.Tests.{le-leb, lt-ltb, le-ltb, ltb-false, leb-true, leb-false}
use Rattle.basics.specs.Choice.{when◌then◌else◌}
use Rattle.tracker.specs.Tracker.{most_millivolts, power, done, headed, stopped, moved, track_of}
use Rattle.tracker.specs.Range.{RangeTo}
use Rattle.tracker.specs.Walk.{Curve, ReadAt, Place, size_of, Called, Calls, none, then_call}
use Rattle.tracker.specs.TwoSteps.{Lower, Peaked, upward, two_steps, StaysWithin}
use Rattle.tracker.specs.Arrival.{ArrivesIn}
use Rattle.tracker.specs.declared.Reading.{Reading}

-- a reading
abbrev reads : (millivolts milliamperes : ℕ) → Reading
reads millivolts milliamperes = record { millivolts = millivolts; milliamperes = milliamperes }

-- a tracker on its way up in steps of 100
abbrev at : (point : ℕ) → Place
at point = record { was = point - 100; point = point; step = pos 100 }

-- 4,099 mA up to the peak at 4,000 mV, and then a slow fall: 4,099 mV at 3,999 mA is as much as 3,999 mV at 4,099 mA
steep : Curve
steep = record { parts = 1; some = omega arith; at = λ v. when ltb v 4000 then 4099 * v else 16396000 - v }

steep_peaked : Peaked Lower steep 4000
unfolding steep
steep_peaked = record { low = omega arith; rises = rises; falls = falls }
  where
    rises : (a b : ℕ) → a < b → b ≤ 4000 → steep.at a < steep.at b
    rises a b h k = simp (lt-ltb a 4000 (omega arith)) (by (ltb b 4000) refl)
      where
        by : (low : Bool) → ltb b 4000 ≡ low → 4099 * a < (when low then 4099 * b else 16396000 - b)
        by true e = omega arith
        by false e = omega (arith, ltb-false b 4000 e)

    falls : (a b : ℕ) → 4000 ≤ a → a < b → b ≤ most_millivolts → steep.at b < steep.at a
    falls a b h k l = simp (le-ltb a 4000 h, le-ltb b 4000 (omega arith)) (omega arith)

-- a done call, from its two readings
abbrev call :
    (curve : Curve) (p q : Place) (before after : Reading) → ReadAt curve p.was before → ReadAt curve p.point after →
    track_of before after p.point p.step ≡ Ok (done q.point q.step) → q.was ≡ p.point → Called curve p q
call curve p q before after b a t f =
    record { before = before; after = after; read_before = b; read_after = a; tracks = t; from = f }

abbrev own : {curve : Curve} {point : ℕ} {r : Reading} → r.millivolts ≡ point → power r * curve.parts ≡ curve.at point → ReadAt curve point r
own v p = record { voltage = v; product = p }

-- the move across its peak, and the next: as much power as before, and on
across : Called steep (at 3999) (at 4099)
unfolding steep track_of headed moved stopped
across = call steep (at 3999) (at 4099) (reads 3899 4099) (reads 3999 4099) (own refl refl) (own refl refl) refl refl

onward : Called steep (at 4099) (at 4199)
unfolding steep track_of headed moved stopped
onward = call steep (at 4099) (at 4199) (reads 3999 4099) (reads 4099 3999) (own refl refl) (own refl refl) refl refl

-- whatever it stays within, it strays by 199
strays : (reach : ℕ → ℕ) → StaysWithin Lower Called reach → 4199 < 4000 + reach 100
strays reach says =
    (says steep 4000 steep_peaked (at 3999) (at 4099) across (upward (omega arith) (omega arith)) 1 (at 4199) (then_call none onward)).not_above

-- two steps less a millivolt
pub not_nearer : StaysWithin Lower Called (λ size. 2 * size - 1) → ⊥
not_nearer says = omega (arith, strays (λ size. 2 * size - 1) says)

-- and so more than one step
pub not_one_step : StaysWithin Lower Called (λ size. size + 1) → ⊥
not_one_step says = omega (arith, strays (λ size. size + 1) says)

-- a set point that somebody else has set
pub record Jumped (curve : Curve) (p q : Place) : Type 0 where
  pub from : q.was ≡ p.point
  pub size : size_of q ≡ size_of p

-- a jump that is not the tracker's own: from a step below the peak to three above it
pub not_by_a_jump : StaysWithin Lower Jumped two_steps → ⊥
not_by_a_jump says =
    let q : Place = record { was = 3900; point = 4300; step = pos 100 } in
    omega (arith, (says steep 4000 steep_peaked (at 3900) q (record { from = refl; size = refl }) (upward (omega arith) (omega arith)) 0 q none).not_above)

-- no higher than
abbrev pub NoHigher : ℕ → ℕ → Type 0
NoHigher a b = a ≤ b

-- a flat top from 4,000 to 4,200 mV: 861, 840 and 820 mA at its three readings
flat : Curve
flat = record { parts = 1; some = omega arith; at = λ v. when ltb v 4000 then 861 * v else when leb v 4200 then 3444000 else 3448200 - v }

flat_peaked : Peaked NoHigher flat 4000
unfolding flat
flat_peaked = record { low = omega arith; rises = rises; falls = falls }
  where
    rises : (a b : ℕ) → a < b → b ≤ 4000 → flat.at a < flat.at b
    rises a b h k = simp (lt-ltb a 4000 (omega arith), le-leb b 4200 (omega arith)) (by (ltb b 4000) refl)
      where
        by : (low : Bool) → ltb b 4000 ≡ low → 861 * a < (when low then 861 * b else 3444000)
        by true e = omega arith
        by false e = omega arith

    falls : (a b : ℕ) → 4000 ≤ a → a < b → b ≤ most_millivolts → flat.at b ≤ flat.at a
    falls a b h k l = simp (le-ltb a 4000 h, le-ltb b 4000 (omega arith)) (by (leb a 4200) (leb b 4200) refl refl)
      where
        by : (x y : Bool) → leb a 4200 ≡ x → leb b 4200 ≡ y → (when y then 3444000 else 3448200 - b) ≤ (when x then 3444000 else 3448200 - a)
        by true true e f = omega arith
        by true false e f = omega (arith, leb-false b 4200 f)
        by false true e f = omega (arith, leb-false a 4200 e, leb-true b 4200 f)
        by false false e f = omega arith

-- the way up to it, and along it
climbs : Called flat (at 3900) (at 4000)
unfolding flat track_of headed moved stopped
climbs = call flat (at 3900) (at 4000) (reads 3800 861) (reads 3900 861) (own refl refl) (own refl refl) refl refl

along : Calls flat (at 4000) 3 (at 4300)
unfolding flat track_of headed moved stopped
along =
    then_call
    (then_call
    (then_call none (call flat (at 4000) (at 4100) (reads 3900 861) (reads 4000 861) (own refl refl) (own refl refl) refl refl))
    (call flat (at 4100) (at 4200) (reads 4000 861) (reads 4100 840) (own refl refl) (own refl refl) refl refl))
    (call flat (at 4200) (at 4300) (reads 4100 840) (reads 4200 820) (own refl refl) (own refl refl) refl refl)

-- a flat top: it walks on, more than two steps
pub not_on_a_flat_top : StaysWithin NoHigher Called two_steps → ⊥
not_on_a_flat_top says =
    omega (arith, (says flat 4000 flat_peaked (at 3900) (at 4000) climbs (upward (omega arith) (omega arith)) 3 (at 4300) along).not_above)

-- in the calls of whole steps alone it is not there yet
pub not_rounded_down : ArrivesIn (λ size way. way / size) → ⊥
not_rounded_down says =
    omega (arith, (says steep true 4000 steep_peaked (at 3950) (omega arith) (record { away = omega arith; last = omega arith; onward = refl })).there (at 3950) none)

-- a set point may come to 20,000
pub not_below_the_end : RangeTo 19999 → ⊥
unfolding track_of headed moved stopped
not_below_the_end says = omega (arith, (says.kept (reads 0 0) (reads 0 0) 19900 (pos 100) (done 20000 (pos 100)) refl).low)
