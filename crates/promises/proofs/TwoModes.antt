-- The modes of two craft, the second as good or better, and the crossings that they can make in the same tick.
-- Assumes nothing.
use Prim.Native.Nat.{◌≤◌}
use native.Mathlib.Omega.{arith}
use mathlib.Core.Path.{◌≡◌, refl}
use mathlib.Core.Bool.{Bool, true, false}
use lib.Dec.{T, ltb, ltb→lt, lt→ltb}
use Rattle.std.specs.Prelude.{Option, None, Some}
use Rattle.basics.specs.Choice.{when◌then◌else◌}
use Rattle.supervisor.specs.State.{mode_number, is_safe}
use Rattle.supervisor.specs.Control.{crossing_of}
use Rattle.supervisor.specs.declared.control.Crossing.{Crossing}
use Rattle.supervisor.specs.declared.control.Crossing.TheVariants.{Upward, Downward}
use Rattle.supervisor.specs.declared.state.Mode.{Mode}
use Rattle.supervisor.specs.declared.state.Mode.TheVariants.{DeployWait, Recovery, Safe}
use Rattle.supervisor.specs.declared.state.Battery.{Battery}

-- the same mode and deploy phase, or RECOVERY and SAFE
pub data AtMost : Mode → Mode → Type 0 where
  even : {m : Mode} → AtMost m m
  behind : AtMost Recovery Safe

pub number_at_most : {m n : Mode} → AtMost m n → mode_number m ≤ mode_number n
number_at_most even = omega arith
number_at_most behind = omega arith

pub safe_at_most : {m n : Mode} → AtMost m n → T (is_safe m) → T (is_safe n)
safe_at_most even t = t
safe_at_most behind t = tt

-- the crossings of two craft judged in the same tick
pub data Cross : Mode → Mode → Option Crossing → Option Crossing → Type 0 where
  both_level : {m n : Mode} → AtMost m n → Cross m n None None
  both_up : Cross Recovery Recovery (Some Upward) (Some Upward)
  second_up : Cross Recovery Recovery None (Some Upward)
  both_down : Cross Safe Safe (Some Downward) (Some Downward)
  first_down : Cross Safe Safe (Some Downward) None
  first_up : Cross Recovery Safe (Some Upward) None
  second_down : Cross Recovery Safe None (Some Downward)

-- by whether each tension is above ascend, and behind descend
judged : Mode → (above beneath : Bool) → Option Crossing
judged (DeployWait phase) above beneath = None
judged Recovery above beneath = when above then Some Upward else None
judged Safe above beneath = when beneath then Some Downward else None

crossing_judged : (m : Mode) (b : Battery) → crossing_of m b ≡ judged m (ltb b.ascend b.tension) (ltb b.tension b.descend)
unfolding judged
crossing_judged (DeployWait phase) b = refl
crossing_judged Recovery b = refl
crossing_judged Safe b = refl

judged_cross :
    {m n : Mode} → AtMost m n → (u u' d d' : Bool) → (T u → T u') → (T d' → T d) → (T u → T d' → ⊥) →
    Cross m n (judged m u d) (judged n u' d')
unfolding judged
judged_cross (even {m = DeployWait phase}) u u' d d' up down apart = both_level even
judged_cross (even {m = Recovery}) true true d d' up down apart = both_up
judged_cross (even {m = Recovery}) true false d d' up down apart = absurd (up tt)
judged_cross (even {m = Recovery}) false true d d' up down apart = second_up
judged_cross (even {m = Recovery}) false false d d' up down apart = both_level even
judged_cross (even {m = Safe}) u u' true true up down apart = both_down
judged_cross (even {m = Safe}) u u' true false up down apart = first_down
judged_cross (even {m = Safe}) u u' false true up down apart = absurd (down tt)
judged_cross (even {m = Safe}) u u' false false up down apart = both_level even
judged_cross behind true u' d true up down apart = absurd (apart tt tt)
judged_cross behind true u' d false up down apart = first_up
judged_cross behind false u' d true up down apart = second_down
judged_cross behind false u' d false up down apart = both_level behind

pub crosses :
    {m n : Mode} → AtMost m n → (a b : Battery) → a.tension ≤ b.tension → a.ascend ≡ b.ascend → a.descend ≡ b.descend → a.descend ≤ a.ascend →
    Cross m n (crossing_of m a) (crossing_of n b)
crosses {m} {n} order a b tension ascend descend apart =
    rw (crossing_judged m a, crossing_judged n b)
    (judged_cross order (ltb a.ascend a.tension) (ltb b.ascend b.tension) (ltb a.tension a.descend) (ltb b.tension b.descend)
    (omega (arith, ltb→lt, lt→ltb)) (omega (arith, ltb→lt, lt→ltb)) (omega (arith, ltb→lt)))
