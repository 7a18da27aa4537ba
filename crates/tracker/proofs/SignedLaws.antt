-- Laws of the signed step: its size, its negation, and what fits an `i32`.
-- Assumes nothing.
use Prim.Native.Nat.{ℕ, suc, zero, ◌<◌, ◌≤◌, ◌^◌, ◌-◌}
use native.Mathlib.Omega.{arith}
use mathlib.Core.Path.{◌≡◌, refl}
use mathlib.Core.Bool.{Bool, true, false, not, cond}
use lib.Dec.{T, ltb}
use lib.IntN.{ℤ, pos, negsuc, neg_ℤ, nat_abs, ◌+ℤ◌}
use lib.Signed.{mag}
use mir.Syntax.{w32}
use mir.Val.{SFits}
use Rattle.basics.proofs.ChoiceLaws.{within_high}
use Rattle.tracker.specs.Tracker.{most_millivolts, longest_step, is_step}
use Rattle.tracker.specs.Range.{step_to}

-- a step in range is at most 500 long
step_short : (z : ℤ) → T (is_step z) → nat_abs z ≤ longest_step
step_short z t = within_high 1 longest_step (nat_abs z) t

-- a negation is as long
pub nat_abs_neg : (z : ℤ) → nat_abs (neg_ℤ z) ≡ nat_abs z
nat_abs_neg (pos zero) = refl
nat_abs_neg (pos (suc n)) = refl
nat_abs_neg (negsuc n) = refl

either_short : (t : Bool) (x y : ℤ) (n : ℕ) → mag x < n → mag y < n → mag (cond t x y) < n
either_short true x y n h k = h
either_short false x y n h k = k

sum_short : (p : ℕ) (z : ℤ) → p ≤ most_millivolts → nat_abs z ≤ longest_step → SFits w32 (pos p +ℤ z)
sum_short p (pos n) h k = record { sfits = omega arith }
sum_short p (negsuc n) h k =
    record { sfits = either_short (ltb p (suc n)) (negsuc (suc n - suc p)) (pos (p - suc n)) (2 ^ 31) (omega arith) (omega arith) }

-- a set point and a step sum to what fits an `i32`
pub sum_fits : (p : ℕ) (z : ℤ) → p ≤ most_millivolts → T (is_step z) → SFits w32 (pos p +ℤ z)
sum_fits p z h t = sum_short p z h (step_short z t)

-- a step of a size is up or down
pub record Signed (size : ℕ) (step : ℤ) : Type 0 where
  pub way : Bool
  pub is : step ≡ step_to way size

pub sign_of : (step : ℤ) → Signed (nat_abs step) step
sign_of (pos n) = record { way = true; is = refl }
sign_of (negsuc n) = record { way = false; is = refl }

pub step_to_size : (up : Bool) (size : ℕ) → nat_abs (step_to up size) ≡ size
step_to_size true size = refl
step_to_size false zero = refl
step_to_size false (suc n) = refl

-- turned, it is the other way
pub step_to_turned : (up : Bool) (size : ℕ) → neg_ℤ (step_to up size) ≡ step_to (not up) size
step_to_turned true size = refl
step_to_turned false zero = refl
step_to_turned false (suc n) = refl
