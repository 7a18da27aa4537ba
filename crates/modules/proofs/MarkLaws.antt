-- Laws of a mask with a mark above its eight bits, halved a bit at a time: eight turns, and only the mark is left.
-- Assumes nothing.
use Prim.Native.Nat.{ℕ, zero, suc, ◌+◌, ◌/◌, ◌%◌, ◌^◌, ◌≤◌, ◌<◌}
use mathlib.Core.Path.{◌≡◌, ap, sym, ◌∙◌}
use mathlib.Core.Logic.{⊎_elim}
use native.Mathlib.Omega.{arith}
use native.Mathlib.Nat.{eq-or-lt_of_le, le-div_iff_mul-le}
use lib.Dec.{eqb}
use lib.Pow.{pow_pos, pow_mono, shr-shr}
use Rattle.basics.specs.Choice.{bit}

-- what is left after i turns
abbrev pub marked : (i mask : ℕ) → ℕ
marked i mask = (256 + mask) / 2 ^ i

pub marked_none : (mask : ℕ) → 256 + mask ≡ marked 0 mask
marked_none mask = omega arith

-- one turn more
pub marked_next : (i mask : ℕ) → marked i mask / 2 ≡ marked (i + 1) mask
marked_next i mask = shr-shr (256 + mask) i 1

-- before the eighth turn there is more than the mark
marked_before : (i mask : ℕ) → i < 8 → 2 ≤ marked i mask
marked_before i mask h =
    let p : 2 ^ i ≤ 2 ^ 7 = pow_mono {i = i} {j = 7} (omega arith) in
    (le-div_iff_mul-le {k = 2 ^ i} (pow_pos i)).1 (omega (arith, p))

-- where more than the mark is left, there is a turn to come
pub marked_more : (i mask rest : ℕ) → i ≤ 8 → mask < 256 → rest ≡ marked i mask → (rest ≡ 1 → ⊥) → i < 8
marked_more i mask rest l h e more =
    ⊎_elim (λ eight. absurd (more (e ∙ ap (λ j. marked j mask) eight ∙ omega arith))) (λ less. less) (eq-or-lt_of_le l)

-- where only the mark is left, there were eight
pub marked_end : (i mask rest : ℕ) → i ≤ 8 → rest ≡ marked i mask → rest ≡ 1 → i ≡ 8
marked_end i mask rest l e one =
    ⊎_elim (λ eight. eight) (λ less. absurd (omega (arith, marked_before i mask less, sym e ∙ one))) (eq-or-lt_of_le l)

-- a mask's own bits are the lowest, one after the other
marked_low : (i mask : ℕ) → i < 8 → marked i mask % 2 ≡ mask / 2 ^ i % 2
marked_low zero mask h = omega arith
marked_low (suc zero) mask h = omega arith
marked_low (suc (suc zero)) mask h = omega arith
marked_low (suc (suc (suc zero))) mask h = omega arith
marked_low (suc (suc (suc (suc zero)))) mask h = omega arith
marked_low (suc (suc (suc (suc (suc zero))))) mask h = omega arith
marked_low (suc (suc (suc (suc (suc (suc zero)))))) mask h = omega arith
marked_low (suc (suc (suc (suc (suc (suc (suc zero))))))) mask h = omega arith
marked_low (suc (suc (suc (suc (suc (suc (suc (suc i)))))))) mask h = absurd (omega arith)

pub marked_bit : (i mask : ℕ) → i < 8 → eqb (marked i mask % 2) 1 ≡ bit i mask
marked_bit i mask h = ap (λ n. eqb n 1) (marked_low i mask h)
